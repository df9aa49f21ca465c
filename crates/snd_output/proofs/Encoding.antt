-- A file of ADPCM that is being made: numbers are given behind those before, and at last zeros fill the last block.
use Rattle.std.proofs.Common.{◌≡◌, ◌∙◌, ap, sym, subst, inl, ℕ, ◌+◌, ◌/◌, ◌%◌, ◌^◌, ◌≤◌, ℤ, Bool, true, false, cond, List, [], ◌++◌, length, refl, arith}
use Rattle.std.proofs.lemmas.List.{append-nil, drop_all}
use Rattle.snd_block_writer.specs.Coded.{coded, whole}
use Rattle.snd_block_writer.proofs.Public.{coded_size}
use Rattle.snd_chunks.specs.Written.{NewChunk}
use Rattle.snd_container.specs.Values.{closing}
use Rattle.snd_disk.specs.Bytes.{over}
use Rattle.snd_layout.specs.Blocks.{is_adpcm}
use Rattle.snd_layout.specs.Params.{Parameters, data_bytes}
use Rattle.snd_layout.specs.Shape.{KeepsRule, Shape, end, room}
use Rattle.snd_layout.specs.declared.kind.Kind.{Kind}
use Rattle.snd_patch.specs.Sealed.{FieldsLieApart, sealed, with_fields}
use Rattle.snd_edits.specs.Editing.{Editing}
use Rattle.snd_edits.specs.Edits as fixed
use Rattle.snd_edits.specs.Edits.{sealed_where, written_shape}
use Rattle.snd_edits.specs.Encoding.{MayEncode, counting, encoded_to, encoded_whole, over_blocks}
use Rattle.snd_edits.specs.Reading.{FitCodec}
use Rattle.snd_edits.specs.Relaid.{head_with, shape_with}
use Rattle.snd_edits.proofs.Public.{encoded_stays, fields_lie_apart, room_on_disk}
use Rattle.snd_output.specs.Laws.{EncodedIsMaking, FilledIsMade}
use Rattle.snd_output.specs.Made.{HoldsBlocks, IsMaking, frame_count, made_file}
use Rattle.snd_output.proofs.MadeBlocks.{channels, whole_least, whole_more}
use Rattle.snd_output.proofs.Finished.{making_params, sealed_whole}
use Rattle.snd_output.proofs.Lengthened.{fit_joined}
use Rattle.snd_output.proofs.Lists.{over_behind}
use Rattle.snd_output.proofs.Numbers.{counts_joined}

-- a layout counts more frames, for which its head has room
rule_for : (h : Shape) (n : ℕ) → KeepsRule h → data_bytes h.params n ≤ room h → end h n + 8 ≤ 2 ^ 63 → KeepsRule (record h { frames = n })
rule_for h n rule fits ends = record {
  fits = rule.fits;
  inner_size = rule.inner_size;
  outer_size = rule.outer_size;
  side_size = rule.side_size;
  inner_end = rule.inner_end;
  outer_end = rule.outer_end;
  side_end = rule.side_end;
  sound_start = rule.sound_start;
  pieces_placed = rule.pieces_placed;
  data_end = ends;
  in_room = λ known. omega (arith, fits);
  declared_fits = rule.declared_fits;
  reserved = rule.reserved;
}

module _ (kind : Kind) (p : Parameters) (pieces : List NewChunk) (xs : List ℤ) (e : Editing) (m : IsMaking kind p pieces xs e) (is : is_adpcm p.codec ≡ true) where
  abbrev head : List ℕ
  head = head_with kind p pieces

  abbrev says : Shape
  says = shape_with kind p pieces

  holds : HoldsBlocks kind p pieces xs e
  holds = m.blocks is

  same_params : e.shape.params ≡ p
  same_params = making_params kind p pieces xs e m

  some : 1 ≤ p.channels
  some = channels p holds.form

  -- the blocks of more numbers are put over those that are there
  puts : (ys : List ℤ) → length (coded p (whole p xs)) ≤ length (coded p ys) → over_blocks e.bytes e.shape ys ≡ head ++ coded p ys
  puts ys few =
      ap (λ (l : List ℕ). over l e.shape.start (coded e.shape.params ys)) holds.bytes
      ∙ ap (λ (s : Shape). over (head ++ coded p (whole p xs)) s.start (coded s.params ys)) holds.shape
      ∙ ap (λ (q : Parameters). over (head ++ coded p (whole p xs)) says.start (coded q ys)) m.params
      ∙ over_behind head (coded p (whole p xs)) (coded p ys) says.start m.start
      ∙ ap (λ (l : List ℕ). head ++ coded p ys ++ l) (drop_all {X = ℕ} (length (coded p ys)) (coded p (whole p xs)) few)
      ∙ append-nil (head ++ coded p ys)

  -- ---- numbers are given

  module _ (ys : List ℤ) (may : MayEncode ys e.shape e.write_place) where
    abbrev zs : List ℤ
    zs = whole p (xs ++ ys)

    all_is : e.given ++ ys ≡ xs ++ ys
    all_is = ap (λ (l : List ℤ). l ++ ys) holds.given

    whole_is : whole e.shape.params (e.given ++ ys) ≡ whole p (xs ++ ys)
    whole_is = ap (λ (q : Parameters). whole q (e.given ++ ys)) same_params ∙ ap (whole p) all_is

    bytes_are : (encoded_to ys e).bytes ≡ head ++ coded p (whole p (xs ++ ys))
    bytes_are =
        let ws = whole e.shape.params (e.given ++ ys) in
        ap (λ (t : Bool). sealed_where t (over_blocks e.bytes (counting e.shape ws) ws) (counting e.shape ws) (counting e.shape ws).frames) m.automatic
        ∙ ap (λ (l : List ℤ). over_blocks e.bytes e.shape l) whole_is
        ∙ puts zs (whole_more p holds.form xs ys)

    shape_is : (encoded_to ys e).shape ≡ record says { frames = frame_count p (whole p (xs ++ ys)) }
    shape_is =
        let ws = whole e.shape.params (e.given ++ ys) in
        ap (λ (t : Bool). written_shape t (counting e.shape ws) (counting e.shape ws).frames) m.automatic
        ∙ ap (λ (l : List ℤ). record e.shape { frames = length l / e.shape.params.channels }) whole_is
        ∙ ap (λ (s : Shape). record s { frames = length zs / s.params.channels }) holds.shape
        ∙ ap (λ (q : Parameters). record says { frames = length zs / q.channels }) m.params

    joins : (frame_count p (xs ++ ys) ≡ frame_count p xs + length ys / p.channels) × (length (xs ++ ys) % p.channels ≡ 0)
    joins = counts_joined p.channels xs ys some m.whole (subst (λ (q : Parameters). length ys % q.channels ≡ 0) same_params may.frames.whole)

    pub encoded_making : IsMaking kind p pieces (xs ++ ys) (encoded_to ys e)
    encoded_making = record {
      kind_is = m.kind_is;
      kept = m.kept;
      params = m.params;
      start = m.start;
      free = m.free;
      whole = joins.1;
      in_range = fit_joined p.codec xs ys m.in_range (subst (λ (q : Parameters). FitCodec q.codec ys) same_params may.frames.in_range);
      numbers = λ plain. absurd (let no : true ≡ false = sym is ∙ plain in cc);
      blocks = λ same. record { form = holds.form; told = holds.told; encoded = encoded_stays head e ys holds.encoded may; given = all_is; shape = shape_is; bytes = bytes_are };
      write_place =
          let frames : length ys / e.shape.params.channels ≡ length ys / p.channels = ap (λ (q : Parameters). length ys / q.channels) same_params in
          (let e' : e.write_place + length ys / e.shape.params.channels ≡ frame_count p xs + length ys / p.channels = omega (arith, m.write_place, frames) in e') ∙ sym joins.0;
      automatic = m.automatic;
    }

  -- ---- zeros fill the last block

  abbrev n : ℕ
  n = frame_count p xs

  rule_then : KeepsRule (record says { frames = n })
  rule_then =
      let now = record says { frames = frame_count p (whole p xs) } in
      let was : KeepsRule now = subst KeepsRule holds.shape holds.encoded.keeps.rule in
      let fits : data_bytes says.params n ≤ room now =
      subst (λ (k : ℕ). data_bytes says.params k ≤ room now) m.write_place (subst (λ (s : Shape). data_bytes s.params e.write_place ≤ room s) holds.shape holds.encoded.place.fits.in_room) in
      let ends = room_on_disk now was (ap (λ (q : Parameters). is_adpcm q.codec) m.params ∙ is) in
      rule_for now n was fits (omega (arith, fits, ends))

  apart : FieldsLieApart (record says { frames = n })
  apart = (fields_lie_apart head says n says.declared holds.told).inner

  pub filled_bytes : (encoded_whole e).bytes ≡ made_file kind p pieces xs
  filled_bytes =
      ap (λ (l : List ℤ). sealed (over_blocks e.bytes (counting e.shape l) l) (counting e.shape l) (counting e.shape l).frames) holds.given
      ∙ ap (λ (b : List ℕ). sealed b (counting e.shape xs) (counting e.shape xs).frames) (puts xs (whole_least p holds.form xs))
      ∙ ap (λ (s : Shape). sealed (head ++ coded p xs) (record s { frames = length xs / s.params.channels }) (length xs / s.params.channels)) holds.shape
      ∙ ap (λ (q : Parameters). sealed (head ++ coded p xs) (record says { frames = length xs / q.channels }) (length xs / q.channels)) m.params
      ∙ ap (λ (l : List ℕ). sealed l (record says { frames = n }) n) (sym (append-nil (head ++ coded p xs)))
      ∙ sealed_whole kind p pieces n (coded p xs) [] m.params m.start m.free rule_then apart (coded_size p holds.form xs m.whole) (inl refl)
      ∙ ap (λ (t : Bool). with_fields head says n ++ cond t (coded p xs) (fixed.coded p xs) ++ closing says n) (sym is)

pub encoded_is_making : EncodedIsMaking
encoded_is_making kind p pieces xs ys e m is may = encoded_making kind p pieces xs e m is ys may

pub filled_is_made : FilledIsMade
filled_is_made kind p pieces xs e m is = filled_bytes kind p pieces xs e m is
