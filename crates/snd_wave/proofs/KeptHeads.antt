-- The heads of WAVE files keep the laws of heads.
use Rattle.std.proofs.Common.{◌≡◌, ◌∙◌, ap, sym, subst, refl, ℕ, ◌+◌, ◌≤◌, ◌^◌, false, true, List, [], ◌++◌, ◌∷◌, Some, None, Ok, ◌-◌, length, take, arith}
use Rattle.std.proofs.Props.{props}
use mathlib.Core.Sum.{⊎_set}
use Rattle.std.specs.Prelude.{All, IfSome, Option, if◌then◌else◌, map}
use Rattle.std.proofs.lemmas.List.{append-nil, length-map}
use Rattle.std.proofs.lemmas.List.Elements.{All-weaker}
use Rattle.snd_chunks.specs.Chunks.{padded_end}
use Rattle.snd_chunks.specs.Written.{NewChunk, chunks_bytes, pad}
use Rattle.snd_chunks.proofs.Public.{all_before, all_length, all_stand, blanks_keep, field_longer, length-all_placed, length-chunks_bytes, outlines_standing, over_within, same_length}
use Rattle.snd_disk.specs.Bytes.{over}
use Rattle.snd_disk.proofs.Public.{length-over}
use Rattle.snd_fields.specs.declared.field.Order.TheVariants.{Little}
use Rattle.snd_layout.specs.Blocks.{is_adpcm}
use Rattle.snd_layout.specs.Fit.{fit_refusal}
use Rattle.snd_layout.specs.Params.{AreParams, Parameters, data_bytes}
use Rattle.snd_layout.specs.Sector.{is_in_one_sector}
use Rattle.snd_layout.specs.Shape.{EndsBy, KeepsRule, Shape, room}
use Rattle.snd_layout.specs.Written.{written_format}
use Rattle.snd_layout.specs.declared.field.Field.{Field}
use Rattle.snd_layout.specs.declared.kind.Kind.TheVariants.{Wave}
use Rattle.snd_layout.specs.declared.piece.Piece.{Piece}
use Rattle.snd_layout.specs.Filled.{over_field}
use Rattle.snd_wave.specs.Layout.{piece_of}
use Rattle.snd_wave.specs.Put.{reserved_heads, wave_heads}
use Rattle.snd_wave.specs.Sealed.{put_in, with_values}
use Rattle.snd_wave.specs.Values as wave
use Rattle.snd_chunks.specs.Heads.{blank, blanks, chunk_read, outline}
use Rattle.snd_wave.specs.Written.{MayBeMade, MayBePiece, MayBeReserved, inner_at, inner_size, junk, lead_of, new_format, reserved_first, reserved_head, reserved_made, reserved_pieces, reserved_shape, reserved_size, reserved_start, side_at}
use Rattle.snd_wave.proofs.HeadsOfBytes.{wave_is}
use Rattle.snd_wave.proofs.PieceBodies.{wave_fits}
use Rattle.snd_wave.proofs.HeadValues.{reserved_head_is_counted}
use Rattle.snd_wave.proofs.Made.{length-reserved_head, no_bytes_yet, reserved_head_reads_back}
use Rattle.snd_wave.proofs.MadeParts.{reserved_holds_all}
use Rattle.snd_wave.proofs.NewHeads.{reserved_with}
use Rattle.snd_wave.proofs.Relaying.{length-joined}
use Rattle.snd_wave.specs.Container.{wave as wave_container}
use Rattle.snd_chunks.specs.HeadLaws.{IsPieceOf, KeepsHeadLaws, KeepsPieceLaws, SaysNone, with_values_of}

-- bytes put into a field, which lie within a head
field_within : (field : Option Field) (b v : List ℕ) (start : ℕ) → IfSome field (EndsBy start) → start ≤ length b → over_field field b v ≡ put_in field v b
field_within None b v start ends long = refl
field_within (Some f) b v start ends long = over_within b f.at v (omega (arith, ends, long))

module _ (r : Option ℕ) (p : Parameters) where
  start_same : (cs : List NewChunk) → reserved_start r p (blanks cs) ≡ reserved_start r p cs
  unfolding reserved_start
  start_same cs = omega (arith, length-joined Little (lead_of r) (new_format p ∷ blanks cs), length-joined Little (lead_of r) (new_format p ∷ cs), length-chunks_bytes Little (new_format p) (blanks cs), length-chunks_bytes Little (new_format p) cs, all_length Little cs)

  abbrev filler_size : ℕ → ℕ
  filler_size start = length (chunks_bytes Little (if is_in_one_sector (start - inner_size p.codec) (inner_size p.codec) then [] else junk ∷ []))

  size_same : (cs : List NewChunk) → reserved_size r p (blanks cs) ≡ reserved_size r p cs
  size_same cs = reserved_with r p (blanks cs) ∙ ap (λ (k : ℕ). k + filler_size k) (start_same cs) ∙ sym (reserved_with r p cs)

  stand_same : (cs : List NewChunk) → reserved_pieces r p (blanks cs) ≡ reserved_pieces r p cs
  unfolding reserved_pieces
  stand_same cs = all_stand (reserved_first r p) cs

  -- the layout of a head, by the place of its data and its pieces
  abbrev laid_at : ℕ → List Piece → Shape
  laid_at start pieces = record {
    kind = Wave;
    params = p;
    start = start;
    frames = 0;
    declared = data_bytes p 0;
    inner = inner_at p.codec start;
    outer = Some (record { at = 4; size = 4 });
    side = side_at p.codec start;
    trailing = false;
    unknown_length = false;
    reserve = r;
    pieces = pieces;
  }

  shape_is : (cs : List NewChunk) → reserved_shape r p cs 0 ≡ laid_at (reserved_size r p cs) (reserved_pieces r p cs)
  unfolding reserved_shape
  shape_is cs = refl

  shape_same : (cs : List NewChunk) → reserved_shape r p (blanks cs) 0 ≡ reserved_shape r p cs 0
  shape_same cs =
      shape_is (blanks cs) ∙ ap (λ (k : ℕ). laid_at k (reserved_pieces r p (blanks cs))) (size_same cs) ∙ ap (laid_at (reserved_size r p cs)) (stand_same cs) ∙ sym (shape_is cs)

  outlines_made : (cs : List NewChunk) → map outline (reserved_shape r p cs 0).pieces ≡ blanks cs
  unfolding reserved_pieces reserved_shape
  outlines_made cs = outlines_standing (reserved_first r p) cs

blank_may : (c : NewChunk) → MayBePiece c → MayBePiece (blank c)
unfolding blank
blank_may c is = record { four = is.four; other = is.other; few = omega (arith, is.few, same_length c) }

-- zeros in place of the bodies make a head that is as good
blanks_made : (r : Option ℕ) (p : Parameters) (cs : List NewChunk) → MayBeReserved r p cs 0 → MayBeReserved r p (blanks cs) 0
blanks_made r p cs may = record {
  params = may.params;
  fits = may.fits;
  pieces_are = blanks_keep MayBePiece blank_may cs may.pieces_are;
  few = omega (arith, may.few, length-map cs blank);
  in_room = subst (λ (n : ℕ). data_bytes p 0 ≤ 2 ^ 32 + 6 - n) (sym (size_same r p cs)) may.in_room;
  counted = may.counted;
  reserved = may.reserved;
}

module _ (r : Option ℕ) (p : Parameters) (pieces : List NewChunk) where
  abbrev laid : Shape
  laid = reserved_shape r p pieces 0

  abbrev head : List ℕ
  head = reserved_head r p pieces 0

  start_is : laid.start ≡ reserved_size r p pieces
  unfolding reserved_shape
  start_is = refl

  pieces_are : laid.pieces ≡ reserved_pieces r p pieces
  unfolding reserved_shape
  pieces_are = refl

  no_closing : data_bytes p 0 ≡ 0 → wave_container.closing laid 0 ≡ []
  unfolding reserved_shape wave.closing
  no_closing none = ap pad none

  room_ends : KeepsRule laid → laid.start + room laid + 8 ≤ 2 ^ 63
  unfolding reserved_shape
  room_ends rule = omega (arith, rule.data_end)

  count_is : length (reserved_pieces r p pieces) ≡ length pieces
  unfolding reserved_pieces
  count_is = length-map (_) (piece_of false) ∙ length-all_placed _ pieces

  -- the values that are put are those that the head holds
  puts_values : (b : List ℕ) → KeepsRule laid → laid.start ≤ length b → with_values_of wave_container b laid 0 ≡ with_values b laid 0
  unfolding reserved_shape with_values
  puts_values b rule long =
      let inner = wave.inner_value laid 0 in
      let outer = wave.outer_value laid 0 in
      let side = wave.side_value laid 0 in
      let one = over b laid.inner.at inner in
      let long_one : laid.start ≤ length one = omega (arith, long, length-over b laid.inner.at inner) in
      let two = over_field laid.outer one outer in
      let long_two : laid.start ≤ length two = omega (arith, long_one, field_longer laid.outer one outer) in
      field_within laid.side two side laid.start rule.side_end long_two
      ∙ ap (λ (l : List ℕ). put_in laid.side side l) (field_within laid.outer one outer laid.start rule.outer_end long_one)
      ∙ ap (λ (l : List ℕ). put_in laid.side side (put_in laid.outer outer l)) (over_within b laid.inner.at inner (omega (arith, long, rule.inner_end)))

  holds_values : with_values head laid 0 ≡ head
  holds_values = subst (λ (l : List ℕ). with_values l laid 0 ≡ l) (append-nil head) (reserved_head_is_counted r p pieces 0 [])

  fields_stay : KeepsRule laid → with_values_of wave_container head laid 0 ≡ head
  fields_stay rule = puts_values head rule (omega (arith, start_is, length-reserved_head r p pieces 0)) ∙ holds_values

  says : MayBeReserved r p pieces 0 → SaysNone Wave wave_container p laid head
  unfolding reserved_shape
  says may =
      let none : data_bytes p 0 ≡ 0 = no_bytes_yet p may.params may.fits in
      record {
        kind_is = refl;
        params_are = refl;
        frames = refl;
        free = refl;
        known = refl;
        declared = refl;
        no_bytes = none;
        start = start_is ∙ sym (length-reserved_head r p pieces 0);
        unclosed = no_closing none;
        room_ends = room_ends;
        few = omega (arith, ap length pieces_are, count_is, may.few);
        fields = fields_stay;
      }

  reads_pieces : MayBeReserved r p pieces 0 → map (chunk_read head) laid.pieces ≡ pieces
  unfolding reserved_made
  reads_pieces may =
      let none : data_bytes p 0 ≡ 0 = no_bytes_yet p may.params may.fits in
      let whole : reserved_head r p pieces 0 ++ [] ++ pad (data_bytes p 0) ≡ head = ap (λ (k : ℕ). reserved_head r p pieces 0 ++ [] ++ pad k) none ∙ append-nil (head ++ []) ∙ append-nil head in
      ap (map (chunk_read head)) pieces_are
      ∙ subst (λ (l : List ℕ). map (chunk_read l) (reserved_pieces r p pieces) ≡ pieces) whole (reserved_holds_all r p pieces 0 [] may (sym none)).0

  opens : MayBeReserved r p pieces 0 → wave_container.layout head ≡ Ok laid
  unfolding reserved_shape
  opens may = reserved_head_reads_back r p pieces may

-- ---- with any chunks

may_each : (piece : NewChunk) → IsPieceOf Wave piece → MayBePiece piece
may_each piece is = record { four = is.four; other = is.other; few = is.few }

may_with : (p : Parameters) (pieces : List NewChunk) → AreParams p → fit_refusal Wave p ≡ None → All (IsPieceOf Wave) pieces → length pieces ≤ 240 → MayBeMade p pieces 0
may_with p pieces good fits are few =
    let none : data_bytes p 0 ≡ 0 = no_bytes_yet p good fits in
    record {
      params = good;
      fits = fits;
      pieces_are = All-weaker (IsPieceOf Wave) MayBePiece may_each pieces are;
      few = few;
      in_room = omega (arith, none);
      counted = λ blocks. omega arith;
      reserved = tt;
    }

may_once : (r : Option ℕ) (p : Parameters) (pieces : List NewChunk) → IsProp (MayBeReserved r p pieces 0)
may_once None p pieces = hlevel (props, ⊎_set)
may_once (Some len) p pieces = hlevel (props, ⊎_set)

stand_before : (r : Option ℕ) (p : Parameters) (pieces : List NewChunk) → All (λ (piece : Piece). piece.after ≡ false) (reserved_shape r p pieces 0).pieces
unfolding reserved_shape reserved_pieces
stand_before r p pieces = all_before _

is_joined : (p : Parameters) (pieces : List NewChunk) → is_adpcm p.codec ≡ true → 12 ≤ (reserved_shape None p pieces 0).inner.size
unfolding reserved_shape
is_joined p pieces blocks = rw blocks (omega arith)

-- with a reservation, and without
pub piece_laws : (r : Option ℕ) → KeepsPieceLaws Wave wave_container (reserved_heads r)
piece_laws r = record {
  may_once = may_once r;
  says = says r;
  opens = opens r;
  read = reads_pieces r;
  outlined = outlines_made r;
  before = stand_before r;
  blank_may = blanks_made r;
  blank_shape = shape_same r;
  blank_size = λ p pieces. length-reserved_head r p (blanks pieces) 0 ∙ size_same r p pieces ∙ sym (length-reserved_head r p pieces 0);
}

pub keeps_head_laws : KeepsHeadLaws Wave wave_container wave_heads
unfolding reserved_shape
keeps_head_laws = record {
  kind_is = λ p pieces. refl;
  params_are = λ p pieces. refl;
  frames = λ p pieces. refl;
  free = λ p pieces. refl;
  joined = λ p pieces fits blocks. is_joined p pieces blocks;
  bare_head = λ p. refl;
  bare_shape = λ p. refl;
  reserve = λ p pieces. refl;
  may = λ holds. may_with;
  pieces = λ holds. piece_laws None;
  bytes = λ holds. wave_is;
  bodies = λ holds b h laid is. wave_fits b h laid;
}
