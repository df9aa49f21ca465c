-- The heads of 8SVX files keep the laws of heads.
use Rattle.std.proofs.Common.{◌≡◌, ◌∙◌, ap, sym, subst, refl, ⊎_elim, ℕ, ◌+◌, ◌-◌, ◌≤◌, ◌^◌, false, true, List, None, [], ◌∷◌, ◌++◌, Ok, length, take, get_or, arith, length-append}
use Rattle.std.proofs.Props.{props}
use mathlib.Core.Sum.{⊎_set}
use Rattle.std.specs.Prelude.{All, codes, if◌then◌else◌, map, replicate}
use Rattle.std.proofs.lemmas.List.{length-map}
use Rattle.std.proofs.lemmas.List.Elements.{All-weaker}
use Rattle.snd_chunks.proofs.Public.{all_before, all_length, all_stand, blanks_keep, has_body, has_first, has_left, has_right, length-all_placed, length-chunks_bytes, outlines_standing, pieces_read, same_length, three_stay}
use Rattle.snd_chunks.specs.Chunks.{padded_end}
use Rattle.snd_chunks.specs.Written.{NewChunk, chunks_bytes, head_bytes, pad}
use Rattle.snd_disk.specs.Runs.{HasAt}
use Rattle.snd_fields.specs.Field.{bytes_of}
use Rattle.snd_fields.specs.declared.field.Order.TheVariants.{Big}
use Rattle.snd_layout.proofs.Public.{blocks_held, is_held}
use Rattle.snd_layout.specs.Blocks.{is_adpcm}
use Rattle.snd_layout.specs.Fit.{fit_refusal}
use Rattle.snd_layout.specs.Params.{AreParams, Parameters, data_bytes}
use Rattle.snd_layout.specs.declared.piece.Piece.{Piece}
use Rattle.snd_layout.specs.Sector.{is_in_one_sector}
use Rattle.snd_layout.specs.Shape.{KeepsRule, Shape, room}
use Rattle.snd_layout.specs.declared.kind.Kind.TheVariants.{Svx}
use Rattle.snd_wave.specs.Layout.{piece_of}
use Rattle.snd_wave.proofs.Public.{length-joined}
use Rattle.snd_chunks.specs.Heads.{blank, blanks, chunk_read, outline}
use Rattle.snd_svx.specs.Layout.{shape_of}
use Rattle.snd_svx.specs.Put.{closing_behind, svx_heads}
use Rattle.snd_svx.specs.Values as svx
use Rattle.snd_svx.specs.Written.{MayBeMade, MayBePiece, chunks_before, filler, form_head, head_for, head_size, junk, made_pieces, made_shape, new_header, start_without_filler, svx_head}
use Rattle.snd_svx.proofs.HeadsOfBytes.{svx_is}
use Rattle.snd_svx.proofs.Made.{heads_read_back}
use Rattle.snd_svx.proofs.Putting.{length-head, no_bytes_yet, svx_form, svx_mark, svx_size, svx_split}
use Rattle.snd_svx.specs.Container.{svx as svx_container}
use Rattle.snd_chunks.specs.HeadLaws.{IsPieceOf, KeepsHeadLaws, KeepsPieceLaws, SaysNone, with_values_of}

start_same : (p : Parameters) (cs : List NewChunk) → start_without_filler p (blanks cs) ≡ start_without_filler p cs
start_same p cs = omega (arith, length-chunks_bytes Big (new_header p.rate 0) (blanks cs), length-chunks_bytes Big (new_header p.rate 0) cs, all_length Big cs)

filler_same : (p : Parameters) (cs : List NewChunk) → filler p (blanks cs) ≡ filler p cs
filler_same p cs = ap (λ (n : ℕ). if is_in_one_sector (n - 4) 4 then [] else junk ∷ []) (start_same p cs)

size_same : (p : Parameters) (cs : List NewChunk) → head_size p (blanks cs) ≡ head_size p cs
size_same p cs =
    omega (
      arith,
      length-chunks_bytes Big (new_header p.rate 0) (blanks cs ++ filler p (blanks cs)),
      length-chunks_bytes Big (new_header p.rate 0) (cs ++ filler p cs),
      length-joined Big (blanks cs) (filler p (blanks cs)),
      length-joined Big cs (filler p cs),
      all_length Big cs,
      ap (λ (l : List NewChunk). length (chunks_bytes Big l)) (filler_same p cs),
    )

shape_same : (p : Parameters) (cs : List NewChunk) → made_shape p (blanks cs) 0 ≡ made_shape p cs 0
unfolding made_shape
shape_same p cs =
    ap (λ (k : ℕ). shape_of p k 0 (data_bytes p 0) 20 false (made_pieces (blanks cs))) (size_same p cs)
    ∙ ap (shape_of p (head_size p cs) 0 (data_bytes p 0) 20 false) (all_stand (padded_end 20 20) cs)

outlines_made : (p : Parameters) (cs : List NewChunk) → map outline (made_shape p cs 0).pieces ≡ blanks cs
unfolding made_shape
outlines_made p cs = outlines_standing (padded_end 20 20) cs

blank_may : (c : NewChunk) → MayBePiece c → MayBePiece (blank c)
unfolding blank
blank_may c is = record { four = is.four; other = is.other; few = omega (arith, is.few, same_length c) }

blanks_made : (p : Parameters) (cs : List NewChunk) → MayBeMade p cs → MayBeMade p (blanks cs)
blanks_made p cs may = record {
  params = may.params;
  fits = may.fits;
  pieces_are = blanks_keep MayBePiece blank_may cs may.pieces_are;
  few = omega (arith, may.few, length-map cs blank);
}

module _ (p : Parameters) (pieces : List NewChunk) (may : MayBeMade p pieces) where
  abbrev laid : Shape
  laid = made_shape p pieces 0

  abbrev head : List ℕ
  head = svx_head p pieces

  none : data_bytes p 0 ≡ 0
  none = no_bytes_yet p may.params may.fits

  -- where the parts of the head stand
  abbrev front : List ℕ
  front = svx_mark ++ svx_size (length head) ++ svx_form p

  abbrev behind : List ℕ
  behind = chunks_bytes Big pieces ++ closing_behind (40 + length (chunks_bytes Big pieces))

  self : HasAt head 0 head
  self = λ j lt. ap (λ k. get_or head k 0) (omega arith)

  whole : HasAt head 0 (front ++ behind)
  whole = subst (HasAt head 0) ((svx_split p may.params may.fits).split pieces) self

  first : HasAt head 0 front
  first = has_left head 0 front behind whole

  outer_there : HasAt head 4 (svx_size (length head))
  outer_there = has_right head 0 4 svx_mark (svx_size (length head)) refl (has_left head 0 (svx_mark ++ svx_size (length head)) (svx_form p) first)

  side_there : HasAt head 20 (bytes_of Big 4 0)
  side_there =
      let form = has_right head 0 8 (svx_mark ++ svx_size (length head)) (svx_form p) refl first in
      let header = has_right head 8 12 (codes "8SVX") (chunks_bytes Big (new_header p.rate 0 ∷ [])) refl form in
      let body = has_body Big head 12 (new_header p.rate 0) refl (has_first Big head 12 (new_header p.rate 0) [] header) in
      has_left head 20 (bytes_of Big 4 0) (replicate 8 0)
      (has_left head 20 (bytes_of Big 4 0 ++ replicate 8 0) (bytes_of Big 2 p.rate) (has_left head 20 (bytes_of Big 4 0 ++ replicate 8 0 ++ bytes_of Big 2 p.rate) (1 ∷ 0 ∷ 0 ∷ 1 ∷ 0 ∷ 0 ∷ []) body))

  chunks_there : HasAt head 40 (chunks_bytes Big pieces)
  chunks_there =
      has_left head 40 (chunks_bytes Big pieces) (closing_behind (40 + length (chunks_bytes Big pieces)))
      (has_right head 0 40 front behind (omega (arith, (svx_split p may.params may.fits).first_is (length head))) whole)

  long : 40 ≤ length head
  long = omega (arith, ap length ((svx_split p may.params may.fits).split pieces), length-append front behind, (svx_split p may.params may.fits).first_is (length head))

  abbrev top : List ℕ
  top = form_head (svx.form_size (head_size p pieces) (data_bytes p 0))

  abbrev chunks : List ℕ
  chunks = chunks_bytes Big (chunks_before p pieces 0)

  body_there : HasAt head (12 + length chunks) (head_bytes Big (codes "BODY") (data_bytes p 0))
  unfolding head_for
  body_there =
      let size : length top ≡ 12 = refl in
      has_right head 0 (12 + length chunks) (top ++ chunks) (head_bytes Big (codes "BODY") (data_bytes p 0)) (omega (arith, size, length-append top chunks)) self

  inner_there : HasAt head (head_size p pieces - 4) (bytes_of Big 4 (data_bytes p 0))
  unfolding head_bytes
  inner_there =
      let at : 12 + length chunks + 4 ≡ head_size p pieces - 4 = omega arith in
      subst (λ (k : ℕ). HasAt head k (bytes_of Big 4 (data_bytes p 0))) at (has_right head (12 + length chunks) (12 + length chunks + 4) (codes "BODY") (bytes_of Big 4 (data_bytes p 0)) refl body_there)

  -- the fields hold no frames
  outer_is : svx.outer_value laid 0 ≡ svx_size (length head)
  unfolding made_shape svx.outer_value
  outer_is = ap (λ (n : ℕ). bytes_of Big 4 (svx.form_size (head_size p pieces) n)) none ∙ ap (λ (n : ℕ). bytes_of Big 4 (svx.form_size n 0)) (sym (length-head p pieces))

  inner_is : svx.inner_value laid 0 ≡ bytes_of Big 4 (data_bytes p 0)
  unfolding made_shape svx.inner_value
  inner_is = refl

  side_is : svx.side_value laid 0 ≡ bytes_of Big 4 0
  unfolding made_shape svx.side_value
  side_is = refl

  fields_stay : with_values_of svx_container head laid 0 ≡ head
  unfolding made_shape
  fields_stay =
      let outer = svx.outer_value laid 0 in
      let inner = svx.inner_value laid 0 in
      let side = svx.side_value laid 0 in
      let four : length (bytes_of Big 4 (data_bytes p 0)) ≡ 4 = refl in
      three_stay head inner outer side (head_size p pieces - 4) 4 20 (omega (arith, long, length-head p pieces, four, ap length inner_is)) (subst (HasAt head (head_size p pieces - 4)) (sym inner_is) inner_there)
      (omega (arith, long, ap length outer_is)) (subst (HasAt head 4) (sym outer_is) outer_there) (omega (arith, long, ap length side_is)) (subst (HasAt head 20) (sym side_is) side_there)

  no_closing : svx_container.closing laid 0 ≡ []
  unfolding made_shape svx.closing
  no_closing = ap pad none

  room_ends : KeepsRule laid → laid.start + room laid + 8 ≤ 2 ^ 63
  unfolding made_shape
  room_ends rule = omega (arith, rule.data_end)

  count_is : length laid.pieces ≡ length pieces
  unfolding made_shape
  count_is = length-map (_) (piece_of false) ∙ length-all_placed _ pieces

  says : SaysNone Svx svx_container p laid head
  unfolding made_shape
  says = record {
    kind_is = refl;
    params_are = refl;
    frames = refl;
    free = refl;
    known = refl;
    declared = refl;
    no_bytes = none;
    start = sym (length-head p pieces);
    unclosed = no_closing;
    room_ends = room_ends;
    few = omega (arith, count_is, may.few);
    fields = λ rule. fields_stay;
  }

  four : (c : NewChunk) → MayBePiece c → length c.id ≡ 4
  four c is = is.four

  reads_pieces : map (chunk_read head) laid.pieces ≡ pieces
  unfolding made_shape
  reads_pieces =
      pieces_read Big head 40 pieces (All-weaker MayBePiece (λ (c : NewChunk). length c.id ≡ 4) four pieces may.pieces_are) chunks_there
      (omega (
        arith,
        ap length ((svx_split p may.params may.fits).split pieces),
        length-append front behind,
        length-append (chunks_bytes Big pieces) (closing_behind (40 + length (chunks_bytes Big pieces))),
        (svx_split p may.params may.fits).first_is (length head),
      ))

  opens : svx_container.layout head ≡ Ok laid
  unfolding made_shape
  opens = heads_read_back p pieces may

-- ---- with any chunks

may_each : (piece : NewChunk) → IsPieceOf Svx piece → MayBePiece piece
may_each piece is = record { four = is.four; other = is.other; few = is.few }

may_with : (p : Parameters) (pieces : List NewChunk) → AreParams p → fit_refusal Svx p ≡ None → All (IsPieceOf Svx) pieces → length pieces ≤ 240 → MayBeMade p pieces
may_with p pieces good fits are few = record { params = good; fits = fits; pieces_are = All-weaker (IsPieceOf Svx) MayBePiece may_each pieces are; few = few }

may_once : (p : Parameters) (pieces : List NewChunk) → IsProp (MayBeMade p pieces)
may_once p pieces = hlevel (props, ⊎_set)

stand_before : (p : Parameters) (pieces : List NewChunk) → All (λ (piece : Piece). piece.after ≡ false) (made_shape p pieces 0).pieces
unfolding made_shape
stand_before p pieces = all_before _

-- it holds no blocks
is_joined : (p : Parameters) (pieces : List NewChunk) → fit_refusal Svx p ≡ None → is_adpcm p.codec ≡ true → 12 ≤ (made_shape p pieces 0).inner.size
is_joined p pieces fits is = absurd (⊎_elim (λ wave. cc) (λ w64. cc) (blocks_held Svx p.channels p.codec is (is_held Svx p fits)))

piece_laws : KeepsPieceLaws Svx svx_container svx_heads
piece_laws = record {
  may_once = may_once;
  says = says;
  opens = opens;
  read = reads_pieces;
  outlined = outlines_made;
  before = stand_before;
  blank_may = blanks_made;
  blank_shape = shape_same;
  blank_size = λ p pieces. length-head p (blanks pieces) ∙ size_same p pieces ∙ sym (length-head p pieces);
}

pub keeps_head_laws : KeepsHeadLaws Svx svx_container svx_heads
unfolding made_shape
keeps_head_laws = record {
  kind_is = λ p pieces. refl;
  params_are = λ p pieces. refl;
  frames = λ p pieces. refl;
  free = λ p pieces. refl;
  joined = is_joined;
  bare_head = λ p. refl;
  bare_shape = λ p. refl;
  reserve = λ p pieces. refl;
  may = λ holds. may_with;
  pieces = λ holds. piece_laws;
  bytes = λ holds. svx_is;
  bodies = λ holds. absurd (cc);
}
