-- The heads of RF64 files keep the laws of heads.
use Rattle.std.proofs.Common.{◌≡◌, ◌∙◌, ap, sym, subst, refl, ⊎_elim, ℕ, ◌+◌, ◌-◌, ◌≤◌, ◌^◌, false, true, List, None, [], ◌++◌, Ok, length, take, get_or, arith, length-append}
use Rattle.std.proofs.Props.{props}
use mathlib.Core.Sum.{⊎_set}
use Rattle.std.specs.Prelude.{All, map}
use Rattle.std.proofs.lemmas.List.{length-map}
use Rattle.std.proofs.lemmas.List.Elements.{All-weaker}
use Rattle.snd_chunks.proofs.Public.{all_before, all_length, all_stand, blanks_keep, has_left, has_right, length-all_placed, length-chunks_bytes, outlines_standing, pieces_read, same_length, three_stay}
use Rattle.snd_chunks.specs.Chunks.{padded_end}
use Rattle.snd_chunks.specs.Written.{NewChunk, chunks_bytes, pad}
use Rattle.snd_disk.specs.Runs.{HasAt}
use Rattle.snd_fields.specs.Field.{bytes_of}
use Rattle.snd_fields.specs.declared.field.Order.TheVariants.{Little}
use Rattle.snd_layout.proofs.Public.{blocks_held, is_held}
use Rattle.snd_layout.specs.Blocks.{is_adpcm}
use Rattle.snd_layout.specs.Fit.{fit_refusal}
use Rattle.snd_layout.specs.Params.{AreParams, Parameters, data_bytes}
use Rattle.snd_layout.specs.declared.piece.Piece.{Piece}
use Rattle.snd_layout.specs.Shape.{KeepsRule, Shape, room}
use Rattle.snd_layout.specs.Written.{written_format}
use Rattle.snd_layout.specs.declared.kind.Kind.TheVariants.{Rf64}
use Rattle.snd_wave.specs.Layout.{piece_of}
use Rattle.snd_chunks.specs.Heads.{blank, blanks, chunk_read, outline}
use Rattle.snd_wave.specs.Written.{MayBePiece, new_format}
use Rattle.snd_wave.proofs.Public.{no_bytes_yet}
use Rattle.snd_rf64.specs.Layout.{shape_at}
use Rattle.snd_rf64.specs.Put.{data_head, first_place, rf64_heads}
use Rattle.snd_rf64.specs.Values as rf64
use Rattle.snd_rf64.specs.Written.{MayBeMade, head_size, made_pieces, made_shape, rf64_head, top}
use Rattle.snd_rf64.proofs.HeadsOfBytes.{rf64_is}
use Rattle.snd_rf64.proofs.PieceBodies.{rf64_fits}
use Rattle.snd_rf64.proofs.Counted.{fits_wave}
use Rattle.snd_rf64.proofs.Made.{length-head, size_is}
use Rattle.snd_rf64.proofs.Putting.{heads_read_back, rf64_form, rf64_mark, rf64_size, rf64_split}
use Rattle.snd_rf64.specs.Container.{rf64 as rf64_container}
use Rattle.snd_chunks.specs.HeadLaws.{IsPieceOf, KeepsHeadLaws, KeepsPieceLaws, SaysNone, with_values_of}

size_same : (p : Parameters) (cs : List NewChunk) → head_size p (blanks cs) ≡ head_size p cs
unfolding head_size
size_same p cs = omega (arith, length-chunks_bytes Little (new_format p) (blanks cs), length-chunks_bytes Little (new_format p) cs, all_length Little cs)

stand_same : (p : Parameters) (cs : List NewChunk) → made_pieces p (blanks cs) ≡ made_pieces p cs
unfolding made_pieces
stand_same p cs = all_stand (padded_end 56 (length (written_format p))) cs

shape_same : (p : Parameters) (cs : List NewChunk) → made_shape p (blanks cs) ≡ made_shape p cs
unfolding made_shape
shape_same p cs = ap (λ (k : ℕ). shape_at p k 0 0 false (made_pieces p (blanks cs))) (size_same p cs) ∙ ap (shape_at p (head_size p cs) 0 0 false) (stand_same p cs)

outlines_made : (p : Parameters) (cs : List NewChunk) → map outline (made_shape p cs).pieces ≡ blanks cs
unfolding made_shape made_pieces
outlines_made p cs = outlines_standing (padded_end 56 (length (written_format p))) cs

blank_may : (c : NewChunk) → MayBePiece c → MayBePiece (blank c)
unfolding blank
blank_may c is = record { four = is.four; other = is.other; few = omega (arith, is.few, same_length c) }

blanks_made : (p : Parameters) (cs : List NewChunk) → MayBeMade p cs → MayBeMade p (blanks cs)
blanks_made p cs may = record {
  params = may.params;
  fits = may.fits;
  pieces_are = blanks_keep MayBePiece blank_may cs may.pieces_are;
  few = omega (arith, may.few, length-map cs blank);
}

module _ (p : Parameters) (pieces : List NewChunk) (may : MayBeMade p pieces) where
  abbrev laid : Shape
  laid = made_shape p pieces

  abbrev head : List ℕ
  head = rf64_head p pieces

  none : data_bytes p 0 ≡ 0
  none = no_bytes_yet p may.params (fits_wave p may.fits)

  -- where the parts of the head stand
  abbrev front : List ℕ
  front = rf64_mark ++ rf64_size (length head) ++ rf64_form p

  abbrev behind : List ℕ
  behind = chunks_bytes Little pieces ++ data_head

  whole : HasAt head 0 (front ++ behind)
  whole = subst (HasAt head 0) ((rf64_split p).split pieces) (λ j lt. ap (λ k. get_or head k 0) (omega arith))

  first : HasAt head 0 front
  first = has_left head 0 front behind whole

  outer_there : HasAt head 20 (rf64_size (length head))
  outer_there = has_right head 0 20 rf64_mark (rf64_size (length head)) refl (has_left head 0 (rf64_mark ++ rf64_size (length head)) (rf64_form p) first)

  sizes_there : HasAt head 28 (bytes_of Little 8 0 ++ bytes_of Little 8 0)
  sizes_there =
      let form = has_right head 0 28 (rf64_mark ++ rf64_size (length head)) (rf64_form p) refl first in
      has_left head 28 (bytes_of Little 8 0 ++ bytes_of Little 8 0) (bytes_of Little 4 0) (has_left head 28 (bytes_of Little 8 0 ++ bytes_of Little 8 0 ++ bytes_of Little 4 0) _ form)

  inner_there : HasAt head 28 (bytes_of Little 8 0)
  inner_there = has_left head 28 (bytes_of Little 8 0) (bytes_of Little 8 0) sizes_there

  side_there : HasAt head 36 (bytes_of Little 8 0)
  side_there = has_right head 28 36 (bytes_of Little 8 0) (bytes_of Little 8 0) refl sizes_there

  chunks_there : HasAt head (first_place p) (chunks_bytes Little pieces)
  chunks_there = has_left head (first_place p) (chunks_bytes Little pieces) data_head (has_right head 0 (first_place p) front behind (omega (arith, (rf64_split p).first_is (length head))) whole)

  long : 56 ≤ length head
  long = omega (arith, length-head p pieces, size_is p pieces)

  -- the fields hold no frames
  outer_is : rf64.outer_value laid 0 ≡ rf64_size (length head)
  unfolding made_shape rf64.outer_value
  outer_is = ap (λ (n : ℕ). bytes_of Little 8 (padded_end (head_size p pieces) n - 8)) none ∙ ap (λ (n : ℕ). bytes_of Little 8 (n - 8)) (let same : padded_end (head_size p pieces) 0 ≡ length head = omega (arith, length-head p pieces) in same)

  inner_is : rf64.inner_value laid 0 ≡ bytes_of Little 8 0
  unfolding made_shape rf64.inner_value
  inner_is = ap (bytes_of Little 8) none

  side_is : rf64.side_value laid 0 ≡ bytes_of Little 8 0
  unfolding made_shape rf64.side_value
  side_is = refl

  fields_stay : with_values_of rf64_container head laid 0 ≡ head
  unfolding made_shape
  fields_stay =
      let outer = rf64.outer_value laid 0 in
      let inner = rf64.inner_value laid 0 in
      let side = rf64.side_value laid 0 in
      three_stay head inner outer side 28 20 36 (omega (arith, long, ap length inner_is)) (subst (HasAt head 28) (sym inner_is) inner_there) (omega (arith, long, ap length outer_is)) (subst (HasAt head 20) (sym outer_is) outer_there)
      (omega (arith, long, ap length side_is)) (subst (HasAt head 36) (sym side_is) side_there)

  no_closing : rf64_container.closing laid 0 ≡ []
  unfolding made_shape rf64.closing
  no_closing = ap pad none

  room_ends : KeepsRule laid → laid.start + room laid + 8 ≤ 2 ^ 63
  unfolding made_shape
  room_ends rule = omega (arith, rule.data_end)

  count_is : length laid.pieces ≡ length pieces
  unfolding made_shape made_pieces
  count_is = length-map (_) (piece_of false) ∙ length-all_placed _ pieces

  says : SaysNone Rf64 rf64_container p laid head
  unfolding made_shape
  says = record {
    kind_is = refl;
    params_are = refl;
    frames = refl;
    free = refl;
    known = refl;
    declared = sym none;
    no_bytes = none;
    start = sym (length-head p pieces);
    unclosed = no_closing;
    room_ends = room_ends;
    few = omega (arith, count_is, may.few);
    fields = λ rule. fields_stay;
  }

  four : (c : NewChunk) → MayBePiece c → length c.id ≡ 4
  four c is = is.four

  reads_pieces : map (chunk_read head) laid.pieces ≡ pieces
  unfolding made_shape made_pieces
  reads_pieces =
      pieces_read Little head (first_place p) pieces (All-weaker MayBePiece (λ (c : NewChunk). length c.id ≡ 4) four pieces may.pieces_are) chunks_there
      (omega (arith, ap length ((rf64_split p).split pieces), length-append front behind, length-append (chunks_bytes Little pieces) data_head, (rf64_split p).first_is (length head)))

  opens : rf64_container.layout head ≡ Ok laid
  unfolding made_shape
  opens = heads_read_back p pieces may

-- ---- with any chunks

may_each : (piece : NewChunk) → IsPieceOf Rf64 piece → MayBePiece piece
may_each piece is = record { four = is.four; other = is.other; few = is.few }

may_with : (p : Parameters) (pieces : List NewChunk) → AreParams p → fit_refusal Rf64 p ≡ None → All (IsPieceOf Rf64) pieces → length pieces ≤ 240 → MayBeMade p pieces
may_with p pieces good fits are few = record { params = good; fits = fits; pieces_are = All-weaker (IsPieceOf Rf64) MayBePiece may_each pieces are; few = few }

may_once : (p : Parameters) (pieces : List NewChunk) → IsProp (MayBeMade p pieces)
may_once p pieces = hlevel (props, ⊎_set)

stand_before : (p : Parameters) (pieces : List NewChunk) → All (λ (piece : Piece). piece.after ≡ false) (made_shape p pieces).pieces
unfolding made_shape made_pieces
stand_before p pieces = all_before _

-- it holds no blocks
is_joined : (p : Parameters) (pieces : List NewChunk) → fit_refusal Rf64 p ≡ None → is_adpcm p.codec ≡ true → 12 ≤ (made_shape p pieces).inner.size
is_joined p pieces fits is = absurd (⊎_elim (λ wave. cc) (λ w64. cc) (blocks_held Rf64 p.channels p.codec is (is_held Rf64 p fits)))

piece_laws : KeepsPieceLaws Rf64 rf64_container rf64_heads
piece_laws = record {
  may_once = may_once;
  says = says;
  opens = opens;
  read = reads_pieces;
  outlined = outlines_made;
  before = stand_before;
  blank_may = blanks_made;
  blank_shape = shape_same;
  blank_size = λ p pieces. length-head p (blanks pieces) ∙ size_same p pieces ∙ sym (length-head p pieces);
}

pub keeps_head_laws : KeepsHeadLaws Rf64 rf64_container rf64_heads
unfolding made_shape
keeps_head_laws = record {
  kind_is = λ p pieces. refl;
  params_are = λ p pieces. refl;
  frames = λ p pieces. refl;
  free = λ p pieces. refl;
  joined = is_joined;
  bare_head = λ p. refl;
  bare_shape = λ p. refl;
  reserve = λ p pieces. refl;
  may = λ holds. may_with;
  pieces = λ holds. piece_laws;
  bytes = λ holds. rf64_is;
  bodies = λ holds b h laid is. rf64_fits b h laid;
}
