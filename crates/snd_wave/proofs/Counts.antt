-- The count of the frames, and the numbers that state it.
use Rattle.std.proofs.Common.{◌≡◌, ℕ, zero, suc, ◌+◌, ◌*◌, ◌-◌, ◌/◌, ◌%◌, ◌<◌, ◌≤◌, List, [], ◌++◌, All, true, false, not, ◌&&◌, Option, None, Some, length, refl, sym, ap, ◌∙◌, inl, inr, arith}
use Rattle.std.proofs.Math.Nat.{div-zero, mod-lt}
use Rattle.std.proofs.lemmas.Bool.{cases_Bool}
use Rattle.std.proofs.lemmas.List.{append-nil}
use Rattle.std.proofs.lemmas.List.Elements.{All-map}
use Rattle.std.proofs.lemmas.Nat.{div-add-mod', div_below, le-div}
use Rattle.std.specs.List.{filter}
use Rattle.std.specs.Prelude.{codes, min, option_map}
use Rattle.snd_chunks.proofs.Public.{is_head, IsHead, no_tail, Reaches, reaches}
use Rattle.snd_chunks.specs.declared.chunk.Chunk.{Chunk}
use Rattle.snd_chunks.specs.declared.front.Ending.TheVariants.{AtSound}
use Rattle.snd_chunks.specs.declared.front.Front.{Front}
use Rattle.snd_chunks.specs.Chunks.{chunk_at}
use Rattle.snd_fields.specs.Field.{number}
use Rattle.snd_fields.specs.declared.field.Order.TheVariants.{Little}
use Rattle.snd_layout.specs.Blocks.{block_align, block_frames, is_adpcm}
use Rattle.snd_layout.specs.Params.{Parameters}
use Rattle.snd_layout.specs.Shape.{Shape}
use Rattle.snd_layout.specs.declared.piece.Piece.{Piece}
use Rattle.snd_chunks.specs.Parts.{fact_chunk, fact_count, frame_count, held, inner_field, is_joined, whole_frames}
use Rattle.snd_wave.specs.Layout.{data_end, is_own, outer_end, piece_of, pieces_of, wave_front, wave_shape, wave_tail}
use Rattle.snd_wave.proofs.LayoutFacts.{CountIsStated, HoldsBlocks, NoPieceBehind, NumbersStandBefore, TrailingIsStated, count_of}
use Rattle.snd_wave.proofs.Opens.{Opens, opens}

-- as many whole blocks are in a part that has all of them
same_blocks : (len part a : ℕ) → part ≤ len → len / a * a ≤ part → part / a ≡ len / a
same_blocks len part zero few all = div-zero part ∙ sym (div-zero len)
same_blocks len part (suc n) few all =
    let a : ℕ = suc n in
    let rest : len % suc n < suc n = mod-lt len (omega arith) in
    let low : len / suc n ≤ part / suc n = le-div (len / suc n) part (suc n) (omega arith) all in
    let high : part / suc n < len / suc n + 1 = div_below part (suc n) (len / suc n + 1) (omega arith) (omega (arith, div-add-mod' len (suc n), rest)) in
    omega (arith, low, high)

stated : (b : List ℕ) (front : Front) (p : Parameters) (sound : Chunk) (count : Option ℕ) → HoldsBlocks (wave_shape b front p sound) (length b) → frame_count p (held (length b) sound) count ≡ frame_count p sound.len count
stated b front p sound count holds =
    let blocks : held (length b) sound / block_align p.channels p.codec ≡ sound.len / block_align p.channels p.codec =
    same_blocks sound.len (held (length b) sound) (block_align p.channels p.codec) (omega arith) (omega (arith, div-add-mod' sound.len (block_align p.channels p.codec), holds.in_file, holds.on_disk)) in
    let whole : whole_frames p (held (length b) sound) ≡ whole_frames p sound.len = ap (λ n. n * block_frames p.codec) blocks in
    by_count count whole
  where
    by_count : (count : Option ℕ) → whole_frames p (held (length b) sound) ≡ whole_frames p sound.len → frame_count p (held (length b) sound) count ≡ frame_count p sound.len count
    by_count None whole = whole
    by_count (Some count) whole = elim (cases_Bool (is_adpcm p.codec)) [
      | inl is ↦ rw is (ap (min count) whole)
      | inr other ↦ rw other whole
    ]

pub count_is_stated : CountIsStated
count_is_stated b h is holds =
    let from : Opens b (wave_front b) h = opens b h is in
    let holds_too = rw from.shape at holds in
    rw from.shape (stated b (wave_front b) from.params from.sound (count_of b) holds_too)

-- the walk up to the data came to them
pub reached : (b : List ℕ) (sound : Chunk) → (wave_front b).ending ≡ AtSound sound → Reaches (chunk_at Little b) (codes "data") (length b) 257 12 (wave_front b).chunks sound
unfolding wave_front
reached b sound ends = reaches (chunk_at Little b) (codes "data") (length b) 257 12 (wave_front b) sound refl ends

at_size : (b : List ℕ) (q : ℕ) (sound : Chunk) → IsHead Little b q sound → sound.len ≡ number Little b (sound.at - 4) 4
at_size b q sound head =
    let place : q + 4 ≡ sound.at - 4 = omega (arith, head.at) in
    head.len ∙ ap (λ k. number Little b k 4) place

joined_count : (b : List ℕ) (p : Parameters) (fact : Option Chunk) (sound : Chunk) → (inner_field 4 8 p fact sound).size ≡ 12 → option_map (fact_count 4 b) fact ≡ Some (number Little b (inner_field 4 8 p fact sound).at 4)
joined_count b p None sound twelve = elim (cases_Bool (is_adpcm p.codec)) [
  | inl adpcm ↦ absurd (let h = rw adpcm at twelve in omega (arith, h))
  | inr other ↦ absurd (let h = rw other at twelve in omega (arith, h))
]
joined_count b p (Some fact) sound twelve = elim (cases_Bool (is_adpcm p.codec && is_joined 4 8 (Some fact) sound)) [
  | inl both ↦ rw both refl
  | inr other ↦ absurd (let h = rw other at twelve in omega (arith, h))
]

pub numbers_stand_before : NumbersStandBefore
numbers_stand_before b h is =
    let from : Opens b (wave_front b) h = opens b h is in
    let reach = reached b from.sound from.sound_is in
    let head : IsHead Little b reach.last from.sound = is_head Little b reach.last from.sound reach.at in
    rw from.shape (at_size b reach.last from.sound head, λ twelve. joined_count b from.params (fact_chunk 4 (wave_front b).chunks) from.sound twelve)

before_all : (chunks : List Chunk) → All (λ piece. piece.after ≡ false) (pieces_of false chunks)
before_all chunks = All-map (λ (piece : Piece). piece.after ≡ false) (piece_of false) (filter (λ chunk. not (is_own chunk)) chunks) (λ k d lt. refl)

pub none_behind : (b : List ℕ) (front : Front) (sound : Chunk) → outer_end b ≤ data_end b sound → wave_tail b front sound ≡ []
none_behind b front sound reached = no_tail Little b (outer_end b) _ (data_end b sound) reached

pub trailing_is_stated : TrailingIsStated
trailing_is_stated b h is =
    let from : Opens b (wave_front b) h = opens b h is in
    rw from.shape refl

pub no_piece_behind : NoPieceBehind
no_piece_behind b h is reached =
    let from : Opens b (wave_front b) h = opens b h is in
    let reached_too : outer_end b ≤ data_end b from.sound = rw from.shape at reached in
    let none : wave_tail b (wave_front b) from.sound ≡ [] = none_behind b (wave_front b) from.sound reached_too in
    let pieces : h.pieces ≡ pieces_of false (wave_front b).chunks =
    ap (λ (s : Shape). s.pieces) from.shape ∙ ap (λ (l : List Chunk). pieces_of false (wave_front b).chunks ++ pieces_of true l) none ∙ append-nil (pieces_of false (wave_front b).chunks) in
    rw pieces (before_all (wave_front b).chunks)
