-- The further chunks of a file stay where its head stays.
use Rattle.std.proofs.Common.{◌≡◌, ◌⊎◌, ap, sym, subst, refl, inl, inr, ℕ, ◌+◌, ◌-◌, ◌<◌, ◌≤◌, Bool, true, false, not, ◌&&◌, List, [], All, Option, None, Some, length, get_or, arith}
use Rattle.std.proofs.lemmas.Bool.{and_parts, cases_Bool, eqb-true, leb-true, ltb-false}
use Rattle.std.proofs.lemmas.List.Elements.{All-append, All-map, All-nil}
use Rattle.std.proofs.lemmas.Slice.Eq.{bytes_eq-Decides}
use Rattle.std.specs.List.{filter}
use Rattle.std.specs.Prelude.{◌==◌, IfSome, codes, nat_le, nat_lt, option_map}
use Rattle.snd_chunks.proofs.Public.{bodies_before, bodies_behind, find_has, in_order, is_head, IsBetween, IsHead, no_tail, Reaches, SameBody as SameChunk}
use Rattle.snd_chunks.specs.declared.chunk.Chunk.{Chunk}
use Rattle.snd_chunks.specs.Chunks.{chunk_at}
use Rattle.snd_fields.specs.declared.field.Order.TheVariants.{Little}
use Rattle.snd_layout.proofs.Formats.{format_fits}
use Rattle.snd_layout.specs.Blocks.{is_adpcm}
use Rattle.snd_layout.specs.Container.{KeepsHead, PiecesStay, SameBody, is_in, is_in_some}
use Rattle.snd_layout.specs.Fit.{fit_refusal}
use Rattle.snd_layout.specs.Params.{AreParams, Parameters}
use Rattle.snd_layout.specs.Shape.{Shape, end}
use Rattle.snd_layout.specs.declared.kind.Kind.TheVariants.{Wave}
use Rattle.snd_wave.proofs.Agreements.{IsBeside, outside}
use Rattle.snd_wave.proofs.Counted.{out_of_fields}
use Rattle.snd_wave.proofs.Counts.{reached}
use Rattle.snd_wave.proofs.Opens.{Opens, opens}
use Rattle.snd_wave.proofs.Shapes.{counted_bytes}
use Rattle.snd_wave.proofs.Standing.{StandsBefore, stands_before}
use Rattle.snd_wave.specs.Container.{wave}
use Rattle.snd_chunks.specs.Parts.{body_of, fact_chunk, fact_count, has_id, held, inner_field, is_fact, is_joined, side_field}
use Rattle.snd_wave.specs.Layout.{data_end, is_own, outer_end, piece_of, pieces_of, wave_front, wave_shape, wave_tail}

-- the pieces among chunks with the same bodies
pub pieces_kept : (x y : List ℕ) (after : Bool) (chunks : List Chunk) → All (SameChunk x y) (filter (λ chunk. not (is_own chunk)) chunks) → All (SameBody x y) (pieces_of after chunks)
pieces_kept x y after chunks all = All-map (SameBody x y) (piece_of after) (filter (λ chunk. not (is_own chunk)) chunks) all

-- a chunk that counts the frames is no piece
fact_is_own : (chunk : Chunk) → is_fact 4 chunk ≡ true → not (is_own chunk) ≡ false
fact_is_own chunk is =
    let named : chunk.id.0 ≡ codes "fact" = (bytes_eq-Decides chunk.id.0 (codes "fact")).0 (and_parts (has_id (codes "fact") chunk) (nat_le 4 chunk.len) is).0 in
    ap (λ (l : List ℕ). not (is_own (record { id = record { 0 = l }; at = chunk.at; len = chunk.len; next = chunk.next }))) named

-- ---- before the data

-- a place before the head of the data, and beside the count, is not in the field that decides the count, which may join both
inner_out : (p : Parameters) (fact : Option Chunk) (sound : Chunk) (i : ℕ) → IfSome fact (StandsBefore sound) → IsBeside fact i → i + 8 < sound.at → is_in (inner_field 4 8 p fact sound) i ≡ false
inner_out p None sound i stands beside early = elim (cases_Bool (is_adpcm p.codec)) [
  | inl is ↦ rw is (outside (sound.at - 4) 4 i (inl (omega (arith, early))))
  | inr other ↦ rw other (outside (sound.at - 4) 4 i (inl (omega (arith, early))))
]
inner_out p (Some fact) sound i stands beside early = elim (cases_Bool (is_adpcm p.codec && is_joined 4 8 (Some fact) sound)) [
  | inl both ↦
      let parts = and_parts (fact.len == 4) (fact.next + 8 == sound.at) (and_parts (is_adpcm p.codec) (is_joined 4 8 (Some fact) sound) both).1 in
      let next : fact.next ≡ fact.at + 4 = stands.joined (eqb-true fact.len 4 parts.0) in
      let joined : fact.next + 8 ≡ sound.at = eqb-true (fact.next + 8) sound.at parts.1 in
      rw both (outside fact.at 12 i (elim (beside fact refl) [ inl lt ↦ inl lt | inr le ↦ absurd (omega (arith, le, next, joined, early)) ]))
  | inr other ↦ rw other (outside (sound.at - 4) 4 i (inl (omega (arith, early))))
]

side_out : (p : Parameters) (fact : Option Chunk) (i : ℕ) → IsBeside fact i → is_in_some (side_field 4 p fact) i ≡ false
side_out p None i beside = elim (cases_Bool (is_adpcm p.codec)) [ inl is ↦ rw is refl | inr other ↦ rw other refl ]
side_out p (Some fact) i beside = elim (cases_Bool (is_adpcm p.codec)) [
  | inl is ↦ rw is refl
  | inr other ↦ rw other (outside fact.at 4 i (beside fact refl))
]

first_four : (at len i : ℕ) → 4 ≤ len → (i < at) ⊎ (at + len ≤ i) → (i < at) ⊎ (at + 4 ≤ i)
first_four at len i few (inl before) = inl before
first_four at len i few (inr behind) = inr (omega (arith, behind, few))

module _ (x y : List ℕ) (p : Parameters) (sound : Chunk) (ends : Reaches (chunk_at Little y) (codes "data") (length y) 257 12 (wave_front y).chunks sound)
    (in_x : sound.at ≤ length x) (kept : KeepsHead (wave_shape y (wave_front y) p sound) y x) where
  head : IsHead Little y ends.last sound
  head = is_head Little y ends.last sound ends.at

  chunks_before : All (SameChunk x y) (filter (λ chunk. not (is_own chunk)) (wave_front y).chunks)
  chunks_before =
      let found = fact_chunk 4 (wave_front y).chunks in
      let ordered = in_order Little y (codes "data") (length y) 12 ends.last (wave_front y).chunks ends.chain in
      bodies_before Little x y (codes "data") (λ chunk. not (is_own chunk)) 12 ends.last (wave_front y).chunks ends.chain (omega (arith, head.at, in_x)) (omega (arith, head.within)) (λ i from to beside.
      let by_count : IsBeside found i = λ f is.
      let has = (find_has (is_fact 4) (IsBetween 12 ends.last) (wave_front y).chunks f ordered.1 is).1 in
      first_four f.at f.len i (leb-true 4 f.len (and_parts (has_id (codes "fact") f) (nat_le 4 f.len) has).1) (beside (is_fact 4) f is (fact_is_own f has)) in
      kept i (omega (arith, to, head.at)) (out_of_fields (wave_shape y (wave_front y) p sound) i
      (inner_out p found sound i (stands_before y sound ends found refl) by_count (omega (arith, to, head.at))) (outside 4 4 i (inr (omega (arith, from)))) (side_out p found i by_count)))

-- ---- all of them

by_shape : (x y : List ℕ) (p : Parameters) (sound : Chunk) → Reaches (chunk_at Little y) (codes "data") (length y) 257 12 (wave_front y).chunks sound → AreParams p → fit_refusal Wave p ≡ None
    → sound.at ≤ length x → KeepsHead (wave_shape y (wave_front y) p sound) y x
    → (nat_lt (data_end y sound) (outer_end y) ≡ true → (length x ≡ length y) × ((i : ℕ) → end (wave_shape y (wave_front y) p sound) (wave_shape y (wave_front y) p sound).frames ≤ i → get_or x i 0 ≡ get_or y i 0))
    → All (SameBody x y) (wave_shape y (wave_front y) p sound).pieces
by_shape x y p sound ends good fits in_x kept behind =
    let front = pieces_of false (wave_front y).chunks in
    let back = pieces_of true (wave_tail y (wave_front y) sound) in
    let before : All (SameBody x y) front = pieces_kept x y false (wave_front y).chunks (chunks_before x y p sound ends in_x kept) in
    let most = 256 - length (wave_front y).chunks in
    let few = counted_bytes p (held (length y) sound) (option_map (fact_count 4 y) (fact_chunk 4 (wave_front y).chunks)) good fits in
    let after : All (SameBody x y) back = elim (cases_Bool (nat_lt (data_end y sound) (outer_end y))) [
      | inl goes_on ↦
          let rest = behind goes_on in
          pieces_kept x y true (wave_tail y (wave_front y) sound) (bodies_behind Little x y (λ chunk. not (is_own chunk)) (outer_end y) most (data_end y sound) (omega arith) rest.0
          (λ i le. rest.1 i (omega (arith, le, few))))
      | inr ends_there ↦
          let none : wave_tail y (wave_front y) sound ≡ [] = no_tail Little y (outer_end y) most (data_end y sound) (ltb-false (data_end y sound) (outer_end y) ends_there) in
          subst (λ (l : List Chunk). All (SameBody x y) (pieces_of true l)) (sym none) (All-nil (SameBody x y))
    ] in
    All-append (SameBody x y) front back before after

pub pieces_stay : PiecesStay wave
pieces_stay y x h is good in_x kept behind =
    let from : Opens y (wave_front y) h = opens y h is in
    let fits : fit_refusal Wave from.params ≡ None = format_fits (body_of y from.format) from.params from.params_are in
    subst (λ (s : Shape). All (SameBody x y) s.pieces) (sym from.shape)
    (by_shape x y from.params from.sound (reached y from.sound from.sound_is)
    (subst (λ (s : Shape). AreParams s.params) from.shape good) fits
    (subst (λ (s : Shape). s.start ≤ length x) from.shape in_x) (subst (λ (s : Shape). KeepsHead s y x) from.shape kept)
    (subst (λ (s : Shape). s.trailing ≡ true → (length x ≡ length y) × ((i : ℕ) → end s s.frames ≤ i → get_or x i 0 ≡ get_or y i 0)) from.shape behind))
