-- What holds of the layout that a list of bytes gives, and of its pieces.
use Rattle.std.proofs.Common.{◌≡◌, ◌⊎◌, ap, sym, subst, refl, inl, inr, ℕ, ◌+◌, ◌-◌, ◌^◌, ◌<◌, ◌≤◌, Bool, true, false, not, List, [], ◌∷◌, All, Option, None, Some, Ok, length, get_or, arith}
use Rattle.std.proofs.lemmas.Bool.{cases_Bool, cases_lt, eqb-false, lt-ltb, ltb-false}
use Rattle.std.proofs.lemmas.List.Elements.{All-append, All-map, All-nil, All-weaker}
use Rattle.std.proofs.lemmas.Slice.Eq.{bytes_eq-Decides}
use Rattle.std.specs.List.{filter, list_any}
use Rattle.std.specs.Prelude.{◌==◌, codes, nat_lt}
use Rattle.snd_chunks.proofs.Public.{bodies_before, bodies_behind, find_has, in_order, is_head, IsBetween, IsHead, no_tail, SameBody as SameChunk, tail_ends}
use Rattle.snd_chunks.specs.declared.chunk.Chunk.{Chunk}
use Rattle.snd_chunks.specs.Chunks.{chunk_at}
use Rattle.snd_chunks.specs.Walks.{EndsBy}
use Rattle.snd_fields.proofs.Numbers.{number_fits}
use Rattle.snd_fields.specs.Field.{number}
use Rattle.snd_fields.specs.Laws.{IsByte}
use Rattle.snd_fields.specs.declared.field.Order.TheVariants.{Big}
use Rattle.snd_layout.specs.Container.{KeepsHead, LiesIn, PiecesStay, SameBody}
use Rattle.snd_layout.specs.Fit.{fit_refusal}
use Rattle.snd_layout.specs.Opened.{EndsIn}
use Rattle.snd_layout.specs.Params.{AreParams, data_bytes}
use Rattle.snd_layout.specs.Refusals.{first_refusal, refuse_if, unless}
use Rattle.snd_layout.specs.Shape.{IsPlaced, KeepsRule, Shape, end}
use Rattle.snd_layout.specs.declared.kind.Kind.TheVariants.{Svx}
use Rattle.snd_layout.specs.declared.refusal.OpenRefusal.{OpenRefusal}
use Rattle.snd_layout.specs.declared.refusal.OpenRefusal.TheVariants.{BadRate}
use Rattle.snd_chunks.specs.Parts.{has_id, held}
use Rattle.snd_wave.specs.Layout.{piece_of}
use Rattle.snd_svx.specs.Container.{svx}
use Rattle.snd_svx.specs.declared.header.Header.{Header}
use Rattle.snd_svx.specs.Layout.{data_end, header_of, is_own, is_pair, outer_end, pieces_of, svx_front, svx_layout, svx_shape, svx_tail, voice, voice_of, voice_refusal}
use Rattle.snd_svx.proofs.Agreements.{Stands, same_beside, SameBeside, stands}
use Rattle.snd_svx.proofs.Images.{Sized, sized, voice_bytes}
use Rattle.snd_svx.proofs.Layouts.{pieces_end}
use Rattle.snd_svx.proofs.Opens.{Opens, opens}

-- ---- the rate

some_rate : (r : ℕ) → refuse_if (r == 0) BadRate ≡ None → 1 ≤ r
some_rate r is = elim (cases_Bool (r == 0)) [
  | inl none ↦ absurd (let h = rw none at is in cc)
  | inr other ↦ elim (cases_lt 0 r) [ inl lt ↦ omega (arith, lt) | inr le ↦ absurd (eqb-false r 0 other (omega (arith, le))) ]
]

second_none : (a b c : Option OpenRefusal) → first_refusal (a ∷ b ∷ c ∷ []) ≡ None → b ≡ None
second_none (Some a) b c is = absurd (cc)
second_none None (Some b) c is = absurd (cc)
second_none None None c is = refl

unless_ok : (refusal : Option OpenRefusal) (p q : Header) → unless refusal p ≡ Ok q → (refusal ≡ None) × (p ≡ q)
unless_ok None p q is = (refl, cc)
unless_ok (Some refusal) p q is = absurd (cc)

good_rate : (b : List ℕ) (chunks : List Chunk) (chunk : Chunk) (header : Header) → All IsByte b → voice_of b chunks chunk ≡ Ok header → (1 ≤ header.rate) × (header.rate < 2 ^ 16)
good_rate b chunks chunk header bytes is =
    let good = unless_ok (voice_refusal (list_any (is_pair b) chunks) (header_of b chunk)) (header_of b chunk) header is in
    let some : 1 ≤ (header_of b chunk).rate = some_rate (header_of b chunk).rate (second_none _ _ _ good.0) in
    let few : number Big b (chunk.at + 12) 2 < 2 ^ 16 = number_fits Big b (chunk.at + 12) 2 bytes in
    let rate : number Big b (chunk.at + 12) 2 ≡ header.rate = ap (λ (h : Header). h.rate) good.1 in
    (omega (arith, some, rate), omega (arith, few, rate))

pub voice_fits : (rate : ℕ) → rate < 2 ^ 16 → fit_refusal Svx (voice rate) ≡ None
voice_fits rate few =
    let is : nat_lt rate (2 ^ 16) ≡ true = lt-ltb rate (2 ^ 16) few in
    rw is refl

-- ---- where all lies

module _ (b : List ℕ) (header : Header) (chunk sound : Chunk) (bytes : All IsByte b) (there : Stands b chunk sound) (rate : (1 ≤ header.rate) × (header.rate < 2 ^ 16)) where
  abbrev shape : Shape
  shape = svx_shape b (svx_front b) header chunk sound

  sizes : Sized b sound
  sizes = sized b chunk sound bytes there

  placed : All IsPlaced shape.pieces
  placed =
      let last = there.reach.last in
      let few : number Big b 4 4 < 2 ^ 32 = number_fits Big b 4 4 bytes in
      let outer : outer_end b ≤ 2 ^ 63 - 1 = omega (arith, few) in
      let head : IsHead Big b last sound = is_head Big b last sound there.reach.at in
      let ordered = in_order Big b (codes "BODY") (length b) 12 last (svx_front b).chunks there.reach.chain in
      let before : All (EndsBy (2 ^ 63 - 1)) (svx_front b).chunks =
      All-weaker (IsBetween 12 last) (EndsBy (2 ^ 63 - 1)) (λ c is. omega (arith, is.before, head.at, sizes.near)) (svx_front b).chunks ordered.1 in
      let all : All (EndsIn (2 ^ 63 - 1)) shape.pieces =
      pieces_end (2 ^ 63 - 1) (outer_end b) (svx_front b).chunks (svx_tail b (svx_front b) sound) shape.pieces outer before (tail_ends (chunk_at Big b) (outer_end b) _ _) refl in
      All-weaker (EndsIn (2 ^ 63 - 1)) IsPlaced (λ piece is. omega (arith, is)) shape.pieces all

  params : AreParams (voice header.rate)
  params = record { some_channel = omega arith; most_channels = omega arith; some_rate = rate.0; most_rate = omega (arith, rate.1); blocks = refl }

  count : data_bytes (voice header.rate) (held (length b) sound) ≡ held (length b) sound
  count = voice_bytes header.rate (held (length b) sound)

  rule : KeepsRule shape
  rule = record {
    fits = voice_fits header.rate rate.1;
    inner_size = refl;
    outer_size = refl;
    side_size = refl;
    inner_end = omega (arith, there.before, there.long);
    outer_end = omega (arith, there.before, there.long);
    side_end = omega (arith, there.before, there.long);
    sound_start = refl;
    pieces_placed = placed;
    data_end = omega (arith, count, sizes.near, sizes.few);
    in_room = λ known. omega (arith, count, sizes.few);
    declared_fits = omega arith;
    reserved = tt;
  }

  lies : LiesIn b shape
  lies = record {
    params = params;
    rule = rule;
    within = there.within;
    held = omega (arith, count, there.within);
    room_ends = omega (arith, sizes.near);
    declared = λ known. omega (arith, count, sizes.few);
  }

pub lies_in : (b : List ℕ) (h : Shape) → All IsByte b → svx_layout b ≡ Ok h → LiesIn b h
lies_in b h bytes is =
    let from : Opens b (svx_front b) h = opens b h is in
    rw from.shape (lies b from.header from.chunk from.sound bytes (stands b h from) (good_rate b (svx_front b).chunks from.chunk from.header bytes from.header_is))

-- ---- the pieces

pieces_kept : (x y : List ℕ) (after : Bool) (chunks : List Chunk) → All (SameChunk x y) (filter (λ chunk. not (is_own chunk)) chunks) → All (SameBody x y) (pieces_of after chunks)
pieces_kept x y after chunks all = All-map (SameBody x y) (piece_of after) (filter (λ chunk. not (is_own chunk)) chunks) all

header_is_own : (chunk : Chunk) → has_id (codes "VHDR") chunk ≡ true → not (is_own chunk) ≡ false
header_is_own chunk is =
    let named : chunk.id.0 ≡ codes "VHDR" = (bytes_eq-Decides chunk.id.0 (codes "VHDR")).0 is in
    ap (λ (l : List ℕ). not (is_own (record { id = record { 0 = l }; at = chunk.at; len = chunk.len; next = chunk.next }))) named

first_four : (at len i : ℕ) → 20 ≤ len → (i < at) ⊎ (at + len ≤ i) → (i < at) ⊎ (at + 4 ≤ i)
first_four at len i few (inl before) = inl before
first_four at len i few (inr behind) = inr (omega (arith, behind, few))

module _ (x y : List ℕ) (header : Header) (chunk sound : Chunk) (there : Stands y chunk sound) (in_x : sound.at ≤ length x) (kept : SameBeside x y chunk sound) where
  chunks_before : All (SameChunk x y) (filter (λ c. not (is_own c)) (svx_front y).chunks)
  chunks_before =
      let last = there.reach.last in
      let head : IsHead Big y last sound = is_head Big y last sound there.reach.at in
      let ordered = in_order Big y (codes "BODY") (length y) 12 last (svx_front y).chunks there.reach.chain in
      let named = (find_has (has_id (codes "VHDR")) (IsBetween 12 last) (svx_front y).chunks chunk ordered.1 there.found).1 in
      bodies_before Big x y (codes "BODY") (λ c. not (is_own c)) 12 last (svx_front y).chunks there.reach.chain (omega (arith, head.at, in_x)) (omega (arith, head.within)) (λ i from to beside.
      kept i (omega (arith, from)) (omega (arith, to, head.at)) (first_four chunk.at chunk.len i there.long (beside (has_id (codes "VHDR")) chunk there.found (header_is_own chunk named))))

  by_shape : (nat_lt (data_end y sound) (outer_end y) ≡ true → (length x ≡ length y) × ((i : ℕ) → end (svx_shape y (svx_front y) header chunk sound) (held (length y) sound) ≤ i → get_or x i 0 ≡ get_or y i 0))
      → All (SameBody x y) (svx_shape y (svx_front y) header chunk sound).pieces
  by_shape behind =
      let front = pieces_of false (svx_front y).chunks in
      let back = pieces_of true (svx_tail y (svx_front y) sound) in
      let before : All (SameBody x y) front = pieces_kept x y false (svx_front y).chunks chunks_before in
      let most = 256 - length (svx_front y).chunks in
      let bytes = voice_bytes header.rate (held (length y) sound) in
      let after : All (SameBody x y) back = elim (cases_Bool (nat_lt (data_end y sound) (outer_end y))) [
        | inl goes_on ↦
            let rest = behind goes_on in
            pieces_kept x y true (svx_tail y (svx_front y) sound) (bodies_behind Big x y (λ c. not (is_own c)) (outer_end y) most (data_end y sound) (omega arith) rest.0
            (λ i le. rest.1 i (omega (arith, le, bytes))))
        | inr ends_there ↦
            let none : svx_tail y (svx_front y) sound ≡ [] = no_tail Big y (outer_end y) most (data_end y sound) (ltb-false (data_end y sound) (outer_end y) ends_there) in
            subst (λ (l : List Chunk). All (SameBody x y) (pieces_of true l)) (sym none) (All-nil (SameBody x y))
      ] in
      All-append (SameBody x y) front back before after

pub pieces_stay : PiecesStay svx
pieces_stay y x h is good in_x kept behind =
    let from : Opens y (svx_front y) h = opens y h is in
    let keeps : KeepsHead (svx_shape y (svx_front y) from.header from.chunk from.sound) y x = subst (λ (s : Shape). KeepsHead s y x) from.shape kept in
    subst (λ (s : Shape). All (SameBody x y) s.pieces) (sym from.shape)
    (by_shape x y from.header from.chunk from.sound (stands y h from) (subst (λ (s : Shape). s.start ≤ length x) from.shape in_x)
    (same_beside x y (svx_front y) from.header from.chunk from.sound keeps)
    (subst (λ (s : Shape). s.trailing ≡ true → (length x ≡ length y) × ((i : ℕ) → end s s.frames ≤ i → get_or x i 0 ≡ get_or y i 0)) from.shape behind))
