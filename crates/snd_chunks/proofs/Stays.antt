-- Chunks whose bodies stay where two files have the same bytes beside some fields.
use Rattle.std.proofs.Common.{◌≡◌, ◌⊎◌, ◌∙◌, ap, refl, inl, inr, ℕ, zero, suc, ◌+◌, ◌*◌, ◌^◌, ◌<◌, ◌≤◌, Bool, true, false, List, [], ◌∷◌, All, Option, None, Some, length, take, drop, get_or, arith}
use Rattle.std.proofs.lemmas.Bool.{cases_Bool, cases_lt, leb-true, lt-leb}
use Rattle.std.proofs.lemmas.List.Elements.{All-cons, All-filter, All-nil, All-weaker, filter_passes}
use Rattle.std.specs.List.{filter, find}
use Rattle.std.specs.Prelude.{nat_le}
use Rattle.snd_chunks.proofs.Chains.{IsApart, IsBetween, IsChain, IsHead, apart, in_order, is_head, same_number_at, same_part}
use Rattle.snd_chunks.specs.declared.chunk.Chunk.{Chunk}
use Rattle.snd_chunks.specs.Chunks.{chunk_at, tail, tail_from}
use Rattle.snd_chunks.specs.Walks.{EndsBy}
use Rattle.snd_fields.proofs.Numbers.{number_fits}
use Rattle.snd_fields.specs.Field.{number}
use Rattle.snd_fields.specs.Laws.{IsByte}
use Rattle.snd_fields.specs.declared.field.Order.{Order}

-- a chunk has the same body in two files
abbrev pub SameBody : List ℕ → List ℕ → Chunk → Type 0
SameBody x y chunk = take chunk.len (drop chunk.at x) ≡ take chunk.len (drop chunk.at y)

-- ---- before the sound

-- a place of the body of a chunk is none of the body of another
beside_body : (f chunk : Chunk) (i : ℕ) → IsApart f chunk → (chunk ≡ f → ⊥) → chunk.at ≤ i → i < chunk.at + chunk.len → (i < f.at) ⊎ (f.at + f.len ≤ i)
beside_body f chunk i (inl same) other from to = absurd (other same)
beside_body f chunk i (inr (inl before)) other from to = inl (omega (arith, before, to))
beside_body f chunk i (inr (inr behind)) other from to = inr (omega (arith, behind, from))

-- a place is beside the body of each chunk that is the first to pass a test, but that is not kept
abbrev pub IsBesideFound : (Chunk → Bool) → List Chunk → ℕ → Type 0
IsBesideFound kept chunks i = (test : Chunk → Bool) (f : Chunk) → find test chunks ≡ Some f → kept f ≡ false → (i < f.at) ⊎ (f.at + f.len ≤ i)

-- Where a file has the bytes of another between the heads of the first chunk and of the sound, beside the bodies of chunks that
-- are not kept, those that are kept stay.
module _ (order : Order) (x y id : List ℕ) (kept : Chunk → Bool) where
  pub bodies_before : (p last : ℕ) (chunks : List Chunk) → IsChain (chunk_at order y) id (length y) p chunks last → last ≤ length x → last ≤ length y
      → ((i : ℕ) → p + 8 ≤ i → i < last → IsBesideFound kept chunks i → get_or x i 0 ≡ get_or y i 0) → All (SameBody x y) (filter kept chunks)
  bodies_before p last chunks chain in_x in_y same k d lt =
      let chunk = get_or (filter kept chunks) k d in
      let ordered = in_order order y id (length y) p last chunks chain in
      let lies : IsBetween p last chunk = All-filter kept (IsBetween p last) chunks ordered.1 k d lt in
      let passed : kept chunk ≡ true = filter_passes kept chunks k d lt in
      same_part chunk.len chunk.at x y (omega (arith, lies.before, in_x)) (omega (arith, lies.before, in_y))
      (λ i from to. same i (omega (arith, from, lies.after)) (omega (arith, to, lies.before)) (λ test f found not_kept.
      let all : IsApart f chunk = All-filter kept (IsApart f) chunks (apart order y id (length y) p last chunks test f chain found) k d lt in
      beside_body f chunk i all (λ is. let e : kept chunk ≡ kept f = ap kept is in cc) from to))

-- ---- behind it

-- the chunks behind the sound end by the end of the whole
pub tail_ends : (chunk_of : ℕ → Option Chunk) (limit n p : ℕ) → All (EndsBy limit) (tail chunk_of limit n p)
unfolding tail
tail_ends chunk_of limit zero p = All-nil (EndsBy limit)
tail_ends chunk_of limit (suc n) p = one (chunk_of p) (λ q. tail_ends chunk_of limit n q)
  where
    one : (chunk : Option Chunk) → ((q : ℕ) → All (EndsBy limit) (tail chunk_of limit n q)) → All (EndsBy limit) (tail_from limit chunk (tail chunk_of limit n))
    one None rest = All-nil (EndsBy limit)
    one (Some chunk) rest = elim (cases_Bool (nat_le (chunk.at + chunk.len) limit)) [
      | inl is ↦ rw is (All-cons (EndsBy limit) chunk (tail chunk_of limit n chunk.next) (leb-true (chunk.at + chunk.len) limit is) (rest chunk.next))
      | inr other ↦ rw other (All-nil (EndsBy limit))
    ]

-- and begin behind it
pub tail_begins : (order : Order) (b : List ℕ) (limit n p : ℕ) → All (λ chunk. p ≤ chunk.at) (tail (chunk_at order b) limit n p)
unfolding tail
tail_begins order b limit zero p = All-nil (λ (chunk : Chunk). p ≤ chunk.at)
tail_begins order b limit (suc n) p = one (chunk_at order b p) refl (λ q. tail_begins order b limit n q)
  where
    one : (o : Option Chunk) → chunk_at order b p ≡ o → ((q : ℕ) → All (λ chunk. q ≤ chunk.at) (tail (chunk_at order b) limit n q))
        → All (λ chunk. p ≤ chunk.at) (tail_from limit o (tail (chunk_at order b) limit n))
    one None is rest = All-nil (λ (chunk : Chunk). p ≤ chunk.at)
    one (Some chunk) is rest = elim (cases_Bool (nat_le (chunk.at + chunk.len) limit)) [
      | inl ends ↦
          let head : IsHead order b p chunk = is_head order b p chunk is in
          rw ends (All-cons (λ (c : Chunk). p ≤ c.at) chunk (tail (chunk_at order b) limit n chunk.next) (omega (arith, head.at))
          (All-weaker (λ (c : Chunk). chunk.next ≤ c.at) (λ (c : Chunk). p ≤ c.at) (λ c le. omega (arith, le, head.at, head.next)) (tail (chunk_at order b) limit n chunk.next) (rest chunk.next)))
      | inr runs ↦ rw runs (All-nil (λ (c : Chunk). p ≤ c.at))
    ]

-- where two files have one length, and the same bytes from there on, those that are kept stay
pub bodies_behind : (order : Order) (x y : List ℕ) (kept : Chunk → Bool) (limit n p : ℕ) → limit ≤ length y → length x ≡ length y → ((i : ℕ) → p ≤ i → get_or x i 0 ≡ get_or y i 0)
    → All (SameBody x y) (filter kept (tail (chunk_at order y) limit n p))
bodies_behind order x y kept limit n p few long same =
    let chunks = tail (chunk_at order y) limit n p in
    All-filter kept (SameBody x y) chunks (λ k d lt.
    let chunk = get_or chunks k d in
    let ends : EndsBy limit chunk = tail_ends (chunk_at order y) limit n p k d lt in
    let begins : p ≤ chunk.at = tail_begins order y limit n p k d lt in
    same_part chunk.len chunk.at x y (omega (arith, ends, few, long)) (omega (arith, ends, few)) (λ i from to. same i (omega (arith, begins, from))))

-- and they have there the same chunks
pub chunk_from : (order : Order) (x y : List ℕ) (p : ℕ) → length x ≡ length y → ((i : ℕ) → p ≤ i → get_or x i 0 ≡ get_or y i 0) → chunk_at order x p ≡ chunk_at order y p
chunk_from order x y p long same = elim (cases_lt (length y) (p + 8)) [
  | inl past ↦
      let in_x : nat_le (p + 8) (length x) ≡ false = lt-leb (p + 8) (length x) (omega (arith, past, long)) in
      let in_y : nat_le (p + 8) (length y) ≡ false = lt-leb (p + 8) (length y) past in
      rw (in_x, in_y) refl
  | inr within ↦
      let id : take 4 (drop p x) ≡ take 4 (drop p y) = same_part 4 p x y (omega (arith, within, long)) (omega (arith, within)) (λ i from to. same i from) in
      let size : number order x (p + 4) 4 ≡ number order y (p + 4) 4 = same_number_at order 4 (p + 4) x y (λ i from to. same i (omega (arith, from))) in
      rw (long, id, size) refl
]

pub tail_from_same : (order : Order) (x y : List ℕ) (limit n p : ℕ) → length x ≡ length y → ((i : ℕ) → p ≤ i → get_or x i 0 ≡ get_or y i 0)
    → tail (chunk_at order x) limit n p ≡ tail (chunk_at order y) limit n p
unfolding tail
tail_from_same order x y limit zero p long same = refl
tail_from_same order x y limit (suc n) p long same =
    ap (λ (o : Option Chunk). tail_from limit o (tail (chunk_at order x) limit n)) (chunk_from order x y p long same)
    ∙ one (chunk_at order y p) refl (λ q le. tail_from_same order x y limit n q long (λ i from. same i (omega (arith, le, from))))
  where
    one : (o : Option Chunk) → chunk_at order y p ≡ o → ((q : ℕ) → p ≤ q → tail (chunk_at order x) limit n q ≡ tail (chunk_at order y) limit n q)
        → tail_from limit o (tail (chunk_at order x) limit n) ≡ tail_from limit o (tail (chunk_at order y) limit n)
    one None is rest = refl
    one (Some chunk) is rest = elim (cases_Bool (nat_le (chunk.at + chunk.len) limit)) [
      | inl ends ↦
          let head : IsHead order y p chunk = is_head order y p chunk is in
          rw ends (ap (λ (l : List Chunk). chunk ∷ l) (rest chunk.next (omega (arith, head.at, head.next))))
      | inr runs ↦ rw runs refl
    ]

-- ---- where they lie

-- in a file of bytes the chunks before the sound are few and small, so that it begins early
pub chain_end : (order : Order) (b id : List ℕ) (limit p q : ℕ) (chunks : List Chunk) → All IsByte b → IsChain (chunk_at order b) id limit p chunks q → q ≤ p + length chunks * 2 ^ 33
chain_end order b id limit p q [] bytes chain = omega (arith, chain)
chain_end order b id limit p q (chunk ∷ chunks) bytes chain =
    let head : IsHead order b p chunk = is_head order b p chunk chain.0.at in
    let few : number order b (p + 4) 4 < 2 ^ 32 = number_fits order b (p + 4) 4 bytes in
    let rest : q ≤ chunk.next + length chunks * 2 ^ 33 = chain_end order b id limit chunk.next q chunks bytes chain.1 in
    omega (arith, head.at, head.len, head.next, few, rest)
