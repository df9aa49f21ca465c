-- The ends of numbers, and each number between two bounds.
use Rattle.std.proofs.Common.{◌≡◌, ◌↔◌, ℕ, ◌+◌, ◌<◌, ◌≤◌, ℤ, pos, ◌≤ℤ◌, List, All, length, get_or, take, subst, arith}
use Rattle.std.proofs.lemmas.Int.{int_max_is, int_min_is, ints}
use Rattle.std.proofs.lemmas.List.{get_or-take, length-take, take-take, take_all}
use Rattle.std.proofs.lemmas.List.Elements.{All-get_or, All-more, All-take}
use Rattle.std.specs.Int.{int_max, int_min}

module _ (P : ℤ → Type 0) (xs : List ℤ) (i : ℕ) (lt : i < length xs) where
  before : All P (take (i + 1) xs) → All P (take i xs)
  before all = subst (All P) (take-take i (i + 1) xs (omega arith)) (All-take P i (take (i + 1) xs) all)

  here : All P (take (i + 1) xs) → P (get_or xs i (pos 0))
  here all = subst P (get_or-take (i + 1) xs i (pos 0) (omega arith)) (All-get_or P (take (i + 1) xs) i (pos 0) (omega (arith, length-take (i + 1) xs)) all)

-- the ends of one number more
pub one_more : (low high least greatest less more : ℤ) (xs : List ℤ) (i : ℕ) → i < length xs
    → less ≡ int_min least (get_or xs i (pos 0)) → more ≡ int_max greatest (get_or xs i (pos 0))
    → (((low ≤ℤ least) × (greatest ≤ℤ high)) ↔ All (λ x. (low ≤ℤ x) × (x ≤ℤ high)) (take i xs))
    → ((low ≤ℤ less) × (more ≤ℤ high)) ↔ All (λ x. (low ≤ℤ x) × (x ≤ℤ high)) (take (i + 1) xs)
one_more low high least greatest less more xs i lt less_is more_is h =
    let P : ℤ → Type 0 = λ x. (low ≤ℤ x) × (x ≤ℤ high) in
    let x = get_or xs i (pos 0) in
    let below = int_min_is least x in
    let above = int_max_is greatest x in (
      λ ends.
          All-more P xs i (pos 0) lt (h.0 (omega (arith, ints, ends.0, less_is, below), omega (arith, ints, ends.1, more_is, above)))
          (omega (arith, ints, ends.0, less_is, below), omega (arith, ints, ends.1, more_is, above)),
      λ all.
          let ends = h.1 (before P xs i lt all) in
          let now = here P xs i lt all in
          (omega (arith, ints, ends.0, now.0, less_is, below), omega (arith, ints, ends.1, now.1, more_is, above)),
    )

-- the ends of all numbers; the bounds are named otherwise before
pub all_of_ends : (low high least greatest from to : ℤ) (xs : List ℤ) (i : ℕ) → length xs ≤ i → from ≡ low → to ≡ high
    → (((from ≤ℤ least) × (greatest ≤ℤ to)) ↔ All (λ x. (from ≤ℤ x) × (x ≤ℤ to)) (take i xs))
    → ((low ≤ℤ least) × (greatest ≤ℤ high)) ↔ All (λ x. (low ≤ℤ x) × (x ≤ℤ high)) xs
all_of_ends low high least greatest from to xs i done low_is high_is h = rw (low_is, high_is, take_all i xs done) at h
