-- A list cut into groups.
use Rattle.std.specs.Prelude.{ℕ, zero, suc, ◌/◌, List, [], ◌∷◌, length, take, drop}

-- the first n groups of k items
abbrev pub first_groups : {X : Type 0} → ℕ → ℕ → List X → List (List X)
first_groups k zero xs = []
first_groups k (suc n) xs = take k xs ∷ first_groups k n (drop k xs)

-- all whole groups of k items
abbrev pub groups : {X : Type 0} → ℕ → List X → List (List X)
groups k xs = first_groups k (length xs / k) xs
