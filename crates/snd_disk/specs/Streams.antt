-- What a source gives and what a sink takes.
use Rattle.std.specs.Prelude.{◌≡◌, ◌⊎◌, ◌≤◌, ℕ, List, [], ◌++◌, length, take, drop, Option, Some}

-- n bytes came, in order, and none exactly where none was asked or none was left
pub record TakesBytes (old new : Option (List ℕ)) (n : ℕ) (was into : List ℕ) : Type 0 where
  pub few : (b : List ℕ) → old ≡ Some b → n ≤ length b
  pub front : (b : List ℕ) → old ≡ Some b → take n into ≡ take n b
  pub left : (b : List ℕ) → old ≡ Some b → new ≡ Some (drop n b)
  pub ended : (b : List ℕ) → old ≡ Some b → n ≡ 0 → (was ≡ []) ⊎ (b ≡ [])

-- some front of the bytes was appended
abbrev pub AppendsFront : Option (List ℕ) → Option (List ℕ) → List ℕ → Type 0
AppendsFront old new bytes = (t : List ℕ) → old ≡ Some t → (n : ℕ) × (n ≤ length bytes) × (new ≡ Some (t ++ take n bytes))
