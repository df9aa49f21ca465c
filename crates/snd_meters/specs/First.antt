-- The first of a list that passes a test. Only proofs need this.
use Rattle.std.specs.Prelude.{◌≡◌, ℕ, ◌<◌, List, Bool, true, false, length, take, Option, MatchOption, slice_index_or}
use Rattle.std.specs.List.{list_any}

-- it stands at this place
pub record IsFirst {X : Type 0} (p : X → Bool) (xs : List X) (at : ℕ) : Type 0 where
  pub within : at < length xs
  pub passes : (x : X) → p (slice_index_or xs at x) ≡ true
  pub before : list_any p (take at xs) ≡ false

-- where it stands, if there is one
abbrev pub IsPlaceOf : {X : Type 0} → (X → Bool) → List X → Option ℕ → Type 0
IsPlaceOf p xs place = MatchOption place (list_any p xs ≡ false) (IsFirst p xs)
