-- Where a mark stands in a list of bytes: the identifier of a chunk, looked for by its bytes.
use Rattle.std.specs.Prelude.{◌≡◌, ◌+◌, ◌<◌, ◌≤◌, ℕ, Bool, true, false, Option, None, Some, List, [], ◌∷◌, length, take, drop}
use Rattle.std.specs.Str.{bytes_eq}

-- a list begins by a mark
abbrev pub begins : List ℕ → List ℕ → Bool
begins mark s = bytes_eq (take (length mark) s) mark

-- a mark stands at a place of a list, and at none before it from another on
pub record IsFirstAt (mark s : List ℕ) (from place : ℕ) : Type 0 where
  pub behind : from ≤ place
  pub within : place + length mark ≤ length s
  pub stands : begins mark (drop place s) ≡ true
  pub none_before : (i : ℕ) → from ≤ i → i < place → begins mark (drop i s) ≡ false

-- the first place from one on at which a mark stands, or that there is none
abbrev pub IsFirstMark : List ℕ → List ℕ → ℕ → Option ℕ → Type 0
IsFirstMark mark s from None = (i : ℕ) → from ≤ i → begins mark (drop i s) ≡ false
IsFirstMark mark s from (Some place) = IsFirstAt mark s from place

-- the one answer, or else the other
abbrev pub or_else : {T : Type 0} → Option T → Option T → Option T
or_else None other = other
or_else (Some value) other = Some value

-- What the first suffix of a list answers that answers anything. The suffixes are the list, the list without its first byte,
-- and so on; the last is empty.
unfoldable pub first_suffix : {T : Type 0} → (List ℕ → Option T) → List ℕ → Option T
first_suffix here [] = here []
first_suffix here (x ∷ xs) = or_else (here (x ∷ xs)) (first_suffix here xs)
