-- Lists of bytes, and what a crash does to them by whole sectors of 512 bytes.
use Rattle.std.specs.Prelude.{◌≡◌, ◌⊎◌, ℕ, ◌+◌, ◌-◌, ◌<◌, ◌/◌, List, ◌++◌, length, take, drop, get_or, replicate}

-- b with s put at a place, and zeros between the old end and that place
abbrev pub over : List ℕ → ℕ → List ℕ → List ℕ
over b at s = take at b ++ replicate (at - length b) 0 ++ s ++ drop (at + length s) b

-- sector k of x is that of y, whose bytes past its end count as zeros
abbrev pub HasSectorOf : List ℕ → List ℕ → ℕ → Type 0
HasSectorOf x y k = (i : ℕ) → i / 512 ≡ k → i < length x → get_or x i 0 ≡ get_or y i 0

-- x has the length of y or of z, and each of its sectors is that of y or of z
pub record Mix (y z x : List ℕ) : Type 0 where
  pub size : (length x ≡ length y) ⊎ (length x ≡ length z)
  pub sectors : (k : ℕ) → HasSectorOf x y k ⊎ HasSectorOf x z k
