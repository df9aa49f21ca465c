-- A number of one width as a number of another.
use Rattle.std.specs.Prelude.{◌≡◌, ℕ, ◌-◌, ◌/◌, ◌^◌, ℤ, pos, negsuc, ◌*ℤ◌, neg_ℤ, ◌≤ℤ◌, ◌⊎◌, nat_le, if◌then◌else◌}

abbrev pub IsWidth : ℕ → Type 0
IsWidth width = (width ≡ 8) ⊎ (width ≡ 16) ⊎ (width ≡ 24) ⊎ (width ≡ 32)

-- x is a number of this many bits, two's complement
abbrev pub HasWidth : ℕ → ℤ → Type 0
HasWidth width x = (neg_ℤ (pos (2 ^ (width - 1))) ≤ℤ x) × (x ≤ℤ pos (2 ^ (width - 1) - 1))

-- x / d, rounded down
abbrev pub floor_div : ℤ → ℕ → ℤ
floor_div (pos n) d = pos (n / d)
floor_div (negsuc n) d = negsuc (n / d)

-- a wider number is a multiple; a narrower one is rounded down
abbrev pub changed : ℕ → ℕ → ℤ → ℤ
changed from to x = if nat_le from to then x *ℤ pos (2 ^ (to - from)) else floor_div x (2 ^ (from - to))
