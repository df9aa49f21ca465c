-- The numbers that `gen` makes from a seed: a linear congruential generator of 32 bits, with the constants of "Numerical Recipes
-- in C" (Press and others, second edition, 1992), chapter 7.1. A number is the upper half of a state, moved to begin at -32768.
use Rattle.std.specs.Prelude.{ℕ, zero, suc, ◌+◌, ◌*◌, ◌/◌, ◌%◌, ◌^◌, ℤ, pos, ◌-ℤ◌, List, [], ◌∷◌}

-- the state behind another
unfoldable pub next : ℕ → ℕ
next s = (1664525 * s + 1013904223) % 2 ^ 32

-- the number that a state gives
unfoldable pub number_of : ℕ → ℤ
number_of s = pos (s / 65536) -ℤ pos 32768

-- so many numbers behind a state: each takes a step first
abbrev pub numbers_from : ℕ → ℕ → List ℤ
numbers_from zero s = []
numbers_from (suc k) s = number_of (next s) ∷ numbers_from k (next s)

-- and the state of the last of them
abbrev pub state_after : ℕ → ℕ → ℕ
state_after zero s = s
state_after (suc k) s = state_after k (next s)
