-- Bounds of signed numbers.
use Rattle.std.proofs.Common.{◌≡◌, ℕ, ◌+◌, ◌<◌, ◌≤◌, ℤ, pos, negsuc, unsigned_abs, ◌≤ℤ◌, arith}
use Rattle.std.proofs.lemmas.Int.{ints}
use Rattle.snd_ima_adpcm.specs.Frames.{clamp}

-- a number between two bounds has at most their magnitude, and the other way round
pub abs_within : (z : ℤ) (n : ℕ) → negsuc n ≤ℤ z → z ≤ℤ pos (n + 1) → unsigned_abs z ≤ n + 1
abs_within (pos a) n low high = omega (arith, ints)
abs_within (negsuc a) n low high = omega (arith, ints)

pub abs_least : (z : ℤ) (n : ℕ) → unsigned_abs z ≤ n + 1 → negsuc n ≤ℤ z
abs_least (pos a) n le = omega (arith, ints)
abs_least (negsuc a) n le = omega (arith, ints)

pub abs_most : (z : ℤ) (n : ℕ) → unsigned_abs z ≤ n → z ≤ℤ pos n
abs_most (pos a) n le = omega (arith, ints)
abs_most (negsuc a) n le = omega (arith, ints)

-- a number held within 16 bits
pub clamp_least : (r z : ℤ) → r ≡ clamp (negsuc 32767) (pos 32767) z → negsuc 32767 ≤ℤ r
clamp_least r z is = rw is (grind (arith, ints))

pub clamp_most : (r z : ℤ) → r ≡ clamp (negsuc 32767) (pos 32767) z → r ≤ℤ pos 32767
clamp_most r z is = rw is (grind (arith, ints))
