-- Bounds of signed numbers.
use Rattle.std.proofs.Common.{◌≡◌, ℕ, ◌<◌, ◌≤◌, ℤ, pos, negsuc, unsigned_abs, ◌≤ℤ◌, arith}
use Rattle.std.proofs.lemmas.Int.{ints}
use Rattle.snd_ima_adpcm.specs.Frames.{floor_div}
use Rattle.snd_ms_adpcm.specs.Microsoft.{signed_code}

-- a 256th lies between the 256ths of two bounds
pub floor_bounds : (z : ℤ) → negsuc 1610612735 ≤ℤ z → z ≤ℤ pos 1610612736 → (negsuc 6291455 ≤ℤ floor_div z 256) × (floor_div z 256 ≤ℤ pos 6291456)
floor_bounds (pos a) low high = (omega (arith, ints), omega (arith, ints))
floor_bounds (negsuc a) low high = (omega (arith, ints), omega (arith, ints))

-- the number of a code
pub abs_of_code : (code : ℕ) (z : ℤ) → code < 16 → z ≡ signed_code code → unsigned_abs z ≤ 8
abs_of_code code z lt is = rw is (grind (arith, ints))
