use Rattle.std.proofs.Common.{◌∙◌, ap, ℕ, ◌+◌, ◌/◌, ◌<◌, inl, inr, arith}
use Rattle.std.proofs.lemmas.Bool.{cases_lt}
use lib.Ieee.{binary32, to_bits}
use Rattle.snd_g711.specs.Segment.{segment_and_step}
use Rattle.snd_g711.proofs.Digits.{digits_of, few_digits, is_number}
use Rattle.snd_g711.proofs.Segments.{segment_and_step-lt}
use Rattle.snd_g711.proofs.Wholes.{moved, pattern_is_number}
use Rattle.snd_g711.proofs.segment.digits_of.Goals as goal

pub float_from_bits-result : goal.float_from_bits-result
float_from_bits-result c = pattern_is_number c.from.result (omega (arith, c.from.ensures, c.requires))

pub float_to_bits-result : goal.float_to_bits-result
float_to_bits-result c = is_number c.from.result (omega (arith, c.from.ensures, c.requires))

few : (n : ℕ) → n < 32768 → to_bits binary32 (moved n) / 524288 < 65536
few n small = elim (cases_lt n 128) [
  | inl low ↦ omega (arith, low, few_digits n low)
  | inr high ↦ omega (arith, digits_of n high small, segment_and_step-lt n)
]

pub overflow_cast-result : goal.overflow_cast-result
overflow_cast-result c = omega (arith, few c.from.result (omega (arith, c.from.ensures, c.requires)))

pub returns-clause-low : goal.returns-clause-low
returns-clause-low c low = omega (arith, few_digits c.from.result (omega (arith, c.from.ensures, low)), c.from.ensures)

pub returns-clause-high : goal.returns-clause-high
returns-clause-high c high = digits_of c.from.result (omega (arith, c.from.ensures, high)) (omega (arith, c.from.ensures, c.requires)) ∙ ap (λ (n : ℕ). 2144 + segment_and_step n) c.from.ensures
