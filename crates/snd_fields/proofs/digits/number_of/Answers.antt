use Rattle.std.proofs.Common.{◌<◌, ◌^◌, ℕ, arith}
use Rattle.std.proofs.Math.Nat.{pow-le-pow_right}
use Rattle.snd_fields.proofs.digits.number_of.Goals as goal

-- fewer than 19 digits leave room for one more
small : (n i : ℕ) → i < 19 → n < 10 ^ i → n < 10 ^ 18
small n i few lt = omega (arith, pow-le-pow_right {n = 10} (omega arith) {i = i} {j = 18} (omega arith))

pub overflow_mul-number : goal.overflow_mul-number
overflow_mul-number c = omega (arith, small c.loop-digit.number c.loop-digit.digit-index (omega arith) c.loop-digit.invariant.bound)

pub overflow_add-number : goal.overflow_add-number
overflow_add-number c = omega (arith, small c.loop-digit.number c.loop-digit.digit-index (omega arith) c.loop-digit.invariant.bound)
