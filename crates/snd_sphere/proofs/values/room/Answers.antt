use Rattle.std.proofs.Common.{arith}
use Rattle.std.proofs.Math.Nat.{pow-le-pow_right}
use Rattle.snd_sphere.proofs.values.room.Goals as goal

pub overflow_sub-most : goal.overflow_sub-most
overflow_sub-most c = omega (arith, c.pow.ensures, pow-le-pow_right {n = 10} (omega arith) {i = 0} {j = c.from.result} (omega arith))
