use Rattle.std.proofs.Common.{arith}
use Rattle.std.proofs.Math.Nat.{one-le-pow}
use Rattle.snd_container.proofs.fields.sphere_room.Goals as goal

pub overflow_sub-most : goal.overflow_sub-most
overflow_sub-most c = omega (arith, c.pow-most.ensures, one-le-pow c.from.result 10 (omega arith))
