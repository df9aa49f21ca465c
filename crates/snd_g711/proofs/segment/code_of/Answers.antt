use Rattle.std.proofs.Common.{arith}
use Rattle.snd_g711.proofs.Segments.{segment_and_step-lt}
use Rattle.snd_g711.proofs.segment.code_of.Goals as goal

pub returns-clause-bound : goal.returns-clause-bound
returns-clause-bound c = omega (arith, c.digits_of.ensures.high c.requires.least, segment_and_step-lt c.args.magnitude)
