use Rattle.std.proofs.Common.{arith}
use Rattle.snd_output.proofs.Appending.{one_fits}
use Rattle.snd_output.proofs.Passing.{many_fit}
use Rattle.snd_output.proofs.blocks.frames_of.Goals as goal

pub returns-clause-one : goal.returns-clause-one
returns-clause-one c =
    omega (arith, c.min.ensures, one_fits c.args.numbers c.args.channels c.requires.some.0 c.requires.one.0, one_fits c.args.bytes c.args.align c.requires.some.1 c.requires.one.1)

pub returns-clause-numbers : goal.returns-clause-numbers
returns-clause-numbers c = many_fit c.args.numbers c.args.channels c.min.result (omega (arith, c.min.ensures))

pub returns-clause-bytes : goal.returns-clause-bytes
returns-clause-bytes c = many_fit c.args.bytes c.args.align c.min.result (omega (arith, c.min.ensures))
