use Rattle.std.proofs.Common.{arith}
use Rattle.snd_recode.proofs.Codes.{factor_is}
use Rattle.snd_recode.proofs.mulaw.factor_of.Goals as goal

pub returns : goal.returns
returns c = factor_is c.args.byte (omega arith)
