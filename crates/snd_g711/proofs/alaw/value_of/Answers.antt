use Rattle.std.proofs.Common.{arith}
use Rattle.snd_g711.specs.Alaw.{alaw_value}
use Rattle.snd_g711.proofs.AlawLemmas.{alaw_value_fits}
use Rattle.snd_g711.proofs.Tables.{table_entry}
use Rattle.snd_g711.proofs.alaw.value_of.Goals as goal

pub returns : goal.returns
unfolding alaw_value
returns c = table_entry alaw_value alaw_value_fits c.args.byte c.from.result (omega arith) c.from.ensures
