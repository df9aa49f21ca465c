use Rattle.snd_rules.proofs.KeptTaps.{refused_leaves}
use Rattle.snd_rules.proofs.laws.refused_commands_leave_the_taps.Goals as goal

pub returns : goal.returns
returns c = refused_leaves
