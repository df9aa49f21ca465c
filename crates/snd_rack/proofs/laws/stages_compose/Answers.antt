use Rattle.snd_rack.proofs.Composed.{stays_in_range}
use Rattle.snd_rack.proofs.laws.stages_compose.Goals as goal

pub returns-clause-stays_in_range : goal.returns-clause-stays_in_range
returns-clause-stays_in_range c = stays_in_range
