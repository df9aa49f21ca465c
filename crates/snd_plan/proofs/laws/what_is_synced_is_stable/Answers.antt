use Rattle.snd_plan.proofs.Way.{left_synced}
use Rattle.snd_plan.proofs.laws.what_is_synced_is_stable.Goals as goal

pub returns : goal.returns
returns g c = λ os old new b told leaves x left. left_synced os b (g.D.Disk.may_leave old) x (leaves b told x left)
