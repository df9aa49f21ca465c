use Rattle.snd_disk.proofs.RunsOfCalls.{runs_join}
use Rattle.snd_disk.proofs.laws.runs_join.Goals as goal

pub returns : goal.returns
returns g c = runs_join g.D.Disk.state g.D.Disk.may_leave g.D.Disk.left_between
