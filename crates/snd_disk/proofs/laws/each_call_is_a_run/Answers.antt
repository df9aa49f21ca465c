use Rattle.snd_disk.proofs.RunsOfCalls.{change_is_run, sync_is_run}
use Rattle.snd_disk.proofs.laws.each_call_is_a_run.Goals as goal

pub returns-clause-change : goal.returns-clause-change
returns-clause-change g c = change_is_run g.D.Disk.state g.D.Disk.may_leave g.D.Disk.left_between g.met.D.Disk.only_now

pub returns-clause-sync : goal.returns-clause-sync
returns-clause-sync g c = sync_is_run g.D.Disk.state g.D.Disk.may_leave g.D.Disk.left_between g.met.D.Disk.only_now g.met.D.Disk.is_left
