use Rattle.snd_patch.proofs.Behind.{closing_keeps_places, stable_start_closes, stable_start_cuts, start_is_made}
use Rattle.snd_patch.proofs.laws.closing_leaves.Goals as goal

pub returns-clause-start : goal.returns-clause-start
returns-clause-start g c = start_is_made g.D.Disk.state g.D.Disk.may_leave

pub returns-clause-closes : goal.returns-clause-closes
returns-clause-closes g c = stable_start_closes g.D.Disk.state g.D.Disk.may_leave

pub returns-clause-places : goal.returns-clause-places
returns-clause-places g c = closing_keeps_places g.D.Disk.state g.D.Disk.may_leave g.met.D.Disk.is_left

pub returns-clause-cuts : goal.returns-clause-cuts
returns-clause-cuts g c = stable_start_cuts g.D.Disk.state g.D.Disk.may_leave
