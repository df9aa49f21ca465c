use Rattle.snd_disk.specs.Runs.{IsSource}
use Rattle.snd_disk.proofs.Sources.{made_comes}
use Rattle.snd_disk.proofs.Fields.{mix_field, field_from, one_field_changes}
use Rattle.snd_disk.proofs.RunsOfCalls.{field_stays}
use Rattle.snd_disk.proofs.laws.field_is_whole.Goals as goal

pub returns-clause-mix : goal.returns-clause-mix
returns-clause-mix g c = mix_field

pub returns-clause-run : goal.returns-clause-run
returns-clause-run g c = λ old held at n one within x made. field_from (IsSource (g.D.Disk.may_leave old) held) at n one within x (made_comes (g.D.Disk.may_leave old) held x made)

pub returns-clause-stays : goal.returns-clause-stays
returns-clause-stays g c = field_stays g.D.Disk.state g.D.Disk.may_leave g.D.Disk.left_between g.met.D.Disk.is_left

pub returns-clause-one_write : goal.returns-clause-one_write
returns-clause-one_write g c = λ old b at v fits only x made. one_field_changes b at v fits (g.D.Disk.may_leave old) only x made
