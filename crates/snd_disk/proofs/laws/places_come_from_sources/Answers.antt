use Rattle.snd_disk.specs.Runs.{IsSource}
use Rattle.snd_disk.proofs.Sources.{byte_from, made_comes}
use Rattle.snd_disk.proofs.RunsOfCalls.{place_stays}
use Rattle.snd_disk.proofs.laws.places_come_from_sources.Goals as goal

pub returns-clause-bytes : goal.returns-clause-bytes
returns-clause-bytes g c = λ old held x made i. byte_from (IsSource (g.D.Disk.may_leave old) held) x (made_comes (g.D.Disk.may_leave old) held x made) i

pub returns-clause-stays : goal.returns-clause-stays
returns-clause-stays g c = place_stays g.D.Disk.state g.D.Disk.may_leave g.D.Disk.left_between g.met.D.Disk.is_left
