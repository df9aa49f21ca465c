use Rattle.snd_disk.proofs.Public.{read_is_run}
use Rattle.snd_patch.proofs.fields.lacks_closing.Goals as goal

pub returns-in-Ok-clause-run : goal.returns-in-Ok-clause-run
returns-in-Ok-clause-run g c = read_is_run g.D.Disk.state g.D.Disk.may_leave g.D.Disk.left_between g.met.D.Disk.only_now c.args.disk.now c.len-2.new.self c.len-2.ensures.reads.images

pub returns-in-Err-clause-run : goal.returns-in-Err-clause-run
returns-in-Err-clause-run g c = read_is_run g.D.Disk.state g.D.Disk.may_leave g.D.Disk.left_between g.met.D.Disk.only_now c.args.disk.now c.len-2.new.self c.len-2.ensures.reads.images
