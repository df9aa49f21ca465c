use Rattle.snd_disk.proofs.Public.{change_is_run}
use Rattle.snd_disk.specs.Bytes.{over}
use Rattle.snd_promote.proofs.steps.put_bytes.Goals as goal

pub returns-in-Ok-clause-run : goal.returns-in-Ok-clause-run
returns-in-Ok-clause-run g c = λ b told.
    change_is_run g.D.Disk.state g.D.Disk.may_leave g.D.Disk.left_between g.met.D.Disk.only_now c.args.disk.now c.write_at.new.self (λ l. over l c.args.at c.args.bytes.now) b told c.write_at.ensures.images c.write_at.ensures.time

pub returns-in-Err-clause-run : goal.returns-in-Err-clause-run
returns-in-Err-clause-run g c = λ b told.
    change_is_run g.D.Disk.state g.D.Disk.may_leave g.D.Disk.left_between g.met.D.Disk.only_now c.args.disk.now c.write_at.new.self (λ l. over l c.args.at c.args.bytes.now) b told c.write_at.ensures.images c.write_at.ensures.time
