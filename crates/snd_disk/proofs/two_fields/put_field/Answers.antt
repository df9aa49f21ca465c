use Rattle.std.proofs.Common.{[], ◌∷◌}
use Rattle.snd_disk.specs.Bytes.{over}
use Rattle.snd_disk.proofs.RunsOfCalls.{change_is_run, runs_join}
use Rattle.snd_disk.proofs.two_fields.put_field.Goals as goal

pub returns-in-Err-clause-run : goal.returns-in-Err-clause-run
returns-in-Err-clause-run g c = λ b told.
    change_is_run g.D.Disk.state g.D.Disk.may_leave g.D.Disk.left_between g.met.D.Disk.only_now c.args.disk.now c.write_at.new.self (λ l. over l c.args.at c.args.bytes.now) b told c.write_at.ensures.images c.write_at.ensures.time

pub returns-clause-run : goal.returns-clause-run
returns-clause-run g c = λ b told.
    runs_join g.D.Disk.state g.D.Disk.may_leave g.D.Disk.left_between c.args.disk.now c.write_at.new.self c.settle.new.disk (over b c.args.at c.args.bytes.now ∷ []) []
    (change_is_run g.D.Disk.state g.D.Disk.may_leave g.D.Disk.left_between g.met.D.Disk.only_now c.args.disk.now c.write_at.new.self (λ l. over l c.args.at c.args.bytes.now) b told c.write_at.ensures.images c.write_at.ensures.time)
    c.settle.ensures.run
