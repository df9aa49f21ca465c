use Rattle.std.proofs.Common.{length}
use Rattle.snd_disk.specs.Bytes.{over}
use Rattle.snd_disk.proofs.Public.{goes_on_passes, change_is_run}
use Rattle.snd_patch.proofs.Updating.{broken_put_updates, put_updates}
use Rattle.snd_patch.proofs.steps.put_bytes.Goals as goal

pub returns-in-Ok-clause-run : goal.returns-in-Ok-clause-run
returns-in-Ok-clause-run g c = λ b told.
    change_is_run g.D.Disk.state g.D.Disk.may_leave g.D.Disk.left_between g.met.D.Disk.only_now c.args.disk.now c.write_at.new.self (λ l. over l c.args.at c.args.bytes.now) b told c.write_at.ensures.images c.write_at.ensures.time

pub returns-in-Err-clause-run : goal.returns-in-Err-clause-run
returns-in-Err-clause-run g c = λ b told.
    change_is_run g.D.Disk.state g.D.Disk.may_leave g.D.Disk.left_between g.met.D.Disk.only_now c.args.disk.now c.write_at.new.self (λ l. over l c.args.at c.args.bytes.now) b told c.write_at.ensures.images c.write_at.ensures.time

pub returns-in-Ok-clause-updates : goal.returns-in-Ok-clause-updates
returns-in-Ok-clause-updates g c = λ h n outside.
    put_updates g.D.Disk.state g.D.Disk.left_between h n c.args.disk.now c.write_at.new.self (length c.args.bytes.now)
    (goes_on_passes _ _ _ _ _ c.write_at.ensures.time) (record { later = c.write_at.ensures.written.later; most = c.write_at.ensures.written.most }) c.write_at.ensures.asked
    _ c.args.at c.args.bytes.now outside c.in-Ok.ensures.done

pub returns-in-Err-clause-updates : goal.returns-in-Err-clause-updates
returns-in-Err-clause-updates g c = λ h n outside.
    broken_put_updates g.D.Disk.state g.D.Disk.left_between h n c.args.disk.now c.write_at.new.self (length c.args.bytes.now)
    (goes_on_passes _ _ _ _ _ c.write_at.ensures.time) (record { later = c.write_at.ensures.written.later; most = c.write_at.ensures.written.most }) c.write_at.ensures.asked
    _ c.args.at c.args.bytes.now outside c.in-Err.ensures.broken
