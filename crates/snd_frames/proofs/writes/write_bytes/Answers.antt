use Rattle.std.proofs.Common.{refl}
use Rattle.snd_disk.proofs.Public.{goes_on_passes, change_is_run}
use Rattle.snd_disk.specs.Bytes.{over}
use Rattle.snd_frames.proofs.PartlyPut.{puts_partly}
use Rattle.snd_frames.proofs.PutBlocks.{broken_puts, put_puts}
use Rattle.snd_frames.proofs.writes.write_bytes.Goals as goal

pub returns-in-Ok-clause-puts : goal.returns-in-Ok-clause-puts
returns-in-Ok-clause-puts g c =
    put_puts g.D.Disk.state g.D.Disk.left_between c.args.disk.now c.write_at.new.self c.args.at c.args.bytes.now _ refl
    (goes_on_passes _ _ _ _ _ c.write_at.ensures.time) (record { later = c.write_at.ensures.written.later; most = c.write_at.ensures.written.most }) c.write_at.ensures.asked
    _ c.in-Ok.ensures.done

pub returns-in-Err-clause-puts : goal.returns-in-Err-clause-puts
returns-in-Err-clause-puts g c =
    broken_puts g.D.Disk.state g.D.Disk.left_between c.args.disk.now c.write_at.new.self c.args.at c.args.bytes.now _ refl
    (goes_on_passes _ _ _ _ _ c.write_at.ensures.time) (record { later = c.write_at.ensures.written.later; most = c.write_at.ensures.written.most }) c.write_at.ensures.asked
    _ c.in-Err.ensures.broken

pub returns-in-Ok-clause-partly : goal.returns-in-Ok-clause-partly
returns-in-Ok-clause-partly g c =
    puts_partly g.D.Disk g.met.D.Disk.is_left c.args.disk.now c.write_at.new.self c.args.at c.args.bytes.now (λ l told.
    change_is_run g.D.Disk.state g.D.Disk.may_leave g.D.Disk.left_between g.met.D.Disk.only_now c.args.disk.now c.write_at.new.self (λ b. over b c.args.at c.args.bytes.now) l told c.write_at.ensures.images c.write_at.ensures.time)

pub returns-in-Err-clause-partly : goal.returns-in-Err-clause-partly
returns-in-Err-clause-partly g c =
    puts_partly g.D.Disk g.met.D.Disk.is_left c.args.disk.now c.write_at.new.self c.args.at c.args.bytes.now (λ l told.
    change_is_run g.D.Disk.state g.D.Disk.may_leave g.D.Disk.left_between g.met.D.Disk.only_now c.args.disk.now c.write_at.new.self (λ b. over b c.args.at c.args.bytes.now) l told c.write_at.ensures.images c.write_at.ensures.time)
