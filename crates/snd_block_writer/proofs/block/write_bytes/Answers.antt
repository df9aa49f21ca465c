use Rattle.std.proofs.Common.{arith}
use Rattle.snd_disk.proofs.Public.{goes_on_passes, change_is_run}
use Rattle.snd_disk.specs.Bytes.{over}
use Rattle.snd_block_writer.proofs.Partly.{call_partly}
use Rattle.snd_block_writer.proofs.Putting.{broken_puts, done_puts}
use Rattle.snd_block_writer.proofs.block.write_bytes.Goals as goal

pub returns-in-Ok-clause-puts : goal.returns-in-Ok-clause-puts
returns-in-Ok-clause-puts g c =
    done_puts g.D.Disk c.args.disk.now c.write_at.new.self c.args.at c.args.bytes.now
    (call_partly g.D.Disk g.met.D.Disk.is_left c.args.disk.now c.write_at.new.self c.args.at c.args.bytes.now (λ l told.
    change_is_run g.D.Disk.state g.D.Disk.may_leave g.D.Disk.left_between g.met.D.Disk.only_now c.args.disk.now c.write_at.new.self (λ b. over b c.args.at c.args.bytes.now) l told c.write_at.ensures.images c.write_at.ensures.time))
    (goes_on_passes _ _ _ _ _ c.write_at.ensures.time) (record { later = c.write_at.ensures.written.later; most = c.write_at.ensures.written.most }) c.write_at.ensures.asked
    _ (omega arith) c.in-Ok.ensures.done

pub returns-in-Err-clause-puts : goal.returns-in-Err-clause-puts
returns-in-Err-clause-puts g c =
    broken_puts g.D.Disk c.args.disk.now c.write_at.new.self c.args.at c.args.bytes.now
    (call_partly g.D.Disk g.met.D.Disk.is_left c.args.disk.now c.write_at.new.self c.args.at c.args.bytes.now (λ l told.
    change_is_run g.D.Disk.state g.D.Disk.may_leave g.D.Disk.left_between g.met.D.Disk.only_now c.args.disk.now c.write_at.new.self (λ b. over b c.args.at c.args.bytes.now) l told c.write_at.ensures.images c.write_at.ensures.time))
    (goes_on_passes _ _ _ _ _ c.write_at.ensures.time) (record { later = c.write_at.ensures.written.later; most = c.write_at.ensures.written.most }) c.write_at.ensures.asked
    _ (omega arith) c.in-Err.ensures.broken
