use Rattle.std.proofs.Common.{arith, take}
use Rattle.snd_disk.proofs.Public.{goes_on_passes, change_is_run}
use Rattle.snd_patch.proofs.Updating.{broken_cut_updates}
use Rattle.snd_patch.proofs.steps.cut_to.Goals as goal

pub returns-in-Ok-clause-run : goal.returns-in-Ok-clause-run
returns-in-Ok-clause-run g c = λ b told.
    change_is_run g.D.Disk.state g.D.Disk.may_leave g.D.Disk.left_between g.met.D.Disk.only_now c.args.disk.now c.cut.new.self (take c.args.len) b told c.cut.ensures.images c.cut.ensures.time

pub returns-in-Err-clause-run : goal.returns-in-Err-clause-run
returns-in-Err-clause-run g c = λ b told.
    change_is_run g.D.Disk.state g.D.Disk.may_leave g.D.Disk.left_between g.met.D.Disk.only_now c.args.disk.now c.cut.new.self (take c.args.len) b told c.cut.ensures.images c.cut.ensures.time

pub returns-in-Err-clause-updates : goal.returns-in-Err-clause-updates
returns-in-Err-clause-updates g c = λ h n behind.
    broken_cut_updates g.D.Disk.state g.D.Disk.left_between h n c.args.disk.now c.cut.new.self 0
    (goes_on_passes _ _ _ _ _ c.cut.ensures.time) (record { later = omega (arith, c.cut.ensures.written); most = omega (arith, c.cut.ensures.written) }) c.cut.ensures.asked
    c.args.len behind c.in-Err.ensures.broken
