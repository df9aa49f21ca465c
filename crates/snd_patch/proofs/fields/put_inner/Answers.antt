use Rattle.std.proofs.Common.{[], ◌∷◌, arith}
use Rattle.snd_patch.proofs.Running.{then_synced}
use Rattle.snd_patch.specs.Sealed.{with_inner}
use Rattle.snd_patch.proofs.Updating.{settled, updates_then}
use Rattle.snd_patch.proofs.fields.put_inner.Goals as goal

pub returns-clause-updates : goal.returns-clause-updates
returns-clause-updates g c =
    updates_then g.D.Disk.state g.D.Disk.left_between c.args.layout.now c.args.to c.args.disk.now c.write_inner.new.disk c.settle.new.disk 32 0 32 (omega arith)
    c.write_inner.ensures.updates (settled g.D.Disk.state g.D.Disk.left_between c.args.layout.now c.args.to c.write_inner.new.disk c.settle.new.disk c.settle.ensures.same c.settle.ensures.time c.settle.ensures.written c.settle.ensures.asked)

pub returns-clause-run : goal.returns-clause-run
returns-clause-run g c = λ b told.
    then_synced g.D.Disk.state g.D.Disk.may_leave g.D.Disk.left_between c.args.disk.now c.write_inner.new.disk c.settle.new.disk (with_inner b c.args.layout.now c.args.to ∷ [])
    (c.write_inner.ensures.run b told) c.settle.ensures.run
