use Rattle.std.proofs.Common.{Option, ap, sym, length}
use Rattle.snd_patch.proofs.Running.{held_as, still}
use Rattle.snd_patch.specs.Sealed.{held_field}
use Rattle.snd_layout.specs.declared.field.Field.{Field}
use Rattle.snd_patch.proofs.Places.{field_outside}
use Rattle.snd_patch.proofs.Updating.{updates_more}
use Rattle.snd_patch.proofs.fields.put_field.Goals as goal

pub returns-in-Some-clause-updates : goal.returns-in-Some-clause-updates
returns-in-Some-clause-updates g c = λ h n of.
    updates_more g.D.Disk.state g.D.Disk.left_between h n c.args.disk.now c.put_bytes.new.disk (length c.args.bytes.now) 8 c.requires.few
    (c.put_bytes.ensures.updates h n (field_outside h n c.args.field c.in-Some.field c.args.bytes.now c.in-Some.is c.requires.fits of))

pub returns-in-Some-clause-run : goal.returns-in-Some-clause-run
returns-in-Some-clause-run g c = λ b told.
    held_as g.D.Disk.state g.D.Disk.may_leave g.D.Disk.left_between c.args.disk.now c.put_bytes.new.disk _ (held_field c.args.field b c.args.bytes.now) (sym (ap (λ (f : Option Field). held_field f b c.args.bytes.now) c.in-Some.is)) (c.put_bytes.ensures.run b told)

pub returns-in-None-clause-run : goal.returns-in-None-clause-run
returns-in-None-clause-run g c = λ b told.
    held_as g.D.Disk.state g.D.Disk.may_leave g.D.Disk.left_between c.args.disk.now c.args.disk.now _ (held_field c.args.field b c.args.bytes.now) (sym (ap (λ (f : Option Field). held_field f b c.args.bytes.now) c.in-None.is)) (still g.D.Disk.state g.D.Disk.may_leave g.D.Disk.left_between g.met.D.Disk.only_now c.args.disk.now)
