use Rattle.std.proofs.Common.{Ok, ap, subst, sym, refl}
use Rattle.snd_inputs.proofs.Held.{only_read}
use Rattle.snd_inputs.proofs.Reading.{reads_none}
use Rattle.snd_inputs.proofs.Seen.{seen_open}
use Rattle.snd_inputs.specs.Looking.{seen_of}
use Rattle.snd_inputs.specs.Opening.{IsOpen, OpensInput}
use Rattle.snd_inputs.proofs.looking.look.Goals as goal

pub returns-in-Err-clause-seen : goal.returns-in-Err-clause-seen
returns-in-Err-clause-seen g c = λ files told.
    let looks = subst (λ r. OpensInput g.S.Shelf g.S.Disk.Disk c.args.name.now c.args.shelf.now c.open_input.new.shelf (Ok r)) c.in-Err.is c.in_ok-input.ensures.opened in
    sym (ap seen_of (looks.1 files told))

pub returns-clause-seen : goal.returns-clause-seen
returns-clause-seen g c = λ files told.
    let opens : IsOpen g.S.Shelf g.S.Disk.Disk c.args.name.now c.args.shelf.now c.open_input.new.shelf c.in-Ok.input =
    subst (λ r. OpensInput g.S.Shelf g.S.Disk.Disk c.args.name.now c.args.shelf.now c.open_input.new.shelf (Ok r)) c.in-Ok.is c.in_ok-input.ensures.opened in
    let found = opens.opened files told in
    seen_open files c.args.name.now found.0 c.in-Ok.input.layout found.1 found.2

pub returns-clause-reads : goal.returns-clause-reads
returns-clause-reads g c =
    let opens : IsOpen g.S.Shelf g.S.Disk.Disk c.args.name.now c.args.shelf.now c.open_input.new.shelf c.in-Ok.input =
    subst (λ r. OpensInput g.S.Shelf g.S.Disk.Disk c.args.name.now c.args.shelf.now c.open_input.new.shelf (Ok r)) c.in-Ok.is c.in_ok-input.ensures.opened in
    only_read g.S.Shelf g.S.Disk.Disk c.args.shelf.now c.open_input.new.shelf c.give.new.self c.in-Ok.input c.in-Ok.input.disk c.in-Ok.input.disk c.in-Ok.input.disk c.args.name.now opens refl refl
    (reads_none g.S.Disk.Disk.state g.S.Disk.Disk.may_leave g.S.Disk.Disk.left_between c.in-Ok.input.disk) c.give.ensures.given
    c.give.ensures.images c.give.ensures.others c.requires
