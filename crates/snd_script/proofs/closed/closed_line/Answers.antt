use Rattle.std.proofs.Common.{ap, refl, sym, ◌∙◌}
use Rattle.snd_rules.specs.Desk.{closed_desk}
use Rattle.snd_rules.specs.Edit.{edit_line, line_edit}
use Rattle.snd_rules.specs.Replies.{refuses}
use Rattle.snd_rules.specs.Script.{asked_by, written_by}
use Rattle.snd_script.specs.Serving.{ShelfStands}
use Rattle.snd_rules.proofs.Public.{name_is_good}
use Rattle.snd_script.proofs.ShelfLeft.{still_stands}
use Rattle.snd_script.proofs.ShelfSteps.{nothing_said, replied_closed}
use Rattle.snd_script.proofs.Uses.{uses_said}
use Rattle.snd_script.proofs.closed.closed_line.Goals as goal

pub closed_command-requires-clause-named : goal.closed_command-requires-clause-named
closed_command-requires-clause-named g c = λ name is.
    let says = rw c.in-Ok-Some.field-0-is at c.in-Ok-Some.ensures in
    name_is_good _ name _ (sym says) is

pub returns-in-Err-clause-served : goal.returns-in-Err-clause-served
returns-in-Err-clause-served g c = λ store s has left.
    replied_closed _ store _ _ _ _ _ _ _ s (edit_line (closed_desk store) c.args.line.now) (refuses c.line_refusal.result) (ShelfStands g.S.Shelf.state c.args.shelf.now _)
    (ap (line_edit (closed_desk store)) (sym c.in-Err.ensures) ∙ c.line_refusal.ensures (closed_desk store))
    c.refuse.ensures.lines left c.refuse.ensures.answered (still_stands g.S.Shelf.state c.args.shelf.now store _ _ c.refuse.ensures.taps has)

pub returns-in-Ok-None-clause-served : goal.returns-in-Ok-None-clause-served
returns-in-Ok-None-clause-served g c = λ store s has left.
    let says = rw c.in-Ok-None.field-0-is at c.in-Ok-None.ensures in
    nothing_said store (g.R.Source.left c.args.script.now) c.args.run.now.lines c.args.run.now.refused (g.O.Sink.told c.args.out.now) s (edit_line (closed_desk store) c.args.line.now) (ShelfStands g.S.Shelf.state c.args.shelf.now _)
    (ap (line_edit (closed_desk store)) (sym says)) left (still_stands g.S.Shelf.state c.args.shelf.now store _ _ refl has)

pub returns-in-Ok-Some-clause-asked : goal.returns-in-Ok-Some-clause-asked
returns-in-Ok-Some-clause-asked g c = λ s left.
    let says = rw c.in-Ok-Some.field-0-is at c.in-Ok-Some.ensures in
    uses_said _ asked_by _ _ _ _ s _ _ _ _ says (c.closed_command.ensures.asked s left)

pub returns-in-Ok-Some-clause-written : goal.returns-in-Ok-Some-clause-written
returns-in-Ok-Some-clause-written g c = λ s left.
    let says = rw c.in-Ok-Some.field-0-is at c.in-Ok-Some.ensures in
    uses_said _ written_by _ _ _ _ s _ _ _ _ says (c.closed_command.ensures.written s left)
