use Rattle.std.proofs.Common.{rules, ◌∙◌, arith}
use Rattle.snd_command.specs.Said.{said_of}
use Rattle.snd_rules.specs.Edit.{edit_closed}
use Rattle.snd_rules.specs.Replies.{refuses}
use Rattle.snd_rules.specs.Script.{asked_by, written_by}
use Rattle.snd_script.specs.Serving.{ShelfStands}
use Rattle.snd_lines.specs.declared.refusal.Refusal.TheVariants as refusal
use Rattle.snd_script.proofs.NeedsOpen.{needs_open}
use Rattle.snd_script.proofs.ShelfLeft.{leaves_shelf_same, still_stands}
use Rattle.snd_script.proofs.ShelfSteps.{replied_closed}
use Rattle.snd_script.proofs.Tails.{keeps_same, tail_same}
use Rattle.snd_script.proofs.Uses.{uses_in_hand, uses_of_more}
use Rattle.snd_script.proofs.closed.closed_command.Goals as goal

pub returns-in-Err-clause-served : goal.returns-in-Err-clause-served
returns-in-Err-clause-served g c = λ store s has left.
    replied_closed _ store _ _ _ _ _ _ _ s (edit_closed store (said_of c.args.said)) (refuses (refusal.Open c.in-Err.refusal)) (ShelfStands g.S.Shelf.state c.args.shelf.now _)
    (c.in-Make.ensures.closed store ∙ c.in-Err.ensures.made store c.in-Make.name.now)
    c.refuse.ensures.lines left c.refuse.ensures.answered (still_stands g.S.Shelf.state c.args.shelf.now store _ _ c.refuse.ensures.taps has)

pub returns-in-Close : goal.returns-in-Close
returns-in-Close g c = record {
  served = λ store s has left.
      replied_closed _ store _ _ _ _ _ _ _ s (edit_closed store (said_of c.args.said)) (refuses refusal.NotOpen) (ShelfStands g.S.Shelf.state c.args.shelf.now _)
      (needs_open c.work_of.result store (edit_closed store (said_of c.args.said)) c.in-Close.is (c.work_of.ensures.closed store))
      c.refuse-in-Close.ensures.lines left c.refuse-in-Close.ensures.answered (still_stands g.S.Shelf.state c.args.shelf.now store _ _ c.refuse-in-Close.ensures.taps has);
  fewer = search rules;
  given = search rules;
  counted = search rules;
  shelf = leaves_shelf_same g.S.Shelf.state g.S.Shelf.may_leave g.S.Shelf.left_between c.args.shelf.now;
  tail = λ s left. tail_same _ _ _ s _ left c.refuse-in-Close.ensures.lines;
  images = λ f n told there none. keeps_same g.S.Shelf.state g.S.Shelf.may_leave g.S.Shelf.left_between n c.args.shelf.now;
  asked = λ s left. uses_in_hand _ asked_by _ _ _ s _ _ _ _ left c.refuse-in-Close.ensures.lines (omega arith) (omega arith);
  written = λ s left. uses_in_hand _ written_by _ _ _ s _ _ _ _ left c.refuse-in-Close.ensures.lines (omega arith) (omega arith);
}

pub returns-in-Open-clause-asked : goal.returns-in-Open-clause-asked
returns-in-Open-clause-asked g c = λ s left.
    uses_of_more _ asked_by _ _ _ _ s _ _ _ _ c.in-Open.ensures.asked (c.serve_name.ensures.asked s left)

pub returns-in-Update-clause-asked : goal.returns-in-Update-clause-asked
returns-in-Update-clause-asked g c = λ s left.
    uses_of_more _ asked_by _ _ _ _ s _ _ _ _ c.in-Update.ensures.asked (c.serve_name-in-Update.ensures.asked s left)

pub returns-in-Ok-clause-asked : goal.returns-in-Ok-clause-asked
returns-in-Ok-clause-asked g c = λ s left.
    uses_of_more _ asked_by _ _ _ _ s _ _ _ _ c.in-Make.ensures.asked (c.serve_name-in-Ok.ensures.asked s left)

pub returns-in-Open-clause-written : goal.returns-in-Open-clause-written
returns-in-Open-clause-written g c = λ s left.
    uses_of_more _ written_by _ _ _ _ s _ _ _ _ c.in-Open.ensures.made (c.serve_name.ensures.written s left)

pub returns-in-Update-clause-written : goal.returns-in-Update-clause-written
returns-in-Update-clause-written g c = λ s left.
    uses_of_more _ written_by _ _ _ _ s _ _ _ _ c.in-Update.ensures.made (c.serve_name-in-Update.ensures.written s left)

pub returns-in-Ok-clause-written : goal.returns-in-Ok-clause-written
returns-in-Ok-clause-written g c = λ s left.
    uses_of_more _ written_by _ _ _ _ s _ _ _ _ c.in-Make.ensures.made (c.serve_name-in-Ok.ensures.written s left)
