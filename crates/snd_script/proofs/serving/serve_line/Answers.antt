use Rattle.std.proofs.Common.{refl, sym, ◌∙◌}
use Rattle.snd_rules.specs.Desk.{closed_desk}
use Rattle.snd_rules.specs.Edit.{edit_line}
use Rattle.snd_rules.specs.Script.{asked_by, written_by}
use Rattle.snd_script.specs.Serving.{Moment, ShelfStands, is_longer, moment, steps_from, steps_left}
use Rattle.snd_script.proofs.Chains.{brought_then, none_left, served_on_then}
use Rattle.snd_script.proofs.ShelfLeft.{still_stands}
use Rattle.snd_script.proofs.Tails.{keeps_for_line, keeps_same, tail_for_line}
use Rattle.snd_script.proofs.Uses.{so_far_stops, uses_for_line, uses_so_far_none}
use Rattle.snd_script.proofs.serving.serve_line.Goals as goal

pub returns-in-Err-clause-served : goal.returns-in-Err-clause-served
returns-in-Err-clause-served g c = λ store s has left.
    none_left _ (closed_desk store) s _ _ (ShelfStands g.S.Shelf.state c.args.shelf.now _) (c.in-Err.ensures.brought s left) c.in-Err.ensures.noted refl (still_stands g.S.Shelf.state c.args.shelf.now store _ _ c.next.ensures.taps has)

pub returns-in-Ok-clause-served : goal.returns-in-Ok-clause-served
returns-in-Ok-clause-served g c = λ store s has left.
    let comes = c.in-Ok.ensures.brought s left in
    let m : Moment = moment c.args.run.now.lines (g.R.Source.left c.args.script.now) c.args.run.now.refused (g.O.Sink.told c.args.out.now) in
    let m' : Moment = moment c.next.new.self.lines (g.R.Source.left c.next.new.script) c.next.new.self.refused (g.O.Sink.told c.args.out.now) in
    let m'' : Moment = moment c.closed_line.new.run.lines (g.R.Source.left c.closed_line.new.script) c.closed_line.new.run.refused (g.O.Sink.told c.closed_line.new.out) in
    let kept = c.next.new.line in
    let served = c.closed_line.ensures.served store comes.0 (has.0, has.1, has.2, has.3 ∙ sym c.next.ensures.taps) comes.1 in
    served_on_then c.closed_line.result (is_longer m' comes.0) (is_longer m s) (steps_left (closed_desk store) m s) (steps_from (edit_line (closed_desk store) kept) m' comes.0) (closed_desk store) (closed_desk store) m m' m''
    (ShelfStands g.S.Shelf.state c.closed_line.new.shelf _) (sym {a = is_longer m s} {b = is_longer m' comes.0} comes.2.too_long) (brought_then (closed_desk store) kept s comes.0 m m' comes.2 c.in-Ok.ensures.noted refl) served

pub returns-in-Err-clause-asked : goal.returns-in-Err-clause-asked
returns-in-Err-clause-asked g c = λ s left. so_far_stops asked_by _ _ _ s c.args.run.now.lines _ _ _ c.in-Err.stop _ _ (uses_so_far_none asked_by _ s _ _ left)

pub returns-in-Ok-clause-asked : goal.returns-in-Ok-clause-asked
returns-in-Ok-clause-asked g c = λ s left.
    let comes = c.in-Ok.ensures.brought s left in
    uses_for_line c.closed_line.result asked_by _ _ c.next.new.self.lines c.next.new.line s comes.0 _ _ _ _ comes.2 (c.closed_line.ensures.asked comes.0 comes.1)

pub returns-in-Err-clause-written : goal.returns-in-Err-clause-written
returns-in-Err-clause-written g c = λ s left. so_far_stops written_by _ _ _ s c.args.run.now.lines _ _ _ c.in-Err.stop _ _ (uses_so_far_none written_by _ s _ _ left)

pub returns-in-Ok-clause-written : goal.returns-in-Ok-clause-written
returns-in-Ok-clause-written g c = λ s left.
    let comes = c.in-Ok.ensures.brought s left in
    uses_for_line c.closed_line.result written_by _ _ c.next.new.self.lines c.next.new.line s comes.0 _ _ _ _ comes.2 (c.closed_line.ensures.written comes.0 comes.1)

pub returns-in-Err-clause-images : goal.returns-in-Err-clause-images
returns-in-Err-clause-images g c = λ s left f n told there none. keeps_same g.S.Shelf.state g.S.Shelf.may_leave g.S.Shelf.left_between n c.args.shelf.now

pub returns-in-Ok-clause-tail : goal.returns-in-Ok-clause-tail
returns-in-Ok-clause-tail g c = λ s left.
    let comes = c.in-Ok.ensures.brought s left in
    tail_for_line c.closed_line.result c.args.run.now.lines c.next.new.self.lines _ c.next.new.line s comes.0 _ comes.2 (c.closed_line.ensures.tail comes.0 comes.1)

pub returns-in-Ok-clause-images : goal.returns-in-Ok-clause-images
returns-in-Ok-clause-images g c = λ s left.
    let comes = c.in-Ok.ensures.brought s left in
    keeps_for_line g.S.Shelf c.args.run.now.lines c.next.new.self.lines c.next.new.line s comes.0 c.args.shelf.now c.closed_line.new.shelf comes.2 c.closed_line.ensures.images
