use Rattle.std.proofs.Common.{◌≡◌, ◌≤◌, ◌+◌, ℕ, List, [], ◌++◌, length, Ok, Some, true, false, not, refl, sym, ◌∙◌, ap, subst, arith, append_assoc}
use Rattle.std.proofs.lemmas.List.{append-nil, length-append}
use Rattle.snd_layout.specs.Shape.{Shape}
use Rattle.snd_rules.specs.Desk.{Desk, OpenFile, closed_desk, open_desk, pinned}
use Rattle.snd_rules.specs.Edit.{Edited}
use Rattle.snd_session.specs.Handled.{handle_disk, handle_known, mode_of}
use Rattle.snd_script.specs.Lines.{Reading}
use Rattle.snd_rules.specs.Pinned.{pin_edit, pinned_lines, pinned_steps}
use Rattle.snd_script.specs.PinnedRun.{opened_pinned, stopped}
use Rattle.snd_rules.specs.Replies.{file_line, says, text_of}
use Rattle.snd_rules.specs.Script.{asked_by, lines_within, most_in, written_in}
use Rattle.snd_script.specs.Served.{Appends, none_lost}
use Rattle.snd_script.specs.Serving.{IsStepAnswered, OpenStands, StopsLine, lines_left, moment, moment_of}
use Rattle.snd_script.specs.Tapped.{taps_of}
use Rattle.snd_script.specs.Trail.{TrailsOn, pinned_file, reached, state_behind}
use Rattle.snd_script.specs.declared.stop.Stop.TheVariants as stop
use Rattle.snd_script.specs.Used.{use_left}
use Rattle.snd_script.proofs.MadeBlocks.{updated_is_small}
use Rattle.snd_script.proofs.Openings.{answer_stops, counts_at_then, said_of_shape, shape_stands}
use Rattle.snd_script.proofs.PinTrails.{at_sink, behind_pin, opening_speaks, pin_automatic, pin_moves, pin_speaks, trail_at_opening, trail_of_lines, trail_opened, trail_pinned}
use Rattle.snd_script.proofs.PinnedMoves.{moves_none, stands_of, taps_in}
use Rattle.snd_script.proofs.PinnedTrails.{not_whole, step_ends}
use Rattle.snd_script.proofs.TrailRuns.{trail_rests}
use Rattle.snd_script.proofs.PinnedRuns.{as_noted, opening_stops, pin_is, pin_on, pin_refused, pin_stops}
use Rattle.snd_script.proofs.Stepping.{held_desk, stands_open}
use Rattle.snd_script.proofs.pinned.serve_pinned_open.Goals as goal

pub returns-in-Err-clause-served : goal.returns-in-Err-clause-served
returns-in-Err-clause-served g c = λ name store e s stands left.
    let opened : Edited = opened_pinned store name (taps_of (λ b. (goal.Tap-dyn g b).meter b.1) c.args.run.now) e in
    opening_stops store (g.R.Source.left c.args.script.now) (g.O.Sink.told c.args.out.now) (g.O.Sink.told c.reply_opened.new.out) c.args.run.now.lines c.args.run.now.lines c.args.run.now.refused c.args.run.now.refused s
    (OpenStands g.D.Disk.state store name true _ c.args.handle.now) c.in-Err.stop opened
    (answer_stops c.in-Err.stop opened (says (file_line (handle_known c.args.handle.now).shape)) (closed_desk store) false false _ _ _ (said_of_shape _ _ (shape_stands g.D.Disk.state c.args.handle.now e stands)) c.in-Err.ensures.answered
    (stands_open g.D.Disk.state store name true _ _ c.args.handle.now c.args.handle.now e none_lost refl refl stands))

pub returns-in-Err-step-clause-served : goal.returns-in-Err-step-clause-served
returns-in-Err-step-clause-served g c = λ name store e s stands left.
    let file : OpenFile = record { name = name; mode = pinned; editing = e; taps = taps_of (λ b. (goal.Tap-dyn g b).meter b.1) c.args.run.now } in
    let said : Appends (g.O.Sink.told c.args.out.now) (g.O.Sink.told c.reply_opened.new.out) (file_line e.shape) =
    subst (λ (h : Shape). Appends (g.O.Sink.told c.args.out.now) (g.O.Sink.told c.reply_opened.new.out) (file_line h)) (shape_stands g.D.Disk.state c.args.handle.now e stands) c.in_default.ensures.answered.1 in
    pin_stops store file (g.R.Source.left c.args.script.now) (g.O.Sink.told c.args.out.now) (g.O.Sink.told c.reply_opened.new.out) (g.O.Sink.told c.step.new.out) c.args.run.now.lines c.step.new.self.lines c.args.run.now.refused c.step.new.self.refused s said
    c.in-Err-step.stop (OpenStands g.D.Disk.state store name true (taps_of (λ b. (goal.Tap-dyn g b).meter b.1) c.step.new.self) c.step.new.handle)
    (subst (λ (x : Edited). StopsLine c.in-Err-step.stop x (open_desk store file) (g.O.Sink.told c.reply_opened.new.out) (g.O.Sink.told c.step.new.out) (OpenStands g.D.Disk.state store name true (taps_of (λ b. (goal.Tap-dyn g b).meter b.1) c.step.new.self) c.step.new.handle))
    (pin_is store file (mode_of c.args.handle.now) c.requires.updated) (c.in-Err-step.ensures.answered name true store e stands))

pub returns-then-run-clause-served : goal.returns-then-run-clause-served
returns-then-run-clause-served g c = λ name store e s stands left.
    let file : OpenFile = record { name = name; mode = pinned; editing = e; taps = taps_of (λ b. (goal.Tap-dyn g b).meter b.1) c.args.run.now } in
    let said : Appends (g.O.Sink.told c.args.out.now) (g.O.Sink.told c.reply_opened.new.out) (file_line e.shape) =
    subst (λ (h : Shape). Appends (g.O.Sink.told c.args.out.now) (g.O.Sink.told c.reply_opened.new.out) (file_line h)) (shape_stands g.D.Disk.state c.args.handle.now e stands) c.in_default.ensures.answered.1 in
    let answered =
    subst (λ (x : Edited). IsStepAnswered {T = Unit {0}} (Ok tt) x (open_desk store file) c.args.run.now.refused c.step.new.self.refused (g.O.Sink.told c.reply_opened.new.out) (g.O.Sink.told c.step.new.out) (OpenStands g.D.Disk.state store name true (taps_of (λ b. (goal.Tap-dyn g b).meter b.1) c.step.new.self) c.step.new.handle))
    (pin_is store file (mode_of c.args.handle.now) c.requires.updated) (c.in_default-step.ensures.answered name true store e stands) in
    pin_refused store file (g.R.Source.left c.args.script.now) (g.O.Sink.told c.args.out.now) (g.O.Sink.told c.reply_opened.new.out) (g.O.Sink.told c.step.new.out) c.args.run.now.lines c.step.new.self.lines c.args.run.now.refused c.step.new.self.refused s said
    answered.0 answered.1 (OpenStands g.D.Disk.state store name true (taps_of (λ b. (goal.Tap-dyn g b).meter b.1) c.step.new.self) c.step.new.handle) (as_noted _ _ _ true c.requires.fresh answered.0 c.if-run.true) answered.2

pub returns-then-run-clause-counted : goal.returns-then-run-clause-counted
returns-then-run-clause-counted g c =
    record { shelf = (c.in_default-step.ensures.counted 0).shelf; script = refl; out = (c.in_default-step.ensures.counted 0).out ∙ c.in_default.ensures.faults }

pub returns-clause-served : goal.returns-clause-served
returns-clause-served g c = λ name store e s stands left.
    let file : OpenFile = record { name = name; mode = pinned; editing = e; taps = taps_of (λ b. (goal.Tap-dyn g b).meter b.1) c.args.run.now } in
    let said : Appends (g.O.Sink.told c.args.out.now) (g.O.Sink.told c.reply_opened.new.out) (file_line e.shape) =
    subst (λ (h : Shape). Appends (g.O.Sink.told c.args.out.now) (g.O.Sink.told c.reply_opened.new.out) (file_line h)) (shape_stands g.D.Disk.state c.args.handle.now e stands) c.in_default.ensures.answered.1 in
    let answered =
    subst (λ (x : Edited). IsStepAnswered {T = Unit {0}} (Ok tt) x (open_desk store file) c.args.run.now.refused c.step.new.self.refused (g.O.Sink.told c.reply_opened.new.out) (g.O.Sink.told c.step.new.out) (OpenStands g.D.Disk.state store name true (taps_of (λ b. (goal.Tap-dyn g b).meter b.1) c.step.new.self) c.step.new.handle))
    (pin_is store file (mode_of c.args.handle.now) c.requires.updated) (c.in_default-step.ensures.answered name true store e stands) in
    pin_on store file (g.R.Source.left c.args.script.now) (g.O.Sink.told c.args.out.now) (g.O.Sink.told c.reply_opened.new.out) (g.O.Sink.told c.step.new.out) c.args.run.now.lines c.step.new.self.lines c.args.run.now.refused c.step.new.self.refused s said
    answered.0 answered.1 c.in-Err-serve_open.stop (held_desk store name true (taps_of (λ b. (goal.Tap-dyn g b).meter b.1) c.step.new.self) c.step.new.handle answered.2.editing)
    (moment c.serve_open.new.run.lines (g.R.Source.left c.serve_open.new.script) c.serve_open.new.run.refused (g.O.Sink.told c.serve_open.new.out)) (OpenStands g.D.Disk.state store name true _ c.serve_open.new.handle)
    (as_noted _ _ _ false c.requires.fresh answered.0 c.if-run.false) c.in_default-step.ensures.lines answered.2.is
    (c.in-Err-serve_open.ensures.served name store answered.2.editing s (answered.2.stands refl) left)

pub returns-clause-unread : goal.returns-clause-unread
returns-clause-unread g c = λ store name taps e stands refusal.
    let file : OpenFile = record { name = name; mode = pinned; editing = e; taps = taps_of (λ b. (goal.Tap-dyn g b).meter b.1) c.args.run.now } in
    let answered =
    subst (λ (x : Edited). IsStepAnswered {T = Unit {0}} (Ok tt) x (open_desk store file) c.args.run.now.refused c.step.new.self.refused (g.O.Sink.told c.reply_opened.new.out) (g.O.Sink.told c.step.new.out) (OpenStands g.D.Disk.state store name true (taps_of (λ b. (goal.Tap-dyn g b).meter b.1) c.step.new.self) c.step.new.handle))
    (pin_is store file (mode_of c.args.handle.now) c.requires.updated) (c.in_default-step.ensures.answered name true store e stands) in
    absurd (let no : true ≡ false = sym (ap not (as_noted _ _ _ false c.requires.fresh answered.0 c.if-run.false)) ∙ refusal in cc)

pub returns-clause-counted : goal.returns-clause-counted
returns-clause-counted g c =
    counts_at_then c.in-Err-serve_open.stop _ _ _ (record { shelf = (c.in_default-step.ensures.counted 0).shelf; script = refl; out = (c.in_default-step.ensures.counted 0).out ∙ c.in_default.ensures.faults }) c.in-Err-serve_open.ensures.counted

pub returns-clause-asked : goal.returns-clause-asked
returns-clause-asked g c = λ s left.
    let uses = c.in-Err-serve_open.ensures.asked s left in
    let same : use_left (most_in true asked_by) c.step.new.self.lines s ≡ use_left (most_in true asked_by) c.args.run.now.lines s = ap (λ (x : Reading). use_left (most_in true asked_by) x s) c.in_default-step.ensures.lines in
    let first : (g.D.Disk.state (handle_disk c.step.new.handle)).asked ≤ (g.D.Disk.state (handle_disk c.args.handle.now)).asked + 0 = c.step.ensures.asked.most in
    record { later = omega (arith, c.step.ensures.asked.later, uses.later); most = omega (arith, first, uses.within, same) }

pub returns-clause-written : goal.returns-clause-written
returns-clause-written g c = λ s left.
    let uses = c.in-Err-serve_open.ensures.written s left in
    let same : use_left (written_in true) c.step.new.self.lines s ≡ use_left (written_in true) c.args.run.now.lines s = ap (λ (x : Reading). use_left (written_in true) x s) c.in_default-step.ensures.lines in
    let first : (g.D.Disk.state (handle_disk c.step.new.handle)).written ≤ (g.D.Disk.state (handle_disk c.args.handle.now)).written + 64 = c.step.ensures.written.most in
    record { later = omega (arith, c.step.ensures.written.later, uses.later); most = omega (arith, first, uses.within, same) }

pub returns-in-Err-clause-trail : goal.returns-in-Err-clause-trail
returns-in-Err-clause-trail g c = λ store name e s t rest left told.
    let lines = lines_left (moment_of g.R.Source.left g.O.Sink.told c.args.run.now c.args.script.now c.args.out.now) s in
    let opening = opened_pinned store name (taps_of (λ b. (goal.Tap-dyn g b).meter b.1) c.args.run.now) e in
    let sink = at_sink c.in-Err.stop _ _ _ _ _ c.in-Err.ensures.answered in
    step_ends g.D.Disk g.met.D.Disk.only_now (g.D.Disk.state (handle_disk c.args.handle.now)).clock [] e (pinned_steps opening lines) e opening (pinned_lines (pin_edit store (pinned_file name (taps_of (λ b. (goal.Tap-dyn g b).meter b.1) c.args.run.now) e)) lines) 0 c.args.handle.now c.args.handle.now
    (trail_at_opening g.D.Disk g.met.D.Disk.only_now store name (taps_of (λ b. (goal.Tap-dyn g b).meter b.1) c.args.run.now) e lines c.args.handle.now rest) t [] _ _ refl (told ∙ ap (λ (l : List ℕ). Some l) (sym (append-nil t))) (opening_speaks store name (taps_of (λ b. (goal.Tap-dyn g b).meter b.1) c.args.run.now) e)
    c.in-Err.stop (Unit {0}) (closed_desk store) (λ lost desk. Unit {0}) (moves_none g.D.Disk g.met.D.Disk.only_now (stopped c.in-Err.stop) e c.args.handle.now rest)
    (answer_stops c.in-Err.stop opening (says (file_line (handle_known c.args.handle.now).shape)) (closed_desk store) false false _ _ _ (said_of_shape _ _ (shape_stands g.D.Disk.state c.args.handle.now e (stands_of g.D.Disk c.args.handle.now e rest))) c.in-Err.ensures.answered tt)
    (λ is. absurd (let no : stop.Sink ≡ stop.File = sym sink ∙ is in cc))

pub returns-in-Err-step-clause-trail : goal.returns-in-Err-step-clause-trail
returns-in-Err-step-clause-trail g c = λ store name e s t rest left told.
    let lines = lines_left (moment_of g.R.Source.left g.O.Sink.told c.args.run.now c.args.script.now c.args.out.now) s in
    let file = pinned_file name (taps_of (λ b. (goal.Tap-dyn g b).meter b.1) c.args.run.now) e in
    let stands = stands_of g.D.Disk c.args.handle.now e rest in
    let said : Appends (g.O.Sink.told c.args.out.now) (g.O.Sink.told c.reply_opened.new.out) (file_line e.shape) =
    subst (λ (h : Shape). Appends (g.O.Sink.told c.args.out.now) (g.O.Sink.told c.reply_opened.new.out) (file_line h)) (shape_stands g.D.Disk.state c.args.handle.now e stands) c.in_default.ensures.answered.1 in
    step_ends g.D.Disk g.met.D.Disk.only_now (g.D.Disk.state (handle_disk c.args.handle.now)).clock [] e (pinned_steps (opened_pinned store name (taps_of (λ b. (goal.Tap-dyn g b).meter b.1) c.args.run.now) e) lines) e (pin_edit store file) (behind_pin store name (taps_of (λ b. (goal.Tap-dyn g b).meter b.1) c.args.run.now) e lines) (0 + length (file_line e.shape)) c.args.handle.now c.step.new.handle
    (trail_opened g.D.Disk g.met.D.Disk.only_now store name (taps_of (λ b. (goal.Tap-dyn g b).meter b.1) c.args.run.now) e lines c.args.handle.now rest) t (file_line e.shape) _ _ (omega arith) (said t told) (pin_speaks store name (taps_of (λ b. (goal.Tap-dyn g b).meter b.1) c.args.run.now) e)
    c.in-Err-step.stop (Unit {0}) (open_desk store file) (OpenStands g.D.Disk.state store name true (taps_of (λ b. (goal.Tap-dyn g b).meter b.1) c.step.new.self) c.step.new.handle) (pin_moves g.D.Disk store name (taps_of (λ b. (goal.Tap-dyn g b).meter b.1) c.args.run.now) e _ c.args.handle.now c.step.new.handle c.requires.updated c.in-Err-step.ensures.moves rest)
    (subst (λ (x : Edited). StopsLine c.in-Err-step.stop x (open_desk store file) (g.O.Sink.told c.reply_opened.new.out) (g.O.Sink.told c.step.new.out) (OpenStands g.D.Disk.state store name true (taps_of (λ b. (goal.Tap-dyn g b).meter b.1) c.step.new.self) c.step.new.handle))
    (pin_is store file (mode_of c.args.handle.now) c.requires.updated) (c.in-Err-step.ensures.answered name true store e stands))
    (not_whole (handle_known c.step.new.handle).broken c.in-Err-step.stop (Unit {0}) c.in-Err-step.ensures.whole)

pub returns-then-run-clause-trail : goal.returns-then-run-clause-trail
returns-then-run-clause-trail g c = λ store name e s t rest left told.
    let lines = lines_left (moment_of g.R.Source.left g.O.Sink.told c.args.run.now c.args.script.now c.args.out.now) s in
    let file = pinned_file name (taps_of (λ b. (goal.Tap-dyn g b).meter b.1) c.args.run.now) e in
    let stands = stands_of g.D.Disk c.args.handle.now e rest in
    let said : Appends (g.O.Sink.told c.args.out.now) (g.O.Sink.told c.reply_opened.new.out) (file_line e.shape) =
    subst (λ (h : Shape). Appends (g.O.Sink.told c.args.out.now) (g.O.Sink.told c.reply_opened.new.out) (file_line h)) (shape_stands g.D.Disk.state c.args.handle.now e stands) c.in_default.ensures.answered.1 in
    let answered =
    subst (λ (x : Edited). IsStepAnswered {T = Unit {0}} (Ok tt) x (open_desk store file) c.args.run.now.refused c.step.new.self.refused (g.O.Sink.told c.reply_opened.new.out) (g.O.Sink.told c.step.new.out) (OpenStands g.D.Disk.state store name true (taps_of (λ b. (goal.Tap-dyn g b).meter b.1) c.step.new.self) c.step.new.handle))
    (pin_is store file (mode_of c.args.handle.now) c.requires.updated) (c.in_default-step.ensures.answered name true store e stands) in
    let a = file_line e.shape in
    let b = text_of (pin_edit store file).answer in
    let so_far = trail_pinned g.D.Disk g.met.D.Disk.only_now store name (taps_of (λ b. (goal.Tap-dyn g b).meter b.1) c.args.run.now) e lines c.args.handle.now rest c.step.new.handle
    (pin_moves g.D.Disk store name (taps_of (λ b. (goal.Tap-dyn g b).meter b.1) c.args.run.now) e _ c.args.handle.now c.step.new.handle c.requires.updated c.in_default-step.ensures.moves rest) in
    let count : 0 + length a + length b ≡ length (a ++ b) = omega (arith, length-append a b) in (
      a ++ b,
      answered.1 (t ++ a) (said t told) ∙ ap (λ (l : List ℕ). Some l) (append_assoc t a b),
      subst (λ (m : ℕ). TrailsOn g.D.Disk (g.D.Disk.state (handle_disk c.args.handle.now)).clock c.step.new.handle (reached m e (pinned_steps (opened_pinned store name (taps_of (λ b. (goal.Tap-dyn g b).meter b.1) c.args.run.now) e) lines))) count
          (trail_rests g.D.Disk g.met.D.Disk.only_now _ [] e _ (state_behind e (pin_edit store file)) _ c.step.new.handle (behind_pin store name (taps_of (λ b. (goal.Tap-dyn g b).meter b.1) c.args.run.now) e lines) so_far),
    )

pub returns-clause-trail : goal.returns-clause-trail
returns-clause-trail g c = λ store name e s t rest left told.
    let lines = lines_left (moment_of g.R.Source.left g.O.Sink.told c.args.run.now c.args.script.now c.args.out.now) s in
    let file = pinned_file name (taps_of (λ b. (goal.Tap-dyn g b).meter b.1) c.args.run.now) e in
    let stands = stands_of g.D.Disk c.args.handle.now e rest in
    let said : Appends (g.O.Sink.told c.args.out.now) (g.O.Sink.told c.reply_opened.new.out) (file_line e.shape) =
    subst (λ (h : Shape). Appends (g.O.Sink.told c.args.out.now) (g.O.Sink.told c.reply_opened.new.out) (file_line h)) (shape_stands g.D.Disk.state c.args.handle.now e stands) c.in_default.ensures.answered.1 in
    let answered =
    subst (λ (x : Edited). IsStepAnswered {T = Unit {0}} (Ok tt) x (open_desk store file) c.args.run.now.refused c.step.new.self.refused (g.O.Sink.told c.reply_opened.new.out) (g.O.Sink.told c.step.new.out) (OpenStands g.D.Disk.state store name true (taps_of (λ b. (goal.Tap-dyn g b).meter b.1) c.step.new.self) c.step.new.handle))
    (pin_is store file (mode_of c.args.handle.now) c.requires.updated) (c.in_default-step.ensures.answered name true store e stands) in
    let free = as_noted _ _ _ false c.requires.fresh answered.0 c.if-run.false in
    let so_far = trail_pinned g.D.Disk g.met.D.Disk.only_now store name (taps_of (λ b. (goal.Tap-dyn g b).meter b.1) c.args.run.now) e lines c.args.handle.now rest c.step.new.handle
    (pin_moves g.D.Disk store name (taps_of (λ b. (goal.Tap-dyn g b).meter b.1) c.args.run.now) e _ c.args.handle.now c.step.new.handle c.requires.updated c.in_default-step.ensures.moves rest) in
    trail_of_lines g.D.Disk g.met.D.Disk.only_now store name (taps_of (λ b. (goal.Tap-dyn g b).meter b.1) c.args.run.now) e lines c.args.handle.now rest (taps_of (λ b. (goal.Tap-dyn g b).meter b.1) c.step.new.self)
    (sym (ap (λ (d : Desk). taps_in (taps_of (λ b. (goal.Tap-dyn g b).meter b.1) c.args.run.now) d.open_file) answered.2.is)) c.step.new.handle c.serve_open.new.handle c.step.new.self.lines s t (g.O.Sink.told c.step.new.out) _ so_far free
    (ap (λ (r : Reading). lines_within r.room (r.rest ++ s)) c.in_default-step.ensures.lines)
    (c.in-Err-serve_open.ensures.trail refl store name (state_behind e (pin_edit store file)) (g.D.Disk.state (handle_disk c.args.handle.now)).clock so_far.past s _ so_far.rests (pin_automatic store name (taps_of (λ b. (goal.Tap-dyn g b).meter b.1) c.args.run.now) e free) so_far.trail left
    (answered.1 (t ++ file_line e.shape) (said t told)))

pub step-requires-clause-small : goal.step-requires-clause-small
step-requires-clause-small g c = updated_is_small c.args.handle.now c.requires.updated

pub serve_open-requires-clause-small : goal.serve_open-requires-clause-small
serve_open-requires-clause-small g c = updated_is_small c.step.new.handle (c.step.ensures.leaves.mode ∙ c.requires.updated)
