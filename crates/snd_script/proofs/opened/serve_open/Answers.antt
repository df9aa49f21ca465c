use Rattle.std.proofs.Common.{◌∙◌, ap, sym, refl, rules, arith, ℕ, List, [], ◌++◌, Ok, Some, length, append_assoc}
use Rattle.std.proofs.lemmas.List.{append-nil, length-append}
use Rattle.snd_command.specs.Line.{command_of}
use Rattle.std.proofs.lemmas.Result.{err_from_is_err_and}
use Rattle.snd_rules.specs.Desk.{Desk, OpenFile, open_desk, open_as}
use Rattle.snd_rules.specs.Edit.{close_edit, edit_line}
use Rattle.snd_session.specs.Handled.{mode_of}
use Rattle.snd_script.specs.Lines.{Reading, to_take}
use Rattle.snd_rules.specs.Replies.{text_of}
use Rattle.snd_rules.specs.Script.{asked_by, most_in, written_in}
use Rattle.snd_script.specs.Serving.{Moment, moment, moment_of, steps_left}
use Rattle.snd_script.specs.Tapped.{taps_of}
use Rattle.snd_script.specs.Trail.{pinned_file, state_behind}
use Rattle.snd_script.specs.declared.stop.Next.{Next}
use Rattle.snd_script.proofs.Chains.{none_left, serves_none, stopped_as, stopped_then}
use Rattle.snd_script.proofs.MadeBlocks.{small_still}
use Rattle.snd_script.proofs.OpenChains.{at_close, at_open, at_stops, comes_at, left_at}
use Rattle.snd_script.proofs.PinnedMoves.{command_automatic, stands_of, taps_in}
use Rattle.snd_script.proofs.PinnedTrails.{trail_ends, trail_on, trail_with}
use Rattle.snd_script.proofs.Stepping.{held_desk, leaves_handle_none, leaves_handle_then, stands_open}
use Rattle.snd_script.proofs.Tails.{tail_none, tail_of_line}
use Rattle.snd_script.proofs.TrailRuns.{trail_begins, trail_rests}
use Rattle.snd_script.proofs.Uses.{line_is_to_close, line_stays_open, line_stops_run, so_far_stops, uses_so_far_none}
use Rattle.snd_script.proofs.opened.serve_open.Goals as goal

pub loop-line-init : goal.loop-line-init
loop-line-init g c = record {
  told = λ name store e s stands left. (e, s, left, stands, serves_none _ _ _ _ refl refl, refl);
  whole = search rules;
  fewer = omega arith;
  given = omega arith;
  counted = record { shelf = refl; script = refl; out = refl };
  leaves = leaves_handle_none _ _ _ c.args.handle.now;
  trail = λ pins store name e t0 past s t rest on before left told. (
    e,
    s,
    [],
    on,
    left,
    told ∙ ap (λ (l : List ℕ). Some l) (sym (append-nil t)),
    trail_begins g.D.Disk g.met.D.Disk.only_now t0 past e (steps_left (open_desk store (pinned_file name _ e)) (moment_of g.R.Source.left g.O.Sink.told c.args.run.now c.args.script.now c.args.out.now) s) c.args.handle.now rest before,
  );
  tail = λ s left. tail_none _ s _ left;
  asked = λ s left. uses_so_far_none _ _ s _ _ left;
  written = λ s left. uses_so_far_none _ _ s _ _ left;
}

pub returns-in_err-next-clause-served : goal.returns-in_err-next-clause-served
returns-in_err-next-clause-served g c =
    let p = err_from_is_err_and c.from_residual.result c.from_residual.ensures.1 in
    rw (p.1, p.2) (λ name store e s stands left.
    let so_far = c.loop-line.invariant.told name store e s stands left in
    stopped_then _ _ _ _ _ _ _ _ _ _ so_far.4 (stopped_as _ _ _ _ _ _ _ _ so_far.5 (none_left _ (held_desk store name c.args.stays _ c.loop-line.handle so_far.0) so_far.1 _ _ _ (c.in_err-next.ensures.brought so_far.1 so_far.2) c.in_err-next.ensures.noted refl
    (stands_open g.D.Disk.state store name c.args.stays _ _ c.loop-line.handle c.loop-line.handle so_far.0 _ refl c.next.ensures.taps so_far.3))))

pub returns-in_err-open_line-clause-served : goal.returns-in_err-open_line-clause-served
returns-in_err-open_line-clause-served g c =
    let p = err_from_is_err_and c.from_residual-in_err-open_line.result c.from_residual-in_err-open_line.ensures.1 in
    rw (p.1, p.2) (λ name store e s stands left.
    let so_far = c.loop-line.invariant.told name store e s stands left in
    let comes = c.in_ok-next.ensures.brought so_far.1 so_far.2 in
    let m : Moment = moment c.loop-line.run.lines (g.R.Source.left c.loop-line.script) c.loop-line.run.refused (g.O.Sink.told c.loop-line.out) in
    let m' : Moment = moment c.next.new.self.lines (g.R.Source.left c.next.new.script) c.next.new.self.refused (g.O.Sink.told c.loop-line.out) in
    let served = left_at _ _ _ _ _ m so_far.1 (ap (λ t. held_desk store name c.args.stays t c.loop-line.handle so_far.0) (sym c.next.ensures.taps)) so_far.4 in
    let at = comes_at _ _ _ (held_desk store name c.args.stays _ c.loop-line.handle so_far.0) c.next.new.line so_far.1 comes.0 _ m m' served so_far.5 comes.2 c.in_ok-next.ensures.noted refl in
    at_stops _ _ _ _ _ _ m' _ _ comes.0 _ at (c.in_err-open_line.ensures.answered name store so_far.0 so_far.3))

pub loop-line-preserved : goal.loop-line-preserved
loop-line-preserved g c = record {
  told = λ name store e s stands left.
      let so_far = c.loop-line.invariant.told name store e s stands left in
      let comes = c.in_ok-next.ensures.brought so_far.1 so_far.2 in
      let m : Moment = moment c.loop-line.run.lines (g.R.Source.left c.loop-line.script) c.loop-line.run.refused (g.O.Sink.told c.loop-line.out) in
      let m' : Moment = moment c.next.new.self.lines (g.R.Source.left c.next.new.script) c.next.new.self.refused (g.O.Sink.told c.loop-line.out) in
      let desk = held_desk store name c.args.stays (taps_of (λ b. (goal.Tap-dyn g b).meter b.1) c.next.new.self) c.loop-line.handle so_far.0 in
      let served = left_at _ _ _ _ _ m so_far.1 (ap (λ t. held_desk store name c.args.stays t c.loop-line.handle so_far.0) (sym c.next.ensures.taps)) so_far.4 in
      let at = comes_at _ _ _ desk c.next.new.line so_far.1 comes.0 _ m m' served so_far.5 comes.2 c.in_ok-next.ensures.noted refl in
      let answered = c.in_ok-open_line.ensures.answered name store so_far.0 so_far.3 in
      let said = rw c.in-Open.is at answered in
      let next = at_open _ _ _ _ c.next.new.self.lines c.open_line.new.run.lines _ _ _ _ comes.0 c.in_ok-open_line.ensures.lines _ desk (edit_line desk c.next.new.line) at said.0 said.1 in
      (said.2.editing, comes.0, comes.1, said.2.stands refl, left_at _ _ _ _ _ _ _ said.2.is next.0, next.1);
  whole = search rules;
  fewer = omega (arith, ap (λ (x : Reading). x.room) c.in_ok-open_line.ensures.lines, c.in_ok-next.ensures.fewer, c.loop-line.invariant.fewer);
  given = omega (arith, ap (λ (x : Reading). to_take x) c.in_ok-open_line.ensures.lines, c.next.ensures.given, c.loop-line.invariant.given);
  counted = record {
    shelf = (c.in_ok-open_line.ensures.counted 0).shelf ∙ c.loop-line.invariant.counted.shelf;
    script = c.in_ok-next.ensures.faults ∙ c.loop-line.invariant.counted.script;
    out = (c.in_ok-open_line.ensures.counted 0).out ∙ c.loop-line.invariant.counted.out;
  };
  leaves = leaves_handle_then _ _ _ _ _ _ c.loop-line.invariant.leaves c.in_ok-open_line.ensures.leaves;
  trail = λ pins store name e t0 past s t rest on before left told.
      let so_far = c.loop-line.invariant.trail pins store name e t0 past s t rest on before left told in
      let comes = c.in_ok-next.ensures.brought so_far.1 so_far.4 in
      let e' = so_far.0 in
      let trail = trail_with g.D.Disk t0 _ e _ store name _ _ e' _ _ c.loop-line.handle c.next.ensures.taps so_far.6 in
      let kept = c.next.new.line in
      let step = edit_line (open_desk store (pinned_file name (taps_of (λ b. (goal.Tap-dyn g b).meter b.1) c.next.new.self) e')) kept in
      let sent = so_far.2 ++ text_of step.answer in
      let answered = rw (pins, c.in-Open.is) at (c.in_ok-open_line.ensures.answered name store e' (stands_of g.D.Disk c.loop-line.handle e' so_far.6.rests)) in
      let moves = rw c.in-Open.is at (c.in_ok-open_line.ensures.moves pins store name e' so_far.3 so_far.6.rests) in (
        state_behind e' step,
        comes.0,
        sent,
        command_automatic store name (taps_of (λ b. (goal.Tap-dyn g b).meter b.1) c.next.new.self) e' (command_of kept) ∙ so_far.3,
        comes.1,
        answered.1 (t ++ so_far.2) so_far.5 ∙ ap (λ (l : List ℕ). Some l) (append_assoc t so_far.2 (text_of step.answer)),
        trail_on g.D.Disk g.met.D.Disk.only_now t0 _ e _ store name (taps_of (λ b. (goal.Tap-dyn g b).meter b.1) c.next.new.self) e' kept c.loop-line.run.lines c.next.new.self.lines so_far.1 comes.0 (length so_far.2) c.loop-line.handle c.open_line.new.handle trail comes.2
            (taps_of (λ b. (goal.Tap-dyn g b).meter b.1) c.open_line.new.run) (ap (λ (d : Desk). taps_in (taps_of (λ b. (goal.Tap-dyn g b).meter b.1) c.next.new.self) d.open_file) answered.2.is) c.open_line.new.run.lines (length sent) c.in_ok-open_line.ensures.lines (record { leaves = moves.leaves; rests = moves.rests; params = moves.params }) (λ none. (c.in_ok-open_line.ensures.idle none).1) (length-append so_far.2 (text_of step.answer)),
      );
  tail = λ s left.
      let so_far = c.loop-line.invariant.tail s left in
      let comes = c.in_ok-next.ensures.brought so_far.0 so_far.1 in
      tail_of_line _ c.loop-line.run.lines c.next.new.self.lines _ c.next.new.line comes.0 _ _ so_far comes.2 c.in_ok-open_line.ensures.lines comes.1;
  asked = λ s left.
      let so_far = c.loop-line.invariant.asked s left in
      let comes = c.in_ok-next.ensures.brought so_far.1.0 so_far.1.1 in
      line_stays_open (most_in c.args.stays asked_by) _ c.loop-line.run.lines s c.next.new.line _ _ _ _ so_far c.next.new.self.lines _ comes.0 _ _ comes.2 c.in_ok-open_line.ensures.lines comes.1
      (rw c.in-Open.is at c.in_ok-open_line.ensures.asked);
  written = λ s left.
      let so_far = c.loop-line.invariant.written s left in
      let comes = c.in_ok-next.ensures.brought so_far.1.0 so_far.1.1 in
      line_stays_open (written_in c.args.stays) _ c.loop-line.run.lines s c.next.new.line _ _ _ _ so_far c.next.new.self.lines _ comes.0 _ _ comes.2 c.in_ok-open_line.ensures.lines comes.1
      (rw c.in-Open.is at c.in_ok-open_line.ensures.written);
}

pub returns-in-Close-clause-served : goal.returns-in-Close-clause-served
returns-in-Close-clause-served g c = λ name store e s stands left.
    let so_far = c.loop-line.invariant.told name store e s stands left in
    let comes = c.in_ok-next.ensures.brought so_far.1 so_far.2 in
    let m : Moment = moment c.loop-line.run.lines (g.R.Source.left c.loop-line.script) c.loop-line.run.refused (g.O.Sink.told c.loop-line.out) in
    let m' : Moment = moment c.next.new.self.lines (g.R.Source.left c.next.new.script) c.next.new.self.refused (g.O.Sink.told c.loop-line.out) in
    let file : OpenFile = record { name = name; mode = open_as c.args.stays (mode_of c.loop-line.handle); editing = so_far.0; taps = taps_of (λ b. (goal.Tap-dyn g b).meter b.1) c.next.new.self } in
    let desk = held_desk store name c.args.stays (taps_of (λ b. (goal.Tap-dyn g b).meter b.1) c.next.new.self) c.loop-line.handle so_far.0 in
    let served = left_at _ _ _ _ _ m so_far.1 (ap (λ t. held_desk store name c.args.stays t c.loop-line.handle so_far.0) (sym c.next.ensures.taps)) so_far.4 in
    let at = comes_at _ _ _ desk c.next.new.line so_far.1 comes.0 _ m m' served so_far.5 comes.2 c.in_ok-next.ensures.noted refl in
    let answered = c.in_ok-open_line.ensures.answered name store so_far.0 so_far.3 in
    let said = rw c.in-Close.is at answered in
    let next = at_close _ _ _ _ c.next.new.self.lines c.open_line.new.run.lines _ _ _ _ comes.0 c.in_ok-open_line.ensures.lines _ desk (edit_line desk c.next.new.line) (close_edit store file) at said.0 said.1 said.2 in
    (file, comes.0, comes.1, next.0, said.3, next.1)

pub returns-in-Close-clause-counted : goal.returns-in-Close-clause-counted
returns-in-Close-clause-counted g c = record {
  shelf = (c.in_ok-open_line.ensures.counted 0).shelf ∙ c.loop-line.invariant.counted.shelf;
  script = c.in_ok-next.ensures.faults ∙ c.loop-line.invariant.counted.script;
  out = (c.in_ok-open_line.ensures.counted 0).out ∙ c.loop-line.invariant.counted.out;
}

pub returns-in_err-next-clause-asked : goal.returns-in_err-next-clause-asked
returns-in_err-next-clause-asked g c =
    let p = err_from_is_err_and c.from_residual.result c.from_residual.ensures.1 in
    rw (p.1, p.2) (λ s left. so_far_stops (most_in c.args.stays asked_by) _ _ _ s c.loop-line.run.lines _ _ _ _ _ _ (c.loop-line.invariant.asked s left))

pub returns-in_err-open_line-clause-asked : goal.returns-in_err-open_line-clause-asked
returns-in_err-open_line-clause-asked g c =
    let p = err_from_is_err_and c.from_residual-in_err-open_line.result c.from_residual-in_err-open_line.ensures.1 in
    rw (p.1, p.2) (λ s left.
    let so_far = c.loop-line.invariant.asked s left in
    let comes = c.in_ok-next.ensures.brought so_far.1.0 so_far.1.1 in
    line_stops_run (most_in c.args.stays asked_by) _ c.loop-line.run.lines s c.next.new.line _ _ _ _ so_far _ c.next.new.self.lines _ comes.0 _ _ _ comes.2 c.in_err-open_line.ensures.asked)

pub returns-in-Close-clause-asked : goal.returns-in-Close-clause-asked
returns-in-Close-clause-asked g c = λ s left.
    let so_far = c.loop-line.invariant.asked s left in
    let comes = c.in_ok-next.ensures.brought so_far.1.0 so_far.1.1 in
    line_is_to_close (most_in c.args.stays asked_by) _ c.loop-line.run.lines s c.next.new.line _ _ _ _ so_far _ c.next.new.self.lines _ comes.0 _ _ _ comes.2 c.in_ok-open_line.ensures.lines comes.1
    (rw c.in-Close.is at c.in_ok-open_line.ensures.asked)

pub returns-in_err-next-clause-written : goal.returns-in_err-next-clause-written
returns-in_err-next-clause-written g c =
    let p = err_from_is_err_and c.from_residual.result c.from_residual.ensures.1 in
    rw (p.1, p.2) (λ s left. so_far_stops (written_in c.args.stays) _ _ _ s c.loop-line.run.lines _ _ _ _ _ _ (c.loop-line.invariant.written s left))

pub returns-in_err-open_line-clause-written : goal.returns-in_err-open_line-clause-written
returns-in_err-open_line-clause-written g c =
    let p = err_from_is_err_and c.from_residual-in_err-open_line.result c.from_residual-in_err-open_line.ensures.1 in
    rw (p.1, p.2) (λ s left.
    let so_far = c.loop-line.invariant.written s left in
    let comes = c.in_ok-next.ensures.brought so_far.1.0 so_far.1.1 in
    line_stops_run (written_in c.args.stays) _ c.loop-line.run.lines s c.next.new.line _ _ _ _ so_far _ c.next.new.self.lines _ comes.0 _ _ _ comes.2 c.in_err-open_line.ensures.written)

pub returns-in-Close-clause-written : goal.returns-in-Close-clause-written
returns-in-Close-clause-written g c = λ s left.
    let so_far = c.loop-line.invariant.written s left in
    let comes = c.in_ok-next.ensures.brought so_far.1.0 so_far.1.1 in
    line_is_to_close (written_in c.args.stays) _ c.loop-line.run.lines s c.next.new.line _ _ _ _ so_far _ c.next.new.self.lines _ comes.0 _ _ _ comes.2 c.in_ok-open_line.ensures.lines comes.1
    (rw c.in-Close.is at c.in_ok-open_line.ensures.written)

pub returns-in-Close-clause-tail : goal.returns-in-Close-clause-tail
returns-in-Close-clause-tail g c = λ s left.
    let so_far = c.loop-line.invariant.tail s left in
    let comes = c.in_ok-next.ensures.brought so_far.0 so_far.1 in
    tail_of_line _ c.loop-line.run.lines c.next.new.self.lines _ c.next.new.line comes.0 _ _ so_far comes.2 c.in_ok-open_line.ensures.lines comes.1

pub returns-in_err-next-clause-trail : goal.returns-in_err-next-clause-trail
returns-in_err-next-clause-trail g c = λ pins store name e t0 past s t rest on before left told.
    let so_far = c.loop-line.invariant.trail pins store name e t0 past s t rest on before left told in
    (so_far.2, so_far.5, trail_rests g.D.Disk g.met.D.Disk.only_now t0 _ e _ so_far.0 (length so_far.2) c.loop-line.handle _ so_far.6)

pub returns-in_err-open_line-clause-trail : goal.returns-in_err-open_line-clause-trail
returns-in_err-open_line-clause-trail g c = λ pins store name e t0 past s t rest on before left told.
    let so_far = c.loop-line.invariant.trail pins store name e t0 past s t rest on before left told in
    let comes = c.in_ok-next.ensures.brought so_far.1 so_far.4 in
    let trail = trail_with g.D.Disk t0 _ e _ store name _ _ so_far.0 _ _ c.loop-line.handle c.next.ensures.taps so_far.6 in
    let answered = rw pins at (c.in_err-open_line.ensures.answered name store so_far.0 (stands_of g.D.Disk c.loop-line.handle so_far.0 so_far.6.rests)) in
    trail_ends g.D.Disk g.met.D.Disk.only_now t0 _ e _ store name _ so_far.0 c.next.new.line c.loop-line.run.lines c.next.new.self.lines so_far.1 comes.0 (length so_far.2) c.loop-line.handle c.open_line.new.handle trail comes.2
    t so_far.2 _ _ refl so_far.5 _ Next _ _ (c.in_err-open_line.ensures.moves pins store name so_far.0 so_far.3 so_far.6.rests) answered c.in_err-open_line.ensures.whole
    (λ none. let is = (c.in_err-open_line.ensures.idle none).0 in absurd (cc))

pub returns-in-Close-clause-trail : goal.returns-in-Close-clause-trail
returns-in-Close-clause-trail g c = λ pins. absurd (let closes = c.in_ok-open_line.ensures.closes (ap (λ (n : Next). Ok n) c.in-Close.is) in cc)

pub open_line-requires-clause-small : goal.open_line-requires-clause-small
open_line-requires-clause-small g c = small_still g.D.Disk.state g.D.Disk.may_leave g.D.Disk.left_between c.args.handle.now c.loop-line.handle c.loop-line.invariant.leaves c.requires.small
