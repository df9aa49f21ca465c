use Rattle.std.proofs.Common.{rules, arith, length, ◌<◌, ◌∙◌, ap, sym, refl}
use Rattle.std.proofs.lemmas.Bool.{eqb-true, eqb-false}
use Rattle.std.proofs.lemmas.Result.{err_from_is_err_and}
use Rattle.snd_script.specs.Lines.{Reading}
use Rattle.snd_script.proofs.Ways.{moved, line_moved, no_more_moved, under_way, cut_off, nothing_left, last_left, is_none_left, is_some_left, full_then, above_none, feed_ends, fewer_left}
use Rattle.snd_script.proofs.reader.ScriptLines.next_line.Goals as goal

pub returns-then-move_part-clause-next : goal.returns-then-move_part-clause-next
returns-then-move_part-clause-next g c = λ s told.
    let under = c.loop-self.invariant.told s told in
    let moves = c.if-move_part.ensures.moved in
    (under.0, under.2, line_moved _ _ _ _ _ _ (moved _ _ _ _ _ _ _ _ _ _ under.3 moves.1))

pub returns-then-not-is_used_up-clause-next : goal.returns-then-not-is_used_up-clause-next
returns-then-not-is_used_up-clause-next g c = λ s told.
    let under = c.loop-self.invariant.told s told in
    let moves = c.if-move_part.ensures.moved in
    let some : 0 < length c.move_part.new.self.rest = is_some_left _ c.if-not-is_used_up.ensures.1 in
    (under.0, under.2, no_more_moved _ _ _ _ _ _ (moved _ _ _ _ _ _ _ _ _ _ under.3 moves.1) some (full_then _ _ some (moves.1.all refl)))

pub loop-self-preserved : goal.loop-self-preserved
loop-self-preserved g c = record {
  told = λ s told.
      let under = c.loop-self.invariant.told s told in
      let moves = c.if-move_part.ensures.moved in
      let more = c.in_ok-refill.ensures.told under.0 under.2 in
      (more.0, _, more.1, under_way _ _ _ _ _ _ _ _ (moved _ _ _ _ _ _ _ _ _ _ under.3 moves.1) (is_none_left _ c.if-not-is_used_up.ensures.0) c.in_ok-refill.ensures.room more.2);
  prompt = λ before after is lt. absurd (let same = c.loop-self.invariant.prompt before after is lt in feed_ends _ _ _ _ _ before after c.if-move_part.ensures.moved.1 (ap (λ (x : Reading). x.rest) same.0 ∙ is) (omega (arith, ap (λ (x : Reading). x.room) same.0, lt)));
  fewer = omega (arith, fewer_left _ _ _ _ _ _ c.if-move_part.ensures.moved.1, c.in_ok-refill.ensures.room, c.loop-self.invariant.fewer);
  given = omega (arith, c.loop-self.invariant.given, c.move_part.ensures.to_take, c.in_ok-refill.ensures.given);
  calm = search rules;
}

pub returns-then-is_empty-clause-next : goal.returns-then-is_empty-clause-next
returns-then-is_empty-clause-next g c = λ s told.
    let under = c.loop-self.invariant.told s told in
    let moves = c.if-move_part.ensures.moved in
    let more = c.in_ok-refill.ensures.told under.0 under.2 in
    let end = c.in_ok-refill.ensures.ended c.if-not-branch.true under.0 under.2 in
    (more.0, more.1, nothing_left _ _ c.refill.new.self _ _ _ _ (moved _ _ _ _ _ _ _ _ _ _ under.3 moves.1) (is_none_left _ c.if-not-is_used_up.ensures.0) end (eqb-true _ _ (sym c.if-is_empty.ensures)))

pub returns-clause-next : goal.returns-clause-next
returns-clause-next g c = λ s told.
    let under = c.loop-self.invariant.told s told in
    let moves = c.if-move_part.ensures.moved in
    let more = c.in_ok-refill.ensures.told under.0 under.2 in
    let end = c.in_ok-refill.ensures.ended c.if-not-branch.true under.0 under.2 in
    (more.0, more.1, last_left _ _ c.refill.new.self _ _ _ _ _ (moved _ _ _ _ _ _ _ _ _ _ under.3 moves.1) (is_none_left _ c.if-not-is_used_up.ensures.0) c.in_ok-refill.ensures.room end more.2 (above_none _ (eqb-false _ _ (sym c.if-is_empty.ensures))))

pub returns-then-is_empty-clause-prompt : goal.returns-then-is_empty-clause-prompt
returns-then-is_empty-clause-prompt g c = λ before after is lt. absurd (let same = c.loop-self.invariant.prompt before after is lt in feed_ends _ _ _ _ _ before after c.if-move_part.ensures.moved.1 (ap (λ (x : Reading). x.rest) same.0 ∙ is) (omega (arith, ap (λ (x : Reading). x.room) same.0, lt)))

pub returns-clause-prompt : goal.returns-clause-prompt
returns-clause-prompt g c = λ before after is lt. absurd (let same = c.loop-self.invariant.prompt before after is lt in feed_ends _ _ _ _ _ before after c.if-move_part.ensures.moved.1 (ap (λ (x : Reading). x.rest) same.0 ∙ is) (omega (arith, ap (λ (x : Reading). x.room) same.0, lt)))

pub returns-in_err-refill-clause-prompt : goal.returns-in_err-refill-clause-prompt
returns-in_err-refill-clause-prompt g c = λ before after is lt. absurd (let same = c.loop-self.invariant.prompt before after is lt in feed_ends _ _ _ _ _ before after c.if-move_part.ensures.moved.1 (ap (λ (x : Reading). x.rest) same.0 ∙ is) (omega (arith, ap (λ (x : Reading). x.room) same.0, lt)))

pub returns-in_err-refill-clause-short : goal.returns-in_err-refill-clause-short
returns-in_err-refill-clause-short g c =
    let p = err_from_is_err_and c.from_residual.result c.from_residual.ensures.1 in
    rw p.1 (λ s told.
    let under = c.loop-self.invariant.told s told in
    let moves = c.if-move_part.ensures.moved in
    cut_off _ _ _ _ _ _ _ (moved _ _ _ _ _ _ _ _ _ _ under.3 moves.1) (is_none_left _ c.if-not-is_used_up.ensures.0) (c.in_err-refill.ensures.kept ∙ under.2))
