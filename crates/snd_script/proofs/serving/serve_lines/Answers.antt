use Rattle.std.proofs.Common.{◌∙◌, arith, refl}
use Rattle.snd_rules.specs.Desk.{closed_desk}
use Rattle.snd_rules.specs.Script.{asked_by, written_by}
use Rattle.snd_script.specs.Serving.{Moment, ShelfStands, is_longer, moment, steps_left}
use Rattle.snd_script.proofs.Chains.{serves_none, serves_then, stopped_as, stopped_then}
use Rattle.snd_script.proofs.ShelfCounts.{all_same_then, counted_behind}
use Rattle.snd_script.proofs.ShelfLeft.{has_store, leaves_shelf_same, leaves_shelf_then}
use Rattle.snd_script.proofs.Tails.{keeps_on, keeps_same, tail_none, tail_on}
use Rattle.snd_script.proofs.Uses.{used_in_all, uses_on, uses_so_far_none, without_close}
use Rattle.snd_script.proofs.serving.serve_lines.Goals as goal

pub loop-stop-init : goal.loop-stop-init
loop-stop-init g c = record {
  served = λ store s has left. (store, s, has, left, serves_none _ _ _ _ refl refl, refl);
  given = omega arith;
  counted = record { shelf = refl; script = refl; out = refl };
  shelf = leaves_shelf_same g.S.Shelf.state g.S.Shelf.may_leave g.S.Shelf.left_between c.args.shelf.now;
  tail = λ s left. tail_none _ s _ left;
  images = λ s left f n told there none. keeps_same g.S.Shelf.state g.S.Shelf.may_leave g.S.Shelf.left_between n c.args.shelf.now;
  asked = λ s left. uses_so_far_none asked_by _ s _ _ left;
  written = λ s left. uses_so_far_none written_by _ s _ _ left;
}

pub loop-stop-preserved : goal.loop-stop-preserved
loop-stop-preserved g c = record {
  served = λ store s has left.
      let so_far = c.loop-stop.invariant.served store s has left in
      let m0 : Moment = moment c.args.run.now.lines (g.R.Source.left c.args.script.now) c.args.run.now.refused (g.O.Sink.told c.args.out.now) in
      let m : Moment = moment c.loop-stop.run.lines (g.R.Source.left c.loop-stop.script) c.loop-stop.run.refused (g.O.Sink.told c.loop-stop.out) in
      let m' : Moment = moment c.serve_line.new.run.lines (g.R.Source.left c.serve_line.new.script) c.serve_line.new.run.refused (g.O.Sink.told c.serve_line.new.out) in
      let on = c.in-Ok.ensures.served so_far.0 so_far.1 so_far.2 so_far.3 in (
        on.0,
        on.1,
        has_store g.S.Shelf.state c.serve_line.new.shelf on.0 _ on.4,
        on.2,
        serves_then (steps_left (closed_desk store) m0 s) (steps_left (closed_desk so_far.0) m so_far.1) (steps_left (closed_desk on.0) m' on.1) (closed_desk store) (closed_desk so_far.0) (closed_desk on.0) m0 m m' so_far.4 on.3,
        ◌∙◌ {a = is_longer m' on.1} {b = is_longer m so_far.1} {c = is_longer m0 s} on.5 so_far.5,
      );
  given = omega (arith, c.loop-stop.invariant.given, c.serve_line.ensures.given);
  counted = all_same_then _ _ _ c.loop-stop.invariant.counted c.in-Ok.ensures.counted;
  shelf = leaves_shelf_then g.S.Shelf.state g.S.Shelf.may_leave g.S.Shelf.left_between c.args.shelf.now c.loop-stop.shelf c.serve_line.new.shelf c.loop-stop.invariant.shelf c.serve_line.ensures.shelf;
  tail = λ s left.
      let so_far = c.loop-stop.invariant.tail s left in
      tail_on _ c.loop-stop.run.lines _ _ _ so_far (c.in-Ok.ensures.tail so_far.0 so_far.1);
  images = λ s left.
      let so_far = c.loop-stop.invariant.tail s left in
      keeps_on g.S.Shelf _ c.loop-stop.run.lines _ so_far c.args.shelf.now c.loop-stop.shelf c.serve_line.new.shelf c.loop-stop.invariant.shelf
      (c.loop-stop.invariant.images s left) (c.serve_line.ensures.images so_far.0 so_far.1);
  asked = λ s left.
      let so_far = c.loop-stop.invariant.asked s left in
      uses_on _ asked_by _ _ s _ _ _ _ _ _ _ so_far (c.in-Ok.ensures.asked so_far.1.0 so_far.1.1);
  written = λ s left.
      let so_far = c.loop-stop.invariant.written s left in
      uses_on _ written_by _ _ s _ _ _ _ _ _ _ so_far (c.in-Ok.ensures.written so_far.1.0 so_far.1.1);
}

pub returns-in-Err-clause-served : goal.returns-in-Err-clause-served
returns-in-Err-clause-served g c = λ store s has left.
    let so_far = c.loop-stop.invariant.served store s has left in
    let m0 : Moment = moment c.args.run.now.lines (g.R.Source.left c.args.script.now) c.args.run.now.refused (g.O.Sink.told c.args.out.now) in
    let m : Moment = moment c.loop-stop.run.lines (g.R.Source.left c.loop-stop.script) c.loop-stop.run.refused (g.O.Sink.told c.loop-stop.out) in
    let m' : Moment = moment c.serve_line.new.run.lines (g.R.Source.left c.serve_line.new.script) c.serve_line.new.run.refused (g.O.Sink.told c.serve_line.new.out) in
    stopped_as c.in-Err.stop (is_longer m so_far.1) (is_longer m0 s) (steps_left (closed_desk store) m0 s) (closed_desk store) m0 m' (ShelfStands g.S.Shelf.state c.serve_line.new.shelf _) so_far.5
    (stopped_then c.in-Err.stop (is_longer m so_far.1) (steps_left (closed_desk store) m0 s) (steps_left (closed_desk so_far.0) m so_far.1) (closed_desk store) (closed_desk so_far.0) m0 m m' (ShelfStands g.S.Shelf.state c.serve_line.new.shelf _) so_far.4
    (c.in-Err.ensures.served so_far.0 so_far.1 so_far.2 so_far.3))

pub returns-in-Err-clause-counted : goal.returns-in-Err-clause-counted
returns-in-Err-clause-counted g c = counted_behind _ _ _ _ c.loop-stop.invariant.counted c.in-Err.ensures.counted

pub returns-in-Err-clause-shelf : goal.returns-in-Err-clause-shelf
returns-in-Err-clause-shelf g c = leaves_shelf_then g.S.Shelf.state g.S.Shelf.may_leave g.S.Shelf.left_between c.args.shelf.now c.loop-stop.shelf c.serve_line.new.shelf c.loop-stop.invariant.shelf c.serve_line.ensures.shelf

pub returns-in-Err-clause-bounds : goal.returns-in-Err-clause-bounds
returns-in-Err-clause-bounds g c = λ s left.
    let asked = c.loop-stop.invariant.asked s left in
    let written = c.loop-stop.invariant.written s left in (
      without_close _ _ _ (used_in_all c.in-Err.stop asked_by _ _ s _ _ _ _ _ _ _ asked (c.in-Err.ensures.asked asked.1.0 asked.1.1)),
      used_in_all c.in-Err.stop written_by _ _ s _ _ _ _ _ _ _ written (c.in-Err.ensures.written written.1.0 written.1.1),
    )

pub returns-in-Err-clause-images : goal.returns-in-Err-clause-images
returns-in-Err-clause-images g c = λ s left.
    let so_far = c.loop-stop.invariant.tail s left in
    keeps_on g.S.Shelf _ c.loop-stop.run.lines _ so_far c.args.shelf.now c.loop-stop.shelf c.serve_line.new.shelf c.loop-stop.invariant.shelf
    (c.loop-stop.invariant.images s left) (c.serve_line.ensures.images so_far.0 so_far.1)
