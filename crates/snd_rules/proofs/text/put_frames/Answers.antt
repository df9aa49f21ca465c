use Rattle.std.proofs.Common.{◌-◌, refl, arith, rules}
use Rattle.std.proofs.lemmas.Result.{on_err_weaker, on_ok_weaker}
use Rattle.snd_rules.proofs.Lines.{begun, fewer_frames, line_gathered, none_left, roomed}
use Rattle.snd_rules.proofs.Printing.{ended, failed, on_err}
use Rattle.snd_rules.proofs.text.put_frames.Goals as goal

pub loop-init : goal.loop-init
loop-init g c = record {
  printing = begun _ _ _ _ _ _ (omega arith) (search rules);
  size = search (rules);
  calm = refl;
}

pub returns-in_err-make_room-clause-part : goal.returns-in_err-make_room-clause-part
returns-in_err-make_room-clause-part g c =
    on_err _ _ (failed _ _ _ _ _ _ c.loop.invariant.printing c.in_err-make_room.ensures.part)

pub loop-preserved : goal.loop-preserved
loop-preserved g c = record {
  printing = line_gathered _ _ _ _ _ _ (c.args.frames - c.loop.counter) _ c.loop.rest.now _ (roomed _ _ _ _ _ _ _ c.loop.invariant.printing c.in_ok-make_room.ensures.put) (omega arith) (search rules) (search rules);
  size = fewer_frames _ _ _ c.loop.rest.now _ c.loop.invariant.size (omega arith) (search rules);
  calm = search rules;
}

pub returns-clause-put : goal.returns-clause-put
returns-clause-put g c =
    on_ok_weaker c.put.result
    (λ p. ended _ _ _ c.loop.page.items _ (none_left _ _ _ _ _ (c.args.frames - c.loop.counter) _ c.loop.invariant.printing (omega arith)) (rw c.deref.ensures.0 at p)) c.put.ensures.put

pub returns-clause-part : goal.returns-clause-part
returns-clause-part g c =
    on_err_weaker c.put.result
    (λ p. failed _ _ _ c.loop.page.items _ _ c.loop.invariant.printing (rw c.deref.ensures.0 at p)) c.put.ensures.part
