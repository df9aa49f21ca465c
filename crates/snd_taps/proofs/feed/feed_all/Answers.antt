use Rattle.std.proofs.Common.{◌∙◌, rules, arith}
use Rattle.snd_taps.proofs.Frames.{one_fed, none_whole}
use Rattle.snd_taps.proofs.feed.feed_all.Goals as goal

pub loop-frame-preserved : goal.loop-frame-preserved
loop-frame-preserved g c =
    let steps = c.in-Some.ensures.steps in
    record {
      left = one_fed _ _ _ c.args.channels c.in-Some.frame.now _ _ (omega arith) (steps.1.1 ∙ c.loop-frame.invariant.size) steps.1.0 (search rules) c.loop-frame.invariant.left;
      size = steps.0 ∙ c.loop-frame.invariant.size;
    }

pub returns : goal.returns
returns g c =
    let steps = c.in-None.ensures.steps in
    none_whole _ _ c.args.channels c.loop-frame.frame-iterator.rest.now (omega (arith, steps.1.0, c.loop-frame.invariant.size)) c.loop-frame.invariant.left
