use Rattle.std.proofs.Common.{◌≡◌, pos, get_or, to_z, of_z, w32, rules, arith}
use Rattle.snd_taps.specs.Measure.{is_clip}
use Rattle.snd_taps.proofs.Counts.{one_more, none_left}
use Rattle.snd_taps.proofs.measure.frame_clips.Goals as goal

pub loop-x-preserved : goal.loop-x-preserved
loop-x-preserved c =
    let ends = is_clip (to_z w32 (of_z w32 c.args.low)) (to_z w32 (of_z w32 c.args.high)) in
    let x = get_or c.args.frame.now c.loop-x.x-index (pos 0) in
    let x_is : to_z w32 (of_z w32 x) ≡ x = search rules in
    record {
      so_far = one_more ends c.args.frame.now c.loop-x.x-index (pos 0) c.loop-x.count c.clip-count.result _ c.loop-x-test.true (rw x_is at c.clip-count.ensures.value) c.loop-x.invariant.so_far;
      most = omega (arith, c.clip-count.ensures.one, c.loop-x.invariant.most);
    }

pub returns : goal.returns
returns c =
    let low_is : to_z w32 (of_z w32 c.args.low) ≡ c.args.low = search rules in
    let high_is : to_z w32 (of_z w32 c.args.high) ≡ c.args.high = search rules in
    let ends = is_clip (to_z w32 (of_z w32 c.args.low)) (to_z w32 (of_z w32 c.args.high)) in
    rw (low_is, high_is) at (none_left ends c.args.frame.now c.loop-x.x-index c.loop-x.count _ c.loop-x-test.false c.loop-x.invariant.so_far)
