use Rattle.std.proofs.Common.{◌+◌, ◌*◌, refl, arith}
use Rattle.snd_interleave.proofs.Joined.{frame_joined}
use Rattle.snd_interleave.proofs.pairs.join_fours.Goals as goal

pub loop-i-preserved : goal.loop-i-preserved
loop-i-preserved c =
    let left = c.args.left.now in
    let right = c.args.right.now in
    let i = c.loop-i.i in
    let one = frame_joined left right _ _ _ (4 * i) (4 * i + 1) refl c.frame_of-first.ensures c.put_frame.ensures.left c.put_frame.ensures.right c.put_frame.ensures.others c.loop-i.invariant in
    let two = frame_joined left right _ _ _ (4 * i + 1) (4 * i + 2) (omega arith) c.frame_of-second.ensures c.put_frame-in-loop-i.ensures.left c.put_frame-in-loop-i.ensures.right c.put_frame-in-loop-i.ensures.others one in
    let three = frame_joined left right _ _ _ (4 * i + 2) (4 * i + 3) (omega arith) c.frame_of-third.ensures c.put_frame-in-loop-i-2.ensures.left c.put_frame-in-loop-i-2.ensures.right c.put_frame-in-loop-i-2.ensures.others two in
    frame_joined left right _ _ _ (4 * i + 3) (4 * (i + 1)) (omega arith) c.frame_of-fourth.ensures c.put_frame-in-loop-i-3.ensures.left c.put_frame-in-loop-i-3.ensures.right c.put_frame-in-loop-i-3.ensures.others three
