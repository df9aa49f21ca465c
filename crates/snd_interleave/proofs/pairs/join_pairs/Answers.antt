use Rattle.std.proofs.Common.{refl}
use Rattle.snd_interleave.proofs.Joined.{frame_joined}
use Rattle.snd_interleave.proofs.pairs.join_pairs.Goals as goal

pub loop-i-preserved : goal.loop-i-preserved
loop-i-preserved c =
    frame_joined c.args.left.now c.args.right.now _ _ _ c.loop-i.i _ refl c.frame_of.ensures c.put_frame.ensures.left c.put_frame.ensures.right c.put_frame.ensures.others c.loop-i.invariant
