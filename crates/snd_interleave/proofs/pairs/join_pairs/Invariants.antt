use Rattle.snd_interleave.specs.Held.{AreJoined}
use Rattle.snd_interleave.proofs.pairs.join_pairs.Given as goal

abbrev pub invariant-loop-i : goal.invariant-loop-i
invariant-loop-i l = AreJoined l.i l.left l.right l.block
