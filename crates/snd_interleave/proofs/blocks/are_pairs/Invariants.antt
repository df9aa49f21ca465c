use Rattle.snd_interleave.specs.Held.{HaveCodec}
use Rattle.snd_interleave.proofs.blocks.are_pairs.Given as goal

abbrev pub invariant-loop-input : goal.invariant-loop-input
invariant-loop-input g l = HaveCodec l.input-index l.codec l.inputs
