use Rattle.std.proofs.Common.{◌≡◌, drop, max}
use Rattle.snd_interleave.specs.Channels.{layouts_of, most_frames}
use Rattle.snd_interleave.proofs.judge.most_frames.Given as goal

abbrev pub invariant-loop-input : goal.invariant-loop-input
invariant-loop-input g l = max l.most (most_frames (layouts_of (drop l.input-index l.inputs))) ≡ most_frames (layouts_of l.inputs)
