use Rattle.std.proofs.Common.{◌≡◌, drop}
use Rattle.snd_interleave.specs.Channels.{layouts_of}
use Rattle.snd_interleave.specs.Interleave.{first_misfit}
use Rattle.snd_interleave.proofs.judge.first_misfit.Given as goal

abbrev pub invariant-loop-at : goal.invariant-loop-at
invariant-loop-at g l = first_misfit l.first (drop l.at l.names) (layouts_of (drop l.at l.inputs)) ≡ first_misfit l.first l.names (layouts_of l.inputs)
