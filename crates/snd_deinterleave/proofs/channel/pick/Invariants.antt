use Rattle.snd_deinterleave.specs.Passing.{ArePicked}
use Rattle.snd_deinterleave.proofs.channel.pick.Given as goal

abbrev pub invariant-loop-j : goal.invariant-loop-j
invariant-loop-j l = ArePicked l.channels l.which l.block l.into l.j
