use Rattle.std.proofs.Common.{length}
use Rattle.snd_interleave.specs.Beside.{HasChannel, KeepsChannels}
use Rattle.snd_interleave.proofs.numbers.put_numbers.Given as goal

abbrev pub invariant-loop-i : goal.invariant-loop-i
invariant-loop-i l = record {
  put : HasChannel l.channels l.which l.i l.numbers l.block;
  others : KeepsChannels l.channels l.which (length l.numbers) l.initial.block l.block;
}
