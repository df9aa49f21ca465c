use Rattle.std.proofs.Common.{◌*◌, ◌+◌, ◌<◌, ℕ}
use Rattle.snd_interleave.specs.Held.{KeepsPairs, SamePair, pairs_in}
use Rattle.snd_interleave.proofs.pairs.put_pairs.Given as goal

abbrev pub invariant-loop-i : goal.invariant-loop-i
invariant-loop-i l = record {
  put : (j : ℕ) → j < l.i → SamePair l.block (j * l.channels + l.which) l.pairs j;
  others : KeepsPairs l.channels l.which (pairs_in l.pairs) l.initial.block l.block;
}
