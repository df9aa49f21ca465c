use Rattle.std.proofs.Common.{◌≡◌, ◌<◌, ℕ, get_or}
use Rattle.snd_interleave.proofs.numbers.put_zeros.Given as goal

abbrev pub invariant-loop-held : goal.invariant-loop-held
invariant-loop-held g l = (k : ℕ) → k < l.held-index → get_or l.held-items k l.zero ≡ l.zero
