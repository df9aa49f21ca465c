use Rattle.std.proofs.Common.{◌≡◌, ◌≤◌, ◌<◌, ℕ, false, drop}
use Rattle.snd_search.specs.Marks.{begins}
use Rattle.snd_search.proofs.mark.place_of.Given as goal

abbrev pub invariant-loop-place : goal.invariant-loop-place
invariant-loop-place l = (i : ℕ) → l.from ≤ i → i < l.place → begins l.mark (drop i l.bytes) ≡ false
