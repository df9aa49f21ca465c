use Rattle.std.proofs.Common.{◌↔◌, ◌≤ℤ◌, All, take}
use Rattle.snd_pcm.proofs.blocks.are_between.Given as goal

abbrev pub invariant-loop-x : goal.invariant-loop-x
invariant-loop-x l = ((l.low ≤ℤ l.least) × (l.greatest ≤ℤ l.high)) ↔ All (λ x. (l.low ≤ℤ x) × (x ≤ℤ l.high)) (take l.x-index l.from)
