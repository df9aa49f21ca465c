use Rattle.std.proofs.Common.{◌≡◌, ◌++◌, drop, map, take, neg_ℤ}
use Rattle.snd_rack.specs.Stage.{clamped}
use Rattle.snd_rack.proofs.samples.negate.Given as goal

abbrev pub invariant-loop-x : goal.invariant-loop-x
invariant-loop-x l = l.samples ≡ map (λ x. clamped l.low l.high (neg_ℤ x)) (take l.x-index l.fn.samples) ++ drop l.x-index l.fn.samples
