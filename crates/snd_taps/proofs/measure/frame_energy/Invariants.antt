use Rattle.std.proofs.Common.{◌≡◌, ◌≤◌, ◌+◌, ◌*◌, ◌^◌, drop}
use Rattle.std.specs.Prelude.{fold}
use Rattle.snd_taps.specs.Measure.{square, energy_of}
use Rattle.snd_taps.proofs.measure.frame_energy.Given as goal

abbrev pub invariant-loop-x : goal.invariant-loop-x
invariant-loop-x l = record {
  so_far : fold (λ a x. a + square x) l.sum (drop l.x-index l.frame) ≡ energy_of l.frame;
  most : l.sum ≤ l.x-index * 2 ^ 62;
}
