use Rattle.std.proofs.Common.{◌≡◌, max, nat_abs, drop}
use Rattle.std.specs.Prelude.{fold}
use Rattle.snd_taps.specs.Measure.{peak_of}
use Rattle.snd_taps.proofs.measure.frame_peak.Given as goal

abbrev pub invariant-loop-x : goal.invariant-loop-x
invariant-loop-x l = fold (λ most x. max most (nat_abs x)) l.most (drop l.x-index l.frame) ≡ peak_of l.frame
