use Rattle.std.proofs.Common.{◌≡◌, ◌++◌, drop, map, take, pos, ◌*ℤ◌}
use Rattle.snd_pcm.specs.Width.{floor_div}
use Rattle.snd_rack.specs.Stage.{clamped}
use Rattle.snd_rack.proofs.samples.divide_short.Given as goal

abbrev pub invariant-loop-x : goal.invariant-loop-x
invariant-loop-x l = l.samples ≡ map (λ x. clamped l.low l.high (floor_div (x *ℤ pos l.a) l.b)) (take l.x-index l.fn.samples) ++ drop l.x-index l.fn.samples
