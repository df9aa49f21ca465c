use Rattle.std.proofs.Common.{◌≡◌, ◌++◌, map, pos, ◌*ℤ◌, take}
use Rattle.snd_pcm.specs.Width.{floor_div}
use Rattle.snd_rack.proofs.samples.push_risen.Given as goal

abbrev pub invariant-loop-x : goal.invariant-loop-x
invariant-loop-x l = l.into.items ≡ l.fn.into.items ++ map (λ x. floor_div (x *ℤ pos l.i) l.count) (take l.x-index l.frame)
