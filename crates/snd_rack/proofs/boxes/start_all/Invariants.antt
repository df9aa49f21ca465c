use Rattle.std.proofs.Common.{◌≡◌, drop, length, map, take}
use Rattle.snd_rack.specs.Passing.{held_as}
use Rattle.snd_rack.proofs.boxes.start_all.Given as goal

abbrev pub invariant-loop-at : goal.invariant-loop-at
invariant-loop-at g l = record {
  so_far : map (λ b. (goal.Stage-dyn g (b.vtable, b.value)).stage b.value) (take l.at l.stages) ≡ map (held_as l.low l.high 0) (take l.at l.spec);
  rest : drop l.at l.stages ≡ drop l.at l.fn.stages;
  same_length : length l.stages ≡ length l.fn.stages;
}
