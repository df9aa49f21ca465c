use Rattle.std.proofs.Common.{◌≡◌, drop, length, map, take}
use Rattle.snd_rack.specs.Boxes.{suffice}
use Rattle.snd_rack.specs.Stage.{kind_of}
use Rattle.snd_rack.proofs.boxes.choose.Given as goal

abbrev pub invariant-loop-at : goal.invariant-loop-at
invariant-loop-at g l = record {
  chosen : take l.at (map (λ b. ((goal.Stage-dyn g (b.vtable, b.value)).stage b.value).kind) l.stages) ≡ take l.at (map kind_of l.spec);
  left : suffice (drop l.at (map kind_of l.spec)) (drop l.at (map (λ b. ((goal.Stage-dyn g (b.vtable, b.value)).stage b.value).kind) l.stages))
      ≡ suffice (map kind_of l.spec) (map (λ b. ((goal.Stage-dyn g (b.vtable, b.value)).stage b.value).kind) l.fn.stages);
  same : length l.stages ≡ length l.fn.stages;
}
