use Rattle.std.proofs.Common.{◌≡◌, drop, map}
use Rattle.snd_rack.specs.Boxes.{count_of}
use Rattle.snd_rack.proofs.boxes.find.Given as goal

abbrev pub invariant-loop-at : goal.invariant-loop-at
invariant-loop-at g l = count_of l.kind (drop l.at (map (λ b. ((goal.Stage-dyn g (b.vtable, b.value)).stage b.value).kind) l.stages))
    ≡ count_of l.kind (drop l.from (map (λ b. ((goal.Stage-dyn g (b.vtable, b.value)).stage b.value).kind) l.stages))
