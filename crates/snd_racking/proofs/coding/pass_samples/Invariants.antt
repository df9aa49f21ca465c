use Rattle.std.proofs.Common.{◌-◌, ◌≡◌, ◌*◌, ◌≤◌, map, take}
use Rattle.snd_rack.specs.Passing.{later}
use Rattle.snd_racking.specs.Appending.{passed_bytes}
use Rattle.snd_racking.proofs.coding.pass_samples.Given as goal

abbrev pub invariant-loop-at : goal.invariant-loop-at
invariant-loop-at g l = record {
  within : l.at ≤ l.frames;
  coded : take (l.at * l.to_align) l.coded ≡ passed_bytes l.from l.to (map (λ b. (goal.Stage-dyn g (b.vtable, b.value)).stage b.value) l.fn.stages) (take (l.at * l.align) l.bytes);
  states : map (λ b. (goal.Stage-dyn g (b.vtable, b.value)).stage b.value) l.stages ≡ later l.at (map (λ b. (goal.Stage-dyn g (b.vtable, b.value)).stage b.value) l.fn.stages);
}

abbrev pub decreases-loop-at : goal.decreases-loop-at
decreases-loop-at g l = l.frames - l.at
