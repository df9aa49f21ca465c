use Rattle.std.proofs.Common.{◌≡◌, ◌*◌, ◌/◌, ◌≤◌, take, drop, map, length}
use Rattle.snd_pcm.specs.Groups.{groups}
use Rattle.snd_rack.specs.Passing.{AllHaveRoom, EachMayPass, each_passed, joined, next_by}
use Rattle.snd_rack.proofs.passing.pass_block.Given as goal

abbrev pub invariant-loop-each : goal.invariant-loop-each
invariant-loop-each g l = record {
  so_far : map (λ b. (goal.Stage-dyn g (b.vtable, b.value)).stage b.value) (take l.each-index l.stages)
      ≡ map (λ b. next_by l.frames ((goal.Stage-dyn g (b.vtable, b.value)).stage b.value)) (take l.each-index l.fn.stages);
  rest : drop l.each-index l.stages ≡ drop l.each-index l.fn.stages;
  same_length : length l.stages ≡ length l.fn.stages;
  size : length l.block.items ≡ l.frames * (length l.block.items / l.frames);
  some : 1 ≤ length l.block.items / l.frames;
  most : length l.block.items / l.frames ≤ 256;
  block : joined (each_passed (map (λ b. (goal.Stage-dyn g (b.vtable, b.value)).stage b.value) (drop l.each-index l.fn.stages)) (groups (length l.block.items / l.frames) l.block.items))
      ≡ joined (each_passed (map (λ b. (goal.Stage-dyn g (b.vtable, b.value)).stage b.value) l.fn.stages) (groups l.channels l.fn.block.items));
  may : EachMayPass (map (λ b. (goal.Stage-dyn g (b.vtable, b.value)).stage b.value) (drop l.each-index l.fn.stages)) (groups (length l.block.items / l.frames) l.block.items);
  room : AllHaveRoom (map (λ b. (goal.Stage-dyn g (b.vtable, b.value)).stage b.value) (drop l.each-index l.fn.stages)) (length l.block.items / l.frames) l.frames;
}
