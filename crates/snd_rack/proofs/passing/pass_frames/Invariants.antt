use Rattle.std.proofs.Common.{◌≡◌, ◌*◌, ◌/◌, ◌%◌, ◌++◌, map, length}
use Rattle.snd_pcm.specs.Groups.{groups}
use Rattle.snd_rack.specs.Passing.{EachMayPass, each_passed, joined, later}
use Rattle.snd_rack.proofs.passing.pass_frames.Given as goal

abbrev pub invariant-loop-samples : goal.invariant-loop-samples
invariant-loop-samples g l = record {
  size : l.samples-iterator.size ≡ 64 * l.channels;
  whole : length l.samples-iterator.rest.now % l.channels ≡ 0;
  frames : l.into.items ++ joined (each_passed (map (λ b. (goal.Stage-dyn g (b.vtable, b.value)).stage b.value) l.stages) (groups l.channels l.samples-iterator.rest.now))
      ≡ joined (each_passed (map (λ b. (goal.Stage-dyn g (b.vtable, b.value)).stage b.value) l.fn.stages) (groups l.channels l.numbers));
  states : later (length l.samples-iterator.rest.now / l.channels) (map (λ b. (goal.Stage-dyn g (b.vtable, b.value)).stage b.value) l.stages)
      ≡ later (length l.numbers / l.channels) (map (λ b. (goal.Stage-dyn g (b.vtable, b.value)).stage b.value) l.fn.stages);
  may : EachMayPass (map (λ b. (goal.Stage-dyn g (b.vtable, b.value)).stage b.value) l.stages) (groups l.channels l.samples-iterator.rest.now);
}
