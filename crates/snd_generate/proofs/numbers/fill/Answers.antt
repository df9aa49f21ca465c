use Rattle.std.proofs.Common.{◌≡◌, ◌∙◌, ◌<◌, length, to_z, of_z, w32, rules}
use Rattle.snd_generate.proofs.Generator.{one_filled, one_stepped}
use Rattle.snd_generate.proofs.numbers.fill.Goals as goal

pub loop-number-preserved : goal.loop-number-preserved
loop-number-preserved c =
    let i = c.loop-number.number-index in
    let within : i < length c.loop-number.block = search rules in
    let made : to_z w32 (of_z w32 c.number_of.result) ≡ c.number_of.result = search rules in
    record {
      so_far = one_filled c.loop-number.block _ i c.loop-number.last c.next-last.result _ within c.next-last.ensures.value (made ∙ c.number_of.ensures.value) c.loop-number.invariant.so_far;
      state = one_stepped c.loop-number.block i c.loop-number.last c.next-last.result _ _ within c.next-last.ensures.value c.loop-number.invariant.state;
      small = c.next-last.ensures.small;
    }
