use Rattle.std.proofs.Common.{◌≡◌, rules, to_z, of_z, w32}
use Rattle.snd_pcm.proofs.blocks.in_range.Goals as goal

pub returns-in-S32 : goal.returns-in-S32
returns-in-S32 c = rw c.in-S32.is (c.are_between.ensures)

pub returns-in_default : goal.returns-in_default
returns-in_default c =
    let low_is : to_z w32 (of_z w32 c.low.result) ≡ c.low.result = search rules in
    let high_is : to_z w32 (of_z w32 c.high.result) ≡ c.high.result = search rules in
    rw (low_is, high_is, c.low.ensures, c.high.ensures) at c.are_between-in_default.ensures
