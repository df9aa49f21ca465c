use Rattle.std.proofs.Common.{◌<◌, ◌^◌, arith}
use Rattle.std.proofs.Math.Nat.{div-le_self}
use Rattle.snd_edits.proofs.Public.{few_given_frames as few_frames}
use Rattle.snd_frames.proofs.growth.end_of_write.Goals as goal

pub overflow_add-end : goal.overflow_add-end
overflow_add-end c =
    let h = c.args.layout.now in
    let few : h.frames < 2 ^ 63 = few_frames h c.requires.linear (omega (arith, c.channels_of-channels.ensures.value, c.channels_of-channels.ensures.some)) c.keeps_rule.ensures.data_end in
    omega (arith, few, div-le_self c.count_given-numbers.result c.channels_of-channels.result, c.count_given-numbers.ensures.few, c.requires.placed)
