use Rattle.std.proofs.Common.{rules, ◌<◌, ◌^◌, length, arith}
use Rattle.std.proofs.Math.Nat.{div-le_self}
use Rattle.snd_edits.proofs.Public.{few_frames}
use Rattle.snd_frames.proofs.encoding.end_of_encode.Goals as goal

pub overflow_add-end : goal.overflow_add-end
overflow_add-end c =
    let h = c.args.layout.now in
    let few = few_frames h c.keeps_rules.ensures.rule c.requires.place.blocks c.keeps_rules.ensures.params c.args.place c.requires.place.fits.in_room in
    let less = div-le_self (length c.args.from.now) c.channels_of-channels.result in
    let size : length c.args.from.now < 2 ^ 63 = search rules in
    omega (arith, few, less, size)
