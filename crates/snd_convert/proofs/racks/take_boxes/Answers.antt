use Rattle.std.proofs.Common.{◌≤◌, arith}
use Rattle.snd_convert.proofs.Behind.{few_after}
use Rattle.snd_convert.proofs.racks.take_boxes.Goals as goal

pub overflow_cast-result : goal.overflow_cast-result
overflow_cast-result g c =
    let count : c.from-count.result ≤ 256 = omega (arith, c.from-count.ensures, c.requires) in
    omega (arith, c.channels_after.ensures, few_after _ c.from-count.result c.are_settled.ensures count)
