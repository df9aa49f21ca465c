use Rattle.std.proofs.Common.{◌≤◌, ◌<◌, ◌^◌, arith}
use Rattle.snd_rack.proofs.Block.{full_as}
use Rattle.snd_rack.proofs.samples.rise_block.Goals as goal

pub returns-else-first-from : goal.returns-else-first-from
returns-else-first-from c =
    let past : c.args.count ≤ c.args.first = omega arith in
    let few : c.args.count < 2 ^ 32 = omega arith in
    full_as c.args.count c.args.first c.args.channels c.args.block.now.items past few c.requires.some c.requires.whole
