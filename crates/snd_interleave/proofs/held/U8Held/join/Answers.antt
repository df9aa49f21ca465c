use Rattle.std.proofs.Common.{◌≡◌, ◌*◌, length, arith}
use Rattle.snd_interleave.proofs.PairNumbers.{channel_put}
use Rattle.snd_interleave.proofs.held.U8Held.join.Goals as goal

pub returns-clause-left : goal.returns-clause-left
returns-clause-left c = λ codec served.
    let size : length c.join_pairs.new.block ≡ length c.args.left.now * 2 = omega (arith, c.join_pairs.auto.block, c.requires.room, c.requires.size) in
    channel_put codec served.0 2 0 c.args._count c.args.left.now c.join_pairs.new.block (omega arith) c.requires.size size c.join_pairs.ensures.left

pub returns-clause-right : goal.returns-clause-right
returns-clause-right c = λ codec served.
    let size : length c.join_pairs.new.block ≡ length c.args.right.now * 2 = omega (arith, c.join_pairs.auto.block, c.requires.room, c.requires.alike) in
    channel_put codec served.0 2 1 c.args._count c.args.right.now c.join_pairs.new.block (omega arith) c.requires.alike size c.join_pairs.ensures.right
