use Rattle.std.proofs.Common.{arith}
use Rattle.snd_meta.specs.Info.{size_of}
use Rattle.snd_meta.proofs.Items.{item_cut}
use Rattle.snd_meta.proofs.info.item_at.Goals as goal

pub returns-clause-item : goal.returns-clause-item
unfolding size_of
returns-clause-item c =
    item_cut c.args.bytes.now c.split_at.result.0.now c.split_at.result.1.now c.split_at-2.result.0.now c.split_at-2.result.1.now c.until_zero.result.now
    c.u32_at-size.result c.min-pad.result c.u32_at-size.ensures c.split_at.ensures.front c.split_at.ensures.back c.split_at-2.ensures.front c.split_at-2.ensures.back
    c.until_zero.ensures c.min-pad.ensures (omega arith)

pub returns-then-rest-size-clause-cut : goal.returns-then-rest-size-clause-cut
unfolding size_of
returns-then-rest-size-clause-cut c = omega arith
