use Rattle.std.proofs.Common.{arith}
use Rattle.snd_interleave.proofs.Inputs.{all_unread}
use Rattle.snd_interleave.proofs.Places.{most_in_block, most_samples}
use Rattle.snd_interleave.proofs.blocks.add_all.Goals as goal

pub overflow_mul-MOST : goal.overflow_mul-MOST
overflow_mul-MOST g c = omega (arith, most_samples c.MOST-3.result c.numbers_of-channels.result.0 (omega (arith, c.MOST-3.ensures, g.met.U.Held.few)) c.numbers_of-channels.ensures.most)

pub places_for-requires-3 : goal.places_for-requires-3
places_for-requires-3 g c = omega (arith, most_in_block g.U.Held.PER c.MOST-3.result c.numbers_of-channels.result.0 g.met.U.Held.small (omega (arith, c.MOST-3.ensures, g.met.U.Held.few)) c.numbers_of-channels.ensures.most)

pub returns-in_err-block-clause-reads : goal.returns-in_err-block-clause-reads
returns-in_err-block-clause-reads g c = all_unread g.D.Disk c.args.inputs.now
