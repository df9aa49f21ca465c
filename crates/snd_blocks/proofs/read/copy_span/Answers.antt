use Rattle.std.proofs.Common.{◌+◌, arith}
use Rattle.snd_blocks.proofs.Places.{part_of_product}
use Rattle.snd_blocks.proofs.read.copy_span.Goals as goal

pub overflow_add-last : goal.overflow_add-last
overflow_add-last c = omega (arith, part_of_product c.args.channels (c.args.span.skipped + c.args.span.count) c.requires.some)

pub overflow_add-to : goal.overflow_add-to
overflow_add-to c = omega (arith, part_of_product c.args.channels (c.args.span.done + c.args.span.count) c.requires.some)
