use Rattle.std.proofs.Common.{rules}
use Rattle.snd_block_writer.proofs.Sizes.{ima_block_size, ms_block_size}
use Rattle.snd_block_writer.proofs.block.encode.Goals as goal

pub returns-in-Ima-clause-size : goal.returns-in-Ima-clause-size
returns-in-Ima-clause-size c =
    ima_block_size c.args.params c.in-Ima.align c.in-Ima.per_block c.args.ima.now c.args.numbers.now c.encode.new.into.items c.requires.form c.requires.whole (search (rules, c.in-Ima.is)) (search (rules, c.encode.ensures.bytes))

pub returns-in-Ms-clause-size : goal.returns-in-Ms-clause-size
returns-in-Ms-clause-size c =
    ms_block_size c.args.params c.in-Ms.align c.in-Ms.per_block c.args.ima.now c.args.numbers.now c.encode-in-Ms.new.into.items c.requires.form c.requires.whole (search (rules, c.in-Ms.is)) (search (rules, c.encode-in-Ms.ensures))
