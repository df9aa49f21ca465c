use Rattle.snd_blocks.proofs.Parameters.{keeps_blocks}
use Rattle.snd_blocks.proofs.block.keeps_blocks.Goals as goal

pub returns : goal.returns
returns c = keeps_blocks c.args.layout.now.kind c.args.layout.now.params c.requires c.keeps_rules.ensures.rule.fits c.keeps_rules.ensures.params
