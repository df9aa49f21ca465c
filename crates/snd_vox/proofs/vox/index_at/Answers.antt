use Rattle.std.proofs.Common.{◌∙◌}
use Rattle.snd_vox.specs.Vox.{vox_index}
use Rattle.snd_vox.proofs.Steps.{index_entry, index_least, index_most}
use Rattle.snd_vox.proofs.vox.index_at.Goals as goal

pub returns-clause-value : goal.returns-clause-value
unfolding vox_index
returns-clause-value c = c.from-2.ensures ∙ index_entry c.args.index c.args.code c.from.result c.requires.index c.requires.code c.from.ensures

pub returns-clause-least : goal.returns-clause-least
returns-clause-least c = index_least c.args.index c.args.code c.from-2.result (returns-clause-value c)

pub returns-clause-most : goal.returns-clause-most
returns-clause-most c = index_most c.args.index c.args.code c.from-2.result (returns-clause-value c)
