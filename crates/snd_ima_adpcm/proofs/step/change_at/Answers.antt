use Rattle.snd_ima_adpcm.specs.Step.{change, step_size, step_sizes}
use Rattle.snd_ima_adpcm.proofs.Steps.{change_entry, entry_least, entry_most}
use Rattle.snd_ima_adpcm.proofs.step.change_at.Goals as goal

pub returns-clause-value : goal.returns-clause-value
unfolding change step_size step_sizes
returns-clause-value c = change_entry c.args.index c.args.code c.from.result c.requires.index c.requires.code c.from.ensures

pub returns-clause-least : goal.returns-clause-least
unfolding change step_size step_sizes
returns-clause-least c = entry_least c.args.index c.args.code c.from.result c.requires.index c.requires.code c.from.ensures

pub returns-clause-most : goal.returns-clause-most
unfolding change step_size step_sizes
returns-clause-most c = entry_most c.args.index c.args.code c.from.result c.requires.index c.requires.code c.from.ensures
