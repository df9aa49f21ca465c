use Rattle.std.proofs.Common.{◌∙◌, refl}
use Rattle.snd_ima_adpcm.specs.Step.{step_size, step_sizes}
use Rattle.snd_ima_adpcm.proofs.Steps.{next_step_entry, next_step_most}
use Rattle.snd_ima_adpcm.proofs.step.next_step_at.Goals as goal

pub returns-clause-value : goal.returns-clause-value
unfolding step_size step_sizes
returns-clause-value c = c.from.ensures ∙ next_step_entry c.args.index c.args.code c.args.code c.requires.index c.requires.code refl

pub returns-clause-most : goal.returns-clause-most
unfolding step_size step_sizes
returns-clause-most c = next_step_most c.args.index c.args.code c.from.result (c.from.ensures ∙ next_step_entry c.args.index c.args.code c.args.code c.requires.index c.requires.code refl)
