use Rattle.std.proofs.Common.{rules}
use Rattle.snd_ima_adpcm.specs.Step.{step_size, step_sizes}
use Rattle.snd_ima_adpcm.proofs.Steps.{step_size_most}
use Rattle.snd_ima_adpcm.proofs.step.step_at.Goals as goal

pub returns-clause-value : goal.returns-clause-value
unfolding step_size step_sizes
returns-clause-value c = search rules

pub returns-clause-most : goal.returns-clause-most
unfolding step_size step_sizes
returns-clause-most c = search (rules, step_size_most c.args.index c.requires)
