use Rattle.std.proofs.Common.{◌∙◌, refl}
use Rattle.snd_ima_adpcm.proofs.Steps.{next_index_entry}
use Rattle.snd_ima_adpcm.proofs.step.next_index_at.Goals as goal

pub returns : goal.returns
returns c = c.from.ensures ∙ next_index_entry c.args.index c.args.code c.args.code c.requires.index c.requires.code refl
