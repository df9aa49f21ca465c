use Rattle.std.proofs.Common.{◌∙◌}
use Rattle.snd_words.proofs.Coupled.{option_words}
use Rattle.snd_words.proofs.pairs.option_at.Goals as goal

pub returns : goal.returns
returns c = c.get.ensures ∙ option_words c.args.words.now c.args.at c.requires.there
