use Rattle.std.proofs.Common.{length, sym, ap, ◌∙◌}
use Rattle.snd_words.specs.Metadata.{stated_pair}
use Rattle.snd_words.proofs.Coupled.{length_all}
use Rattle.snd_words.proofs.pairs.MetadataSettings.len.Goals as goal

pub returns : goal.returns
returns c = c.self.invariant.all ∙ sym (length_all stated_pair _ _ c.self.invariant.known) ∙ ap length c.self.view_is
