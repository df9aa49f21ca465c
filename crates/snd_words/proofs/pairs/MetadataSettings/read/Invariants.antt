use Rattle.std.proofs.Common.{◌≡◌, drop}
use Rattle.std.specs.Option.{is_some}
use Rattle.snd_words.specs.Metadata.{all_stated, option_pairs}
use Rattle.snd_words.proofs.pairs.MetadataSettings.read.Given as goal

abbrev pub invariant-loop-at : goal.invariant-loop-at
invariant-loop-at l = is_some (all_stated (drop l.at (option_pairs (drop 1 l.words)))) ≡ is_some (all_stated (option_pairs (drop 1 l.words)))
