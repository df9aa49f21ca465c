use Rattle.std.proofs.Common.{◌≡◌, drop}
use Rattle.snd_words.specs.Metadata.{are_distinct, option_pairs, options_in}
use Rattle.snd_words.proofs.pairs.are_distinct.Given as goal

abbrev pub invariant-loop-at : goal.invariant-loop-at
invariant-loop-at l = are_distinct (drop l.at (options_in (option_pairs (drop 1 l.words)))) ≡ are_distinct (options_in (option_pairs (drop 1 l.words)))
