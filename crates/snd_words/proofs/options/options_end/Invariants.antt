use Rattle.std.proofs.Common.{◌≡◌, ◌+◌, drop}
use Rattle.snd_words.specs.Options.{option_count}
use Rattle.snd_words.proofs.options.options_end.Given as goal

abbrev pub invariant-loop-at : goal.invariant-loop-at
invariant-loop-at l = l.at + option_count (drop l.at l.words) ≡ 1 + option_count (drop 1 l.words)
