use Rattle.std.proofs.Common.{◌≡◌, drop}
use Rattle.std.specs.List.{list_any}
use Rattle.std.specs.Str.{bytes_eq}
use Rattle.snd_words.specs.Metadata.{option_pairs, options_in}
use Rattle.snd_words.proofs.pairs.has_option_from.Given as goal

abbrev pub invariant-loop-later : goal.invariant-loop-later
invariant-loop-later l =
    list_any (bytes_eq l.option) (drop l.later (options_in (option_pairs (drop 1 l.words))))
    ≡ list_any (bytes_eq l.option) (drop l.at (options_in (option_pairs (drop 1 l.words))))
