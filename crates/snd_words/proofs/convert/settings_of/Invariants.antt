use Rattle.std.proofs.Common.{◌≡◌}
use Rattle.std.specs.List.{slice_range}
use Rattle.std.specs.Option.{option_and_then}
use Rattle.snd_words.specs.Convert.{setting_of, settings_of, settled_on}
use Rattle.snd_words.specs.Options.{all_of}
use Rattle.snd_words.proofs.convert.settings_of.Given as goal

abbrev pub invariant-loop-at : goal.invariant-loop-at
invariant-loop-at l = option_and_then (settled_on l.settings) (all_of setting_of (slice_range l.words l.at l.end)) ≡ settings_of (slice_range l.words 1 l.end)
