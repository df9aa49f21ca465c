use Rattle.std.proofs.Common.{◌≡◌}
use Rattle.std.specs.List.{list_all, slice_range}
use Rattle.snd_words.specs.Names.{is_name}
use Rattle.snd_words.proofs.names.Names.between.Given as goal

abbrev pub invariant-loop-at : goal.invariant-loop-at
invariant-loop-at l = list_all is_name (slice_range l.words l.at l.end) ≡ list_all is_name (slice_range l.words l.first l.end)
