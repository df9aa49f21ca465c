use Rattle.std.proofs.Common.{◌≡◌, ◌+◌, drop}
use Rattle.std.specs.List.{position_or_len}
use Rattle.snd_metadata.specs.Planned.{names_extension}
use Rattle.snd_metadata.proofs.chunks.extension_place.Given as goal

abbrev pub invariant-loop-at : goal.invariant-loop-at
invariant-loop-at l = l.at + position_or_len names_extension (drop l.at l.plan) ≡ position_or_len names_extension l.plan
