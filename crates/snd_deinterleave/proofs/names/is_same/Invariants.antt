use Rattle.std.proofs.Common.{◌≡◌, take}
use Rattle.std.specs.List.{list_any, slice_range}
use Rattle.std.specs.Str.{bytes_eq}
use Rattle.snd_deinterleave.proofs.names.is_same.Given as goal

abbrev pub invariant-loop-at : goal.invariant-loop-at
invariant-loop-at l = list_any (bytes_eq l.name) (slice_range l.outputs l.at l.end) ≡ list_any (bytes_eq l.name) (take l.end l.outputs)
