use Rattle.std.proofs.Common.{◌≡◌, ◌-◌, length, find}
use Rattle.std.specs.List.{range_with_len}
use Rattle.snd_deinterleave.specs.Deinterleave.{first_same, is_same_at}
use Rattle.snd_deinterleave.proofs.names.first_same.Given as goal

abbrev pub invariant-loop-at : goal.invariant-loop-at
invariant-loop-at l = find (is_same_at l.input l.outputs) (range_with_len l.at (length l.outputs - l.at)) ≡ first_same l.input l.outputs
