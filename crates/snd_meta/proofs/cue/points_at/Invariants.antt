use Rattle.std.proofs.Common.{◌≡◌, ◌≤◌, ◌-◌, ◌*◌, ◌++◌, length}
use Rattle.snd_meta.specs.Cue.{points_of}
use Rattle.snd_meta.proofs.cue.points_at.Given as goal

abbrev pub invariant-loop : goal.invariant-loop
invariant-loop l = record {
  so_far : l.points.items ++ points_of (l.count - l.counter) l.rest ≡ points_of l.count l.bytes;
  room : 24 * (l.count - l.counter) ≤ length l.rest;
}
