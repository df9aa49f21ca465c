use Rattle.std.proofs.Common.{◌≡◌, ◌+◌, ◌++◌, drop}
use Rattle.snd_meta.specs.Cue.{named}
use Rattle.snd_meta.proofs.cue.CueList.from_places.Given as goal

abbrev pub invariant-loop-i : goal.invariant-loop-i
invariant-loop-i l = l.points.items ++ named (l.i + 1) (drop l.i l.places) ≡ named 1 l.places
