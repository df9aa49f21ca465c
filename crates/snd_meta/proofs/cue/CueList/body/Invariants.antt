use Rattle.std.proofs.Common.{◌≡◌, ◌++◌, drop}
use Rattle.std.specs.List.{flat_map}
use Rattle.snd_meta.specs.Cue.{point_bytes, cue_body}
use Rattle.snd_meta.proofs.cue.CueList.body.Given as goal

abbrev pub invariant-loop-point : goal.invariant-loop-point
invariant-loop-point l = l.body.items ++ flat_map point_bytes (drop l.point-index l.point-items) ≡ cue_body l.self
