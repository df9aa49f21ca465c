use Rattle.std.proofs.Common.{◌≡◌, drop}
use Rattle.snd_rack.specs.Rack.{bad_place}
use Rattle.snd_rack.proofs.spec.RackSpec.bad_place.Given as goal

abbrev pub invariant-loop-at : goal.invariant-loop-at
invariant-loop-at l = bad_place (drop l.at l.self) l.count ≡ bad_place l.self l.channels
