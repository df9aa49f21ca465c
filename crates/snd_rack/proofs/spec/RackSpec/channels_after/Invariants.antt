use Rattle.std.proofs.Common.{◌≡◌, drop}
use Rattle.snd_rack.specs.Rack.{channels_after}
use Rattle.snd_rack.proofs.spec.RackSpec.channels_after.Given as goal

abbrev pub invariant-loop-at : goal.invariant-loop-at
invariant-loop-at l = channels_after (drop l.at l.self) l.count ≡ channels_after l.self l.channels
