use Rattle.std.proofs.Common.{◌≡◌, ◌++◌, take, drop, map}
use Rattle.snd_g711.specs.Mulaw.{mulaw_value}
use Rattle.snd_g711.proofs.mulaw.mulaw_decode_all.Given as goal

abbrev pub invariant-loop-i : goal.invariant-loop-i
invariant-loop-i l = take l.i l.into ++ map mulaw_value (drop l.i l.bytes) ≡ map mulaw_value l.bytes
