use Rattle.std.proofs.Common.{◌≡◌, ◌++◌, take, drop, map}
use Rattle.snd_g711.specs.Alaw.{alaw_value}
use Rattle.snd_g711.proofs.alaw.alaw_decode_all.Given as goal

abbrev pub invariant-loop-i : goal.invariant-loop-i
invariant-loop-i l = take l.i l.into ++ map alaw_value (drop l.i l.bytes) ≡ map alaw_value l.bytes
