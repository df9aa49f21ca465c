use Rattle.std.proofs.Common.{◌≡◌, ◌++◌, take, drop, map}
use Rattle.snd_g711.specs.Alaw.{alaw_byte}
use Rattle.snd_g711.proofs.alaw.alaw_encode_all.Given as goal

abbrev pub invariant-loop-i : goal.invariant-loop-i
invariant-loop-i l = take l.i l.bytes ++ map alaw_byte (drop l.i l.from) ≡ map alaw_byte l.from
