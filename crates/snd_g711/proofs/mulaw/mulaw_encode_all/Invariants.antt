use Rattle.std.proofs.Common.{◌≡◌, ◌++◌, take, drop, map}
use Rattle.snd_g711.specs.Mulaw.{mulaw_byte}
use Rattle.snd_g711.proofs.mulaw.mulaw_encode_all.Given as goal

abbrev pub invariant-loop-i : goal.invariant-loop-i
invariant-loop-i l = take l.i l.bytes ++ map mulaw_byte (drop l.i l.from) ≡ map mulaw_byte l.from
