use Rattle.std.proofs.Common.{◌≡◌, ◌++◌, take, drop, map}
use Rattle.snd_recode.specs.Factors.{alaw_factor, alaw_halves}
use Rattle.snd_recode.proofs.alaw.put_parts.Given as goal

abbrev pub invariant-loop-i : goal.invariant-loop-i
invariant-loop-i l =
    record {
      factors : take l.i l.factors ++ map alaw_factor (drop l.i l.bytes) ≡ map alaw_factor l.bytes;
      halves : take l.i l.halves ++ map alaw_halves (drop l.i l.bytes) ≡ map alaw_halves l.bytes;
    }
