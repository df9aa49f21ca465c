use Rattle.std.proofs.Common.{◌≡◌, ◌++◌, take, drop, map}
use Rattle.snd_recode.specs.Factors.{mulaw_factor}
use Rattle.snd_recode.proofs.mulaw.put_factors.Given as goal

abbrev pub invariant-loop-i : goal.invariant-loop-i
invariant-loop-i l = take l.i l.factors ++ map mulaw_factor (drop l.i l.bytes) ≡ map mulaw_factor l.bytes
