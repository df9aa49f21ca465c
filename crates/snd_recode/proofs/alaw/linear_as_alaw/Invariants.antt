use Rattle.std.proofs.Common.{◌≡◌, ◌++◌, take, drop, map}
use Rattle.snd_fields.specs.declared.field.Order.TheVariants.{Little}
use Rattle.snd_g711.specs.Alaw.{alaw_byte}
use Rattle.snd_pcm.specs.Pcm.{samples}
use Rattle.snd_pcm.specs.declared.linear.Linear.TheVariants.{S16}
use Rattle.snd_recode.proofs.alaw.linear_as_alaw.Given as goal

abbrev pub invariant-loop-i : goal.invariant-loop-i
invariant-loop-i l = take l.i l.into ++ drop l.i (map alaw_byte (samples (S16 Little) l.bytes)) ≡ map alaw_byte (samples (S16 Little) l.bytes)
