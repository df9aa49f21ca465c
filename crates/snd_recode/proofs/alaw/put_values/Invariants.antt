use Rattle.std.proofs.Common.{◌≡◌, ◌*◌, ◌++◌, take, drop, map}
use Rattle.snd_fields.specs.declared.field.Order.TheVariants.{Little}
use Rattle.snd_g711.specs.Alaw.{alaw_value}
use Rattle.snd_pcm.specs.Pcm.{samples_bytes}
use Rattle.snd_pcm.specs.declared.linear.Linear.TheVariants.{S16}
use Rattle.snd_recode.proofs.alaw.put_values.Given as goal

abbrev pub invariant-loop-i : goal.invariant-loop-i
invariant-loop-i l = take (2 * l.i) l.into ++ samples_bytes (S16 Little) (drop l.i (map alaw_value l.bytes)) ≡ samples_bytes (S16 Little) (map alaw_value l.bytes)
