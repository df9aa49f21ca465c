use Rattle.std.proofs.Common.{◌≡◌, ◌++◌, take, drop}
use Rattle.snd_fields.specs.declared.field.Order.TheVariants.{Little}
use Rattle.snd_pcm.specs.Pcm.{samples}
use Rattle.snd_pcm.specs.declared.linear.Linear.TheVariants.{S16}
use Rattle.snd_pcm.proofs.reads.read_s16_little.Given as goal

abbrev pub invariant-loop-i : goal.invariant-loop-i
invariant-loop-i l = take l.i l.into ++ drop l.i (samples (S16 Little) l.bytes) ≡ samples (S16 Little) l.bytes
