use Rattle.snd_fields.specs.declared.field.Order.TheVariants.{Little}
use Rattle.snd_pcm.specs.declared.linear.Linear.TheVariants.{S32}
use Rattle.snd_recode.specs.Wider.{ArePut}
use Rattle.snd_recode.proofs.wider.widen_to_32.Given as goal

abbrev pub invariant-loop-i : goal.invariant-loop-i
invariant-loop-i l = ArePut (S32 Little) l.i l.bytes l.into
