use Rattle.std.proofs.Common.{◌*◌}
use Rattle.snd_fields.specs.declared.field.Order.TheVariants.{Little}
use Rattle.snd_pcm.specs.declared.linear.Linear.TheVariants.{S24}
use Rattle.snd_recode.specs.Wider.{ArePut}
use Rattle.snd_recode.proofs.wider.widen_fives.Given as goal

abbrev pub invariant-loop-i : goal.invariant-loop-i
invariant-loop-i l = ArePut (S24 Little) (5 * l.i) l.bytes l.into
