use Rattle.std.proofs.Common.{◌≡◌, ◌*◌, ◌++◌, take, drop}
use Rattle.snd_fields.specs.declared.field.Order.TheVariants.{Little}
use Rattle.snd_pcm.specs.Pcm.{samples_bytes}
use Rattle.snd_pcm.specs.declared.linear.Linear.TheVariants.{S24}
use Rattle.snd_pcm.proofs.puts.put_s24_little.Given as goal

abbrev pub invariant-loop-i : goal.invariant-loop-i
invariant-loop-i l = take (3 * l.i) l.bytes ++ samples_bytes (S24 Little) (drop l.i l.from) ≡ samples_bytes (S24 Little) l.from
