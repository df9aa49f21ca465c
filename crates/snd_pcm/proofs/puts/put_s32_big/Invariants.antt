use Rattle.std.proofs.Common.{◌≡◌, ◌*◌, ◌++◌, take, drop}
use Rattle.snd_fields.specs.declared.field.Order.TheVariants.{Big}
use Rattle.snd_pcm.specs.Pcm.{samples_bytes}
use Rattle.snd_pcm.specs.declared.linear.Linear.TheVariants.{S32}
use Rattle.snd_pcm.proofs.puts.put_s32_big.Given as goal

abbrev pub invariant-loop-i : goal.invariant-loop-i
invariant-loop-i l = take (4 * l.i) l.bytes ++ samples_bytes (S32 Big) (drop l.i l.from) ≡ samples_bytes (S32 Big) l.from
