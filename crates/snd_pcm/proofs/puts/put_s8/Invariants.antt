use Rattle.std.proofs.Common.{◌≡◌, ◌++◌, take, drop}
use Rattle.snd_pcm.specs.Pcm.{samples_bytes}
use Rattle.snd_pcm.specs.declared.linear.Linear.TheVariants.{S8}
use Rattle.snd_pcm.proofs.puts.put_s8.Given as goal

abbrev pub invariant-loop-i : goal.invariant-loop-i
invariant-loop-i l = take l.i l.bytes ++ samples_bytes S8 (drop l.i l.from) ≡ samples_bytes S8 l.from
