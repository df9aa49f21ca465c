use Rattle.std.proofs.Common.{◌≡◌, ◌++◌, take, drop}
use Rattle.snd_pcm.specs.Pcm.{samples}
use Rattle.snd_pcm.specs.declared.linear.Linear.TheVariants.{U8}
use Rattle.snd_pcm.proofs.reads.read_u8.Given as goal

abbrev pub invariant-loop-i : goal.invariant-loop-i
invariant-loop-i l = take l.i l.into ++ drop l.i (samples U8 l.bytes) ≡ samples U8 l.bytes
