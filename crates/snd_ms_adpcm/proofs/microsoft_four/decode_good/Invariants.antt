use Rattle.snd_ms_adpcm.proofs.Four.{Decoded}
use Rattle.snd_ms_adpcm.proofs.microsoft_four.decode_good.Given as goal

abbrev pub invariant-loop-n : goal.invariant-loop-n
invariant-loop-n l = record {
  first : Decoded l.n l.blocks.first.now l.a.left l.a.right l.one;
  second : Decoded l.n l.blocks.second.now l.b.left l.b.right l.two;
  third : Decoded l.n l.blocks.third.now l.c.left l.c.right l.three;
  fourth : Decoded l.n l.blocks.fourth.now l.d.left l.d.right l.four;
}
