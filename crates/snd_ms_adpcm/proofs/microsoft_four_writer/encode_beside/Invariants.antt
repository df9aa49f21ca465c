use Rattle.snd_ms_adpcm.specs.Lanes.{AreReady, IsCoded}
use Rattle.snd_ms_adpcm.proofs.microsoft_four_writer.encode_beside.Given as goal

abbrev pub invariant-loop-n : goal.invariant-loop-n
invariant-loop-n l = record {
  ready : AreReady l.lanes;
  first : IsCoded l.n l.samples.first.now l.lanes 0 1 l.one;
  second : IsCoded l.n l.samples.second.now l.lanes 2 3 l.two;
  third : IsCoded l.n l.samples.third.now l.lanes 4 5 l.three;
  fourth : IsCoded l.n l.samples.fourth.now l.lanes 6 7 l.four;
}
