use Rattle.std.proofs.Common.{◌≡◌, ◌<◌, All, length}
use Rattle.snd_ms_adpcm.specs.Lanes.{AreLeft, AreReady, Takes}
use Rattle.snd_ms_adpcm.proofs.microsoft_four_writer.take_samples.Given as goal

abbrev pub invariant-loop-k : goal.invariant-loop-k
invariant-loop-k l = record {
  ready : AreReady l.lanes;
  taken : Takes l.fn.lanes l.samples l.codes l.lanes l.k;
  left : AreLeft l.fn.lanes l.lanes l.k;
  places : length l.codes ≡ 8;
  small : All (λ code. code < 16) l.codes;
}
