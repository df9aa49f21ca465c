use Rattle.std.proofs.Common.{◌≡◌, ◌++◌}
use Rattle.snd_pcm.specs.Groups.{groups}
use Rattle.snd_rack.specs.Passing.{each_by, joined, passed_block}
use Rattle.snd_rack.specs.Rises.{fade_from}
use Rattle.snd_rack.proofs.samples.rise_all.Given as goal

abbrev pub invariant-loop-frame : goal.invariant-loop-frame
invariant-loop-frame l = record {
  size : l.frame-iterator.size ≡ l.channels;
  samples : l.into.items ++ joined (each_by (fade_from l.count l.i) (groups l.channels l.frame-iterator.rest.now)) ≡ passed_block (fade_from l.count l.first) l.channels l.from;
}
