use Rattle.std.proofs.Common.{◌≡◌, ◌*◌, ◌≤◌, take}
use Rattle.snd_concat.specs.Concat.{all_frames}
use Rattle.snd_concat.proofs.judge.all_frames.Given as goal

abbrev pub invariant-loop-layout : goal.invariant-loop-layout
invariant-loop-layout l = record {
  so_far : l.frames ≡ all_frames (take l.layout-index l.layouts);
  few : l.frames ≤ 18446744073709551616 * l.layout-index;
}
