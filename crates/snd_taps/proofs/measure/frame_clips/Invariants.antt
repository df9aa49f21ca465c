use Rattle.std.proofs.Common.{◌≡◌, ◌≤◌, ◌+◌, cond, drop}
use Rattle.std.specs.Prelude.{fold}
use Rattle.snd_taps.specs.Measure.{is_clip, clips_of}
use Rattle.snd_taps.proofs.measure.frame_clips.Given as goal

abbrev pub invariant-loop-x : goal.invariant-loop-x
invariant-loop-x l = record {
  so_far : fold (λ a x. a + cond (is_clip l.low l.high x) 1 0) l.count (drop l.x-index l.frame) ≡ clips_of l.low l.high l.frame;
  most : l.count ≤ l.x-index;
}
