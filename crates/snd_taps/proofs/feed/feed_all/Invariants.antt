use Rattle.std.proofs.Common.{◌≡◌}
use Rattle.snd_pcm.specs.Groups.{groups}
use Rattle.snd_taps.specs.Meter.{after_frames}
use Rattle.snd_taps.proofs.feed.feed_all.Given as goal

abbrev pub invariant-loop-frame : goal.invariant-loop-frame
invariant-loop-frame g l = record {
  left : after_frames (groups l.channels l.frame-iterator.rest.now) ((goal.Tap-dyn g l.tap.now).meter l.tap.now.1)
      ≡ after_frames (groups l.channels l.numbers) ((goal.Tap-dyn g l.fn.tap.now).meter l.fn.tap.now.1);
  size : l.frame-iterator.size ≡ l.channels;
}
