use Rattle.std.proofs.Common.{◌≡◌}
use Rattle.snd_pcm.specs.Groups.{groups}
use Rattle.snd_taps.specs.Meter.{after_frames}
use Rattle.snd_taps.proofs.feed.feed_all_of.Given as goal

abbrev pub invariant-loop-frame : goal.invariant-loop-frame
invariant-loop-frame g l = record {
  left : after_frames (groups l.channels l.frame-iterator.rest.now) (g.T.Tap.meter l.tap) ≡ after_frames (groups l.channels l.numbers) (g.T.Tap.meter l.fn.tap);
  size : l.frame-iterator.size ≡ l.channels;
}
