use Rattle.std.proofs.Common.{◌≡◌, ◌-◌, ◌*◌, length}
use Rattle.snd_pcm.specs.Groups.{first_groups}
use Rattle.snd_rules.specs.Replies.{frames_text}
use Rattle.snd_rules.proofs.Lines.{lines}
use Rattle.snd_rules.proofs.Printing.{Printing}
use Rattle.snd_rules.proofs.text.put_frames.Given as goal

abbrev pub invariant-loop : goal.invariant-loop
invariant-loop g l = record {
  printing : Printing (g.O.Sink.told l.fn.out) (g.O.Sink.told l.out) l.page.items (lines l.channels (l.frames - l.counter) l.rest) (frames_text (first_groups l.channels l.frames l.samples));
  size : length l.rest ≡ (l.frames - l.counter) * l.channels;
  calm : g.O.Sink.faults l.out ≡ g.O.Sink.faults l.fn.out;
}
