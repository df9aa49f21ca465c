use Rattle.std.proofs.Common.{◌≡◌, ◌+◌, ◌*◌, ◌<◌, ℕ, List, get_or, pos}
use Rattle.snd_edits.specs.Editing.{Editing}
use Rattle.snd_interleave.specs.Asking.{AsksFirst, bytes_from}
use Rattle.snd_interleave.specs.Beside.{frame_at}
use Rattle.snd_interleave.specs.Channels.{AreCalm, HoldAll, ReadAll}
use Rattle.snd_interleave.specs.Interleave.{channels_in}
use Rattle.snd_interleave.proofs.blocks.fill.Given as goal

abbrev pub invariant-loop-i : goal.invariant-loop-i
invariant-loop-i g l = record {
  filled : (es : List Editing) → HoldAll g.D.Disk.state l.fn.inputs es → (j c : ℕ) → j < l.count → c < l.i
      → get_or (g.U.Held.numbers l.codec l.block) (j * l.channels + c) (pos 0) ≡ get_or (frame_at (channels_in l.codec es) (l.place + j)) c (pos 0);
  fit : (j c : ℕ) → j < l.count → c < l.i → g.U.Held.fits l.codec (get_or (g.U.Held.numbers l.codec l.block) (j * l.channels + c) (pos 0));
  calm : AreCalm g.D.Disk.state l.fn.inputs l.inputs;
  reads : ReadAll g.D.Disk l.fn.inputs l.inputs;
  asked : AsksFirst g.D.Disk.state l.i (bytes_from l.place l.count) l.fn.inputs l.inputs;
}
