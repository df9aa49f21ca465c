use Rattle.std.proofs.Common.{◌≡◌, ℕ, ◌<◌, List, false, get_or}
use Rattle.snd_inputs.specs.Copying.{bytes_checked}
use Rattle.snd_inputs.specs.Inputs.{is_bad}
use Rattle.snd_edits.specs.Editing.{Editing}
use Rattle.snd_interleave.specs.Asking.{AsksFirst}
use Rattle.snd_interleave.specs.Channels.{AreCalm, HoldAll, ReadAll}
use Rattle.snd_interleave.proofs.checking.first_bad.Given as goal

abbrev pub invariant-loop-i : goal.invariant-loop-i
invariant-loop-i g l = record {
  good : (es : List Editing) → HoldAll g.D.Disk.state l.fn.inputs es → (k : ℕ) (d : Editing) → k < l.i → is_bad (get_or es k d) ≡ false;
  calm : AreCalm g.D.Disk.state l.fn.inputs l.inputs;
  reads : ReadAll g.D.Disk l.fn.inputs l.inputs;
  asked : AsksFirst g.D.Disk.state l.i bytes_checked l.fn.inputs l.inputs;
}
