use Rattle.std.proofs.Common.{◌≡◌, ◌-◌, ◌≤◌, true}
use Rattle.snd_disk.specs.Device.{GoesOnFrom}
use Rattle.snd_file.specs.Handle.{codec_of, disk_of, known_of, loan_of}
use Rattle.snd_layout.specs.Blocks.{is_adpcm}
use Rattle.snd_layout.specs.declared.codec.Codec.{Codec}
use Rattle.snd_file.specs.Outcomes.{AsksNothing, TellsOn}
use Rattle.snd_output.specs.Appended.{IsLonger}
use Rattle.snd_interleave.specs.Asking.{AsksEach, bytes_upto}
use Rattle.snd_interleave.specs.Channels.{AreCalm, Lengthens, ReadAll}
use Rattle.snd_interleave.proofs.blocks.add_by.Given as goal

abbrev pub invariant-loop-place : goal.invariant-loop-place
invariant-loop-place g l = record {
  loan : loan_of l.to ≡ loan_of l.fn.to;
  known : IsLonger l.place (known_of l.fn.to) (known_of l.to);
  within : l.place ≤ l.frames;
  some : 1 ≤ l.most;
  few : l.most ≤ g.U.Held.MOST;
  whole : (own : Codec) → g.U.Held.suits (codec_of l.fn.to) own → is_adpcm own ≡ true → l.most ≡ 16384;
  lengthens : Lengthens g.D.Disk.state g.E.Disk.state 0 l.place l.fn.inputs l.fn.to l.to;
  calm : AreCalm g.D.Disk.state l.fn.inputs l.inputs;
  to_calm : (g.E.Disk.state (disk_of l.to)).faults ≡ (g.E.Disk.state (disk_of l.fn.to)).faults;
  reads : ReadAll g.D.Disk l.fn.inputs l.inputs;
  asked : AsksEach g.D.Disk.state (bytes_upto l.place) l.fn.inputs l.inputs;
  unasked : AsksNothing g.E.Disk.state l.fn.to l.to;
  tells : TellsOn g.E.Disk.state l.fn.to l.to;
  time : GoesOnFrom g.E.Disk.state g.E.Disk.left_between (disk_of l.fn.to) (disk_of l.to);
}

abbrev pub decreases-loop-place : goal.decreases-loop-place
decreases-loop-place g l = l.frames - l.place
