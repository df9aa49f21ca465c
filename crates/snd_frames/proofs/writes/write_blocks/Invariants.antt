use Rattle.std.proofs.Common.{◌≡◌, ◌-◌, ◌≤◌, length, take}
use Rattle.snd_container.specs.Fixed.{samples_bytes}
use Rattle.snd_block_writer.specs.Puts.{LeavesPartly}
use Rattle.snd_frames.specs.Writing.{HasWritten, PutsSamples}
use Rattle.snd_frames.proofs.writes.write_blocks.Given as goal

abbrev pub invariant-loop-done : goal.invariant-loop-done
invariant-loop-done g l =
    record {
      within : l.done ≤ length l.from;
      done : HasWritten g.D.Disk.state l.form l.at (take l.done l.from) l.fn.disk l.disk;
      puts : PutsSamples g.D.Disk.state g.D.Disk.left_between l.form l.at l.done l.fn.disk l.disk;
      partly : LeavesPartly g.D.Disk l.at (samples_bytes l.form l.from) l.fn.disk l.disk;
      calm : (g.D.Disk.state l.disk).faults ≡ (g.D.Disk.state l.fn.disk).faults;
    }

abbrev pub decreases-loop-done : goal.decreases-loop-done
decreases-loop-done g l = length l.from - l.done
