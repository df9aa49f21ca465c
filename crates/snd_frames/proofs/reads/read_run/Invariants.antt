use Rattle.std.proofs.Common.{◌≡◌, ◌-◌, ◌≤◌, ℕ, List, length, take}
use Rattle.snd_disk.specs.Device.{OnlyReadsOn, Tells}
use Rattle.snd_frames.specs.Reading.{AreInRange, AsksFor, samples_at}
use Rattle.snd_frames.proofs.reads.read_run.Given as goal

abbrev pub invariant-loop-done : goal.invariant-loop-done
invariant-loop-done g l =
    record {
      within : l.done ≤ length l.into;
      told : (b : List ℕ) → Tells g.D.Disk.state l.fn.disk b → take l.done l.into ≡ samples_at l.form b l.at l.done;
      in_range : AreInRange l.form l.done l.into;
      calm : (g.D.Disk.state l.disk).faults ≡ (g.D.Disk.state l.fn.disk).faults;
      reads : OnlyReadsOn g.D.Disk.state g.D.Disk.may_leave g.D.Disk.left_between l.fn.disk l.disk;
      asked : AsksFor g.D.Disk.state l.form l.done l.fn.disk l.disk;
    }

abbrev pub decreases-loop-done : goal.decreases-loop-done
decreases-loop-done g l = length l.into - l.done
