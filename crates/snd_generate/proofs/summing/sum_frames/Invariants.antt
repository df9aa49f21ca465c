use Rattle.std.proofs.Common.{◌≡◌, None, ◌+◌, ◌≤◌, min, take}
use Rattle.snd_disk.specs.Device.{OnlyReadsOn}
use Rattle.snd_edits.specs.Editing.{Editing, moved_by}
use Rattle.snd_file.specs.Handle.{Stands, StandsAfter, disk_of, known_of, loan_of}
use Rattle.snd_output.specs.Appended.{left_in, read_on}
use Rattle.snd_taps.specs.Meter.{after_frames, idle}
use Rattle.snd_taps.specs.Meters.{energy_meter, peak_meter}
use Rattle.snd_taps.specs.declared.tap.TapKind.TheVariants.{Energy, Peak}
use Rattle.snd_generate.proofs.summing.sum_frames.Given as goal

abbrev pub invariant-loop-count : goal.invariant-loop-count
invariant-loop-count g l =
    let k = (known_of l.file).place in
    record {
      loan : loan_of l.file ≡ loan_of l.fn.file;
      read : known_of l.file ≡ read_on k (known_of l.fn.file);
      within : k ≤ (known_of l.fn.file).shape.frames;
      ended : l.count ≡ 0 → k ≡ (known_of l.fn.file).shape.frames;
      stands : StandsAfter g.E.Disk.state l.fn.file l.file (moved_by k);
      peak : (e : Editing) → Stands g.E.Disk.state l.fn.file e → peak_meter l.meters.peak ≡ after_frames (take k e.frames) (idle Peak);
      energy : (e : Editing) → Stands g.E.Disk.state l.fn.file e → energy_meter l.meters.energy ≡ after_frames (take k e.frames) (idle Energy);
      working : (known_of l.file).broken ≡ None;
      calm : (g.E.Disk.state (disk_of l.file)).faults ≡ (g.E.Disk.state (disk_of l.fn.file)).faults;
      reads : OnlyReadsOn g.E.Disk.state g.E.Disk.may_leave g.E.Disk.left_between (disk_of l.fn.file) (disk_of l.file);
    }

abbrev pub decreases-loop-count : goal.decreases-loop-count
decreases-loop-count g l = left_in (known_of l.file) + min 1 l.count
