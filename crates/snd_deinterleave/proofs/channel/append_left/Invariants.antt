use Rattle.std.proofs.Common.{◌≡◌, ◌+◌, ◌-◌, ◌/◌, ◌≤◌, length, min}
use Rattle.snd_disk.specs.Device.{AsksAtMost, GoesOnFrom, OnlyReadsOn}
use Rattle.snd_edits.specs.Editing.{moved_by}
use Rattle.snd_file.specs.Handle.{StandsAfter, channels_of, disk_of, known_of, loan_of}
use Rattle.snd_file.specs.Outcomes.{AsksNothing, TellsOn}
use Rattle.snd_output.specs.Appended.{IsLonger, left_in, read_on}
use Rattle.snd_output.proofs.Public.{asked_by}
use Rattle.snd_deinterleave.specs.Passing.{Lengthens, next_channel}
use Rattle.snd_deinterleave.proofs.channel.append_left.Given as goal

abbrev pub invariant-loop-count : goal.invariant-loop-count
invariant-loop-count g l =
    let k = (known_of l.from).place - (known_of l.fn.from).place in
    record {
      loan : loan_of l.from ≡ loan_of l.fn.from;
      to_loan : loan_of l.to ≡ loan_of l.fn.to;
      read : known_of l.from ≡ read_on k (known_of l.fn.from);
      written : IsLonger k (known_of l.fn.to) (known_of l.to);
      within : k ≤ left_in (known_of l.fn.from);
      ended : l.count ≡ 0 → k ≡ left_in (known_of l.fn.from);
      stands : StandsAfter g.D.Disk.state l.fn.from l.from (moved_by k);
      lengthens : Lengthens g.D.Disk.state g.E.Disk.state (next_channel l.fn.which k) l.fn.from l.fn.to l.to;
      calm : (g.D.Disk.state (disk_of l.from)).faults ≡ (g.D.Disk.state (disk_of l.fn.from)).faults;
      to_calm : (g.E.Disk.state (disk_of l.to)).faults ≡ (g.E.Disk.state (disk_of l.fn.to)).faults;
      reads : OnlyReadsOn g.D.Disk.state g.D.Disk.may_leave g.D.Disk.left_between (disk_of l.fn.from) (disk_of l.from);
      tells : TellsOn g.E.Disk.state l.fn.to l.to;
      time : GoesOnFrom g.E.Disk.state g.E.Disk.left_between (disk_of l.fn.to) (disk_of l.to);
      to_asked : AsksNothing g.E.Disk.state l.fn.to l.to;
      same_length : length l.block ≡ length l.fn.block;
      as_many : length l.picked ≡ length l.fn.picked;
      asked : AsksAtMost g.D.Disk.state (asked_by (known_of l.fn.from).shape.params (length l.fn.block / channels_of l.fn.from) k (left_in (known_of l.from)) l.count) (disk_of l.fn.from) (disk_of l.from);
    }

abbrev pub decreases-loop-count : goal.decreases-loop-count
decreases-loop-count g l = left_in (known_of l.from) + min 1 l.count
