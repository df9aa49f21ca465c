use Rattle.std.proofs.Common.{◌≡◌, ◌-◌, ◌/◌, ◌%◌, ◌≤◌, length, map, take}
use Rattle.snd_disk.specs.Device.{GoesOnFrom}
use Rattle.snd_file.specs.Handle.{codec_of, disk_of, known_of, loan_of}
use Rattle.snd_file.specs.Outcomes.{AsksNothing, TellsOn}
use Rattle.snd_output.specs.Appended.{Gains, IsLonger}
use Rattle.snd_output.specs.Widths.{change_numbers}
use Rattle.snd_rack.specs.Passing.{later}
use Rattle.snd_racking.specs.Appending.{passed_groups}
use Rattle.snd_racking.proofs.pieces.give_racked.Given as goal

abbrev pub invariant-loop-at : goal.invariant-loop-at
invariant-loop-at g l = record {
  within : l.at ≤ length l.numbers;
  whole : l.at % l.channels ≡ 0;
  loan : loan_of l.to ≡ loan_of l.fn.to;
  written : IsLonger (l.at / l.channels) (known_of l.fn.to) (known_of l.to);
  gains : Gains g.E.Disk.state (change_numbers l.codec (codec_of l.fn.to) (passed_groups l.channels (map (λ b. (goal.Stage-dyn g (b.vtable, b.value)).stage b.value) l.fn.stages) (take l.at l.numbers))) l.fn.to l.to;
  states : map (λ b. (goal.Stage-dyn g (b.vtable, b.value)).stage b.value) l.stages ≡ later (l.at / l.channels) (map (λ b. (goal.Stage-dyn g (b.vtable, b.value)).stage b.value) l.fn.stages);
  calm : (g.E.Disk.state (disk_of l.to)).faults ≡ (g.E.Disk.state (disk_of l.fn.to)).faults;
  tells : TellsOn g.E.Disk.state l.fn.to l.to;
  time : GoesOnFrom g.E.Disk.state g.E.Disk.left_between (disk_of l.fn.to) (disk_of l.to);
  asked : AsksNothing g.E.Disk.state l.fn.to l.to;
}

abbrev pub decreases-loop-at : goal.decreases-loop-at
decreases-loop-at g l = length l.numbers - l.at
