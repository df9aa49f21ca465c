use Rattle.std.proofs.Common.{◌≡◌, ◌*◌, length, take}
use Rattle.snd_disk.specs.Device.{GoesOnFrom, OnlyReadsOn, WritesAtMost}
use Rattle.snd_file.specs.Handle.{StandsAfter, disk_of, known_of, loan_of}
use Rattle.snd_file.specs.Outcomes.{AsksNothing, TellsOn}
use Rattle.snd_carry.specs.Carried.{carried_pieces}
use Rattle.snd_carry.specs.Carrying.{AsksForBodies, StaysAsOpened, known_with}
use Rattle.snd_carry.proofs.Steps.{ChunksSoFar, SoFar}
use Rattle.snd_carry.proofs.carry.carry_pieces.Given as goal

abbrev pub invariant-loop-place : goal.invariant-loop-place
invariant-loop-place g l = record {
  from_loan : loan_of l.from ≡ loan_of l.fn.from;
  to_loan : loan_of l.to ≡ loan_of l.fn.to;
  same : known_of l.from ≡ known_of l.fn.from;
  known : known_of l.to ≡ known_with (carried_pieces (take l.place (known_of l.fn.from).shape.pieces)) (known_of l.fn.to);
  so_far : SoFar g.D.Disk.state g.E.Disk.state l.fn.from l.fn.to l.to (carried_pieces (take l.place (known_of l.fn.from).shape.pieces));
  chunks : ChunksSoFar g.D.Disk.state l.fn.from (carried_pieces (take l.place (known_of l.fn.from).shape.pieces));
  begins : StaysAsOpened g.E.Disk.state l.fn.to l.to;
  stands : StandsAfter g.D.Disk.state l.fn.from l.from (λ e. e);
  from_calm : (g.D.Disk.state (disk_of l.from)).faults ≡ (g.D.Disk.state (disk_of l.fn.from)).faults;
  to_calm : (g.E.Disk.state (disk_of l.to)).faults ≡ (g.E.Disk.state (disk_of l.fn.to)).faults;
  reads : OnlyReadsOn g.D.Disk.state g.D.Disk.may_leave g.D.Disk.left_between (disk_of l.fn.from) (disk_of l.from);
  tells : TellsOn g.E.Disk.state l.fn.to l.to;
  asked : AsksForBodies g.D.Disk.state (carried_pieces (take l.place (known_of l.fn.from).shape.pieces)) l.fn.from l.from;
  written : WritesAtMost g.E.Disk.state (16777216 * length (carried_pieces (take l.place (known_of l.fn.from).shape.pieces))) (disk_of l.fn.to) (disk_of l.to);
  unasked : AsksNothing g.E.Disk.state l.fn.to l.to;
  time : GoesOnFrom g.E.Disk.state g.E.Disk.left_between (disk_of l.fn.to) (disk_of l.to);
}
