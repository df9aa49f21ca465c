use Rattle.std.proofs.Common.{◌≡◌, All, Ok, take}
use Rattle.snd_disk.specs.Device.{AsksAtMost}
use Rattle.snd_inputs.specs.Copying.{CopiesInto}
use Rattle.snd_edits.specs.Editing.{Editing}
use Rattle.snd_file.specs.Handle.{Stands, StandsAfter, disk_of, known_of}
use Rattle.snd_edits.specs.Making.{making_of}
use Rattle.snd_file.specs.Outcomes.{AsksNothing}
use Rattle.snd_output.specs.Made.{IsChunk}
use Rattle.snd_metadata.specs.Making.{HasPut, chunks_planned, known_filled}
use Rattle.snd_metadata.specs.Planned.{bytes_planned}
use Rattle.snd_metadata.proofs.make.carry.Given as goal

abbrev pub invariant-loop-at : goal.invariant-loop-at
invariant-loop-at g l = record {
  copies : CopiesInto {T = Unit {0}} g.D.Disk g.E.Disk l.fn.from l.from l.fn.to l.to (Ok tt);
  same : known_of l.from ≡ known_of l.fn.from;
  known : known_of l.to ≡ known_filled (known_of l.fn.from).shape (take l.at l.plan) (known_of l.fn.to);
  so_far : (r e : Editing) → Stands g.D.Disk.state l.fn.from r → making_of (known_of l.fn.from).shape.kind (known_of l.fn.from).shape.params ≡ Ok e → Stands g.E.Disk.state l.fn.to e
      → HasPut g.E.Disk.state (known_of l.fn.from).shape.kind (known_of l.fn.from).shape.params (chunks_planned r (take l.at l.plan)) l.to × All IsChunk (chunks_planned r (take l.at l.plan));
  asked : AsksAtMost g.D.Disk.state (bytes_planned (take l.at l.plan)) (disk_of l.fn.from) (disk_of l.from);
  unasked : AsksNothing g.E.Disk.state l.fn.to l.to;
  stands : StandsAfter g.D.Disk.state l.fn.from l.from (λ e. e);
}
