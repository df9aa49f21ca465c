use Rattle.std.proofs.Common.{◌≡◌, ◌*◌, ◌⊎◌, None, drop, take}
use Rattle.std.specs.List.{find}
use Rattle.snd_disk.specs.Device.{AsksAtMost, OnlyReadsOn}
use Rattle.snd_tags.specs.Bodies.{first_list}
use Rattle.snd_edits.specs.Editing.{Editing}
use Rattle.snd_edits.specs.TagsHeld.{info_piece, is_info}
use Rattle.snd_file.specs.Handle.{Stands, StandsAfter, disk_of, known_of, loan_of}
use Rattle.snd_tags.proofs.lists.info_place.Given as goal

abbrev pub invariant-loop-place : goal.invariant-loop-place
invariant-loop-place g l = record {
  loan : loan_of l.file ≡ loan_of l.fn.file;
  same : known_of l.file ≡ known_of l.fn.file;
  working : ((known_of l.fn.file).broken ≡ None) ⊎ (first_list (drop l.place (take 256 (known_of l.fn.file).shape.pieces)) ≡ first_list (take 256 (known_of l.fn.file).shape.pieces));
  passed : (e : Editing) → Stands g.D.Disk.state l.fn.file e → info_piece e.bytes e.shape ≡ find (is_info e.bytes) (drop l.place (take 256 (known_of l.fn.file).shape.pieces));
  stands : StandsAfter g.D.Disk.state l.fn.file l.file (λ e. e);
  calm : (g.D.Disk.state (disk_of l.file)).faults ≡ (g.D.Disk.state (disk_of l.fn.file)).faults;
  reads : OnlyReadsOn g.D.Disk.state g.D.Disk.may_leave g.D.Disk.left_between (disk_of l.fn.file) (disk_of l.file);
  asked : AsksAtMost g.D.Disk.state (4 * l.place) (disk_of l.fn.file) (disk_of l.file);
}
