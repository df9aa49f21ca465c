use Rattle.std.proofs.Common.{◌≡◌, ◌+◌, ◌*◌, drop, map}
use Rattle.std.specs.List.{position_or_len}
use Rattle.snd_disk.specs.Device.{AsksAtMost, OnlyReadsOn}
use Rattle.snd_edits.specs.Editing.{Editing}
use Rattle.snd_file.specs.Handle.{Stands, StandsAfter, disk_of, known_of, loan_of}
use Rattle.snd_metadata.specs.Chunks.{is_info_list}
use Rattle.snd_metadata.specs.Planned.{chunk_planned}
use Rattle.snd_metadata.proofs.places.info_place.Given as goal

abbrev pub invariant-loop-at : goal.invariant-loop-at
invariant-loop-at g l = record {
  loan : loan_of l.file ≡ loan_of l.fn.file;
  same : known_of l.file ≡ known_of l.fn.file;
  passed : (e : Editing) → Stands g.D.Disk.state l.fn.file e
      → l.at + position_or_len is_info_list (drop l.at (map (chunk_planned e.bytes) l.plan)) ≡ position_or_len is_info_list (map (chunk_planned e.bytes) l.plan);
  stands : StandsAfter g.D.Disk.state l.fn.file l.file (λ e. e);
  calm : (g.D.Disk.state (disk_of l.file)).faults ≡ (g.D.Disk.state (disk_of l.fn.file)).faults;
  asked : AsksAtMost g.D.Disk.state (4 * l.at) (disk_of l.fn.file) (disk_of l.file);
  reads : OnlyReadsOn g.D.Disk.state g.D.Disk.may_leave g.D.Disk.left_between (disk_of l.fn.file) (disk_of l.file);
}
