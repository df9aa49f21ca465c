use Rattle.std.proofs.Common.{◌≡◌, ◌*◌, ℕ, List, drop, take}
use Rattle.std.specs.List.{find}
use Rattle.snd_disk.specs.Device.{AsksAtMost, OnlyReadsOn, Tells}
use Rattle.snd_edits.specs.TagsHeld.{is_info}
use Rattle.snd_tags.proofs.look.info_piece.Given as goal

abbrev pub invariant-loop-piece : goal.invariant-loop-piece
invariant-loop-piece g l = record {
  passed : (b : List ℕ) → Tells g.D.Disk.state l.fn.disk b → find (is_info b) (take 256 l.fn.pieces) ≡ find (is_info b) (drop l.piece-index l.piece-items);
  calm : (g.D.Disk.state l.disk).faults ≡ (g.D.Disk.state l.fn.disk).faults;
  reads : OnlyReadsOn g.D.Disk.state g.D.Disk.may_leave g.D.Disk.left_between l.fn.disk l.disk;
  asked : AsksAtMost g.D.Disk.state (4 * l.piece-index) l.fn.disk l.disk;
}
