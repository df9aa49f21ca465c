use Rattle.std.proofs.Common.{◌≡◌, ◌*◌, List, ℕ, Some, false, take}
use Rattle.std.specs.List.{list_any}
use Rattle.snd_disk.specs.State.{AtMost, OnlyReads}
use Rattle.snd_svx.specs.Layout.{is_pair}
use Rattle.snd_svx.proofs.reads.read_pairs.Given as goal

abbrev pub invariant-loop-chunk : goal.invariant-loop-chunk
invariant-loop-chunk g l = record {
  none : (b : List ℕ) → (g.D.Disk.state l.fn.disk).contents ≡ Some b → list_any (is_pair b) (take l.chunk-index l.chunks) ≡ false;
  size : (g.D.Disk.state l.disk).size ≡ (g.D.Disk.state l.fn.disk).size;
  calm : (g.D.Disk.state l.disk).faults ≡ (g.D.Disk.state l.fn.disk).faults;
  reads : OnlyReads (g.D.Disk.state l.fn.disk) (g.D.Disk.state l.disk) (g.D.Disk.may_leave l.fn.disk) (g.D.Disk.may_leave l.disk) (g.D.Disk.left_between l.fn.disk) (g.D.Disk.left_between l.disk);
  asked : AtMost (g.D.Disk.state l.fn.disk).asked (4 * l.chunk-index) (g.D.Disk.state l.disk).asked;
}
