use Rattle.std.proofs.Common.{◌≡◌, ◌*◌, ◌-◌, ◌++◌, List, ℕ, Some, All}
use Rattle.snd_disk.specs.State.{AtMost, OnlyReads}
use Rattle.snd_chunks.specs.Chunks.{chunk_at, tail}
use Rattle.snd_chunks.specs.Walks.{EndsBy}
use Rattle.snd_chunks.proofs.walk.walk_tail.Given as goal

abbrev pub invariant-loop-seen : goal.invariant-loop-seen
invariant-loop-seen g l = record {
  so_far : (b : List ℕ) → (g.D.Disk.state l.fn.disk).contents ≡ Some b →
      tail (chunk_at l.order b) l.to l.most l.from ≡ l.chunks ++ tail (chunk_at l.order b) l.to (l.most - l._seen) l.place;
  size : l.size ≡ (g.D.Disk.state l.disk).size;
  placed : All (EndsBy l.to) l.chunks;
  calm : (g.D.Disk.state l.disk).faults ≡ (g.D.Disk.state l.fn.disk).faults;
  reads : OnlyReads (g.D.Disk.state l.fn.disk) (g.D.Disk.state l.disk) (g.D.Disk.may_leave l.fn.disk) (g.D.Disk.may_leave l.disk) (g.D.Disk.left_between l.fn.disk) (g.D.Disk.left_between l.disk);
  asked : AtMost (g.D.Disk.state l.fn.disk).asked (8 * l._seen) (g.D.Disk.state l.disk).asked;
}
