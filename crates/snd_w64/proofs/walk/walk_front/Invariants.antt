use Rattle.std.proofs.Common.{◌≡◌, ◌*◌, ◌-◌, ◌≤◌, List, ℕ, Some, All}
use Rattle.snd_disk.specs.State.{AtMost, OnlyReads}
use Rattle.snd_chunks.specs.Walks.{EndsBy}
use Rattle.snd_w64.proofs.Steps.{IsLeft}
use Rattle.snd_w64.proofs.walk.walk_front.Given as goal

abbrev pub invariant-loop-seen : goal.invariant-loop-seen
invariant-loop-seen g l = record {
  so_far : (b : List ℕ) → (g.D.Disk.state l.fn.disk).contents ≡ Some b → IsLeft b l.chunks (257 - l._seen) l.place;
  size : l.size ≡ (g.D.Disk.state l.disk).size;
  whole : All (EndsBy l.size) l.chunks;
  before : All (EndsBy l.place) l.chunks;
  behind : 40 ≤ l.place;
  calm : (g.D.Disk.state l.disk).faults ≡ (g.D.Disk.state l.fn.disk).faults;
  reads : OnlyReads (g.D.Disk.state l.fn.disk) (g.D.Disk.state l.disk) (g.D.Disk.may_leave l.fn.disk) (g.D.Disk.may_leave l.disk) (g.D.Disk.left_between l.fn.disk) (g.D.Disk.left_between l.disk);
  asked : AtMost (g.D.Disk.state l.fn.disk).asked (24 * l._seen) (g.D.Disk.state l.disk).asked;
}
