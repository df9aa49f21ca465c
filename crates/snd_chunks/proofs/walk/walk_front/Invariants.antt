use Rattle.std.proofs.Common.{◌≡◌, ◌+◌, ◌*◌, ◌-◌, ◌≤◌, ◌^◌, List, ℕ, Some, All, length}
use Rattle.snd_disk.specs.State.{AtMost, OnlyReads}
use Rattle.snd_chunks.specs.Chunks.{chunk_at, front}
use Rattle.snd_chunks.specs.Walks.{EndsBy, IsShort}
use Rattle.snd_chunks.proofs.Walks.{after}
use Rattle.snd_chunks.proofs.walk.walk_front.Given as goal

abbrev pub invariant-loop-seen : goal.invariant-loop-seen
invariant-loop-seen g l = record {
  so_far : (b : List ℕ) → (g.D.Disk.state l.fn.disk).contents ≡ Some b →
      front (chunk_at l.order b) l.sound.0 (length b) l.most l.from ≡ after l.chunks (front (chunk_at l.order b) l.sound.0 (length b) (l.most - l._seen) l.place);
  size : l.size ≡ (g.D.Disk.state l.disk).size;
  whole : All (EndsBy l.size) l.chunks;
  short : All IsShort l.chunks;
  before : All (EndsBy l.place) l.chunks;
  behind : l.from ≤ l.place;
  near : l.place ≤ l.from + l._seen * 2 ^ 33;
  calm : (g.D.Disk.state l.disk).faults ≡ (g.D.Disk.state l.fn.disk).faults;
  reads : OnlyReads (g.D.Disk.state l.fn.disk) (g.D.Disk.state l.disk) (g.D.Disk.may_leave l.fn.disk) (g.D.Disk.may_leave l.disk) (g.D.Disk.left_between l.fn.disk) (g.D.Disk.left_between l.disk);
  asked : AtMost (g.D.Disk.state l.fn.disk).asked (8 * l._seen) (g.D.Disk.state l.disk).asked;
}
