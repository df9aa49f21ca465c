use Rattle.std.proofs.Common.{◌≡◌, ◌+◌, ◌-◌, ◌*◌, ◌≤◌, ◌<◌, ℕ, List, None, Some, length, take, drop}
use Rattle.snd_disk.specs.State.{AtMost, OnlyReads}
use Rattle.snd_search.specs.Search.{format_here}
use Rattle.snd_search.proofs.format.format_within.Given as goal

abbrev pub invariant-loop-place : goal.invariant-loop-place
invariant-loop-place g l = record {
  so_far : (b : List ℕ) → (g.D.Disk.state l.fn.disk).contents ≡ Some b → l.bytes ≡ take (length l.bytes) (drop l.at (take l.size b)) → (i : ℕ) → i < l.from → format_here (drop (l.at + i) (take l.size b)) ≡ None;
  within : l.from ≤ length l.bytes;
  size : l.size ≤ (g.D.Disk.state l.disk).size;
  calm : (g.D.Disk.state l.disk).faults ≡ (g.D.Disk.state l.fn.disk).faults;
  reads : OnlyReads (g.D.Disk.state l.fn.disk) (g.D.Disk.state l.disk) (g.D.Disk.may_leave l.fn.disk) (g.D.Disk.may_leave l.disk) (g.D.Disk.left_between l.fn.disk) (g.D.Disk.left_between l.disk);
  asked : AtMost (g.D.Disk.state l.fn.disk).asked (18 * l.from) (g.D.Disk.state l.disk).asked;
}

abbrev pub decreases-loop-place : goal.decreases-loop-place
decreases-loop-place g l = length l.bytes - l.from
