use Rattle.std.proofs.Common.{◌≡◌, ◌-◌, ◌*◌, ◌<◌, ◌≤◌, ℕ, List, None, Some, drop, take, min}
use Rattle.snd_disk.specs.State.{AtMost, OnlyReads}
use Rattle.snd_search.specs.Search.{format_here}
use Rattle.snd_search.proofs.format.find_format.Given as goal

abbrev pub invariant-loop-at : goal.invariant-loop-at
invariant-loop-at g l = record {
  so_far : (b : List ℕ) → (g.D.Disk.state l.fn.disk).contents ≡ Some b → (i : ℕ) → i < l.at → format_here (drop i (take l.size b)) ≡ None;
  size : l.size ≤ (g.D.Disk.state l.disk).size;
  calm : (g.D.Disk.state l.disk).faults ≡ (g.D.Disk.state l.fn.disk).faults;
  reads : OnlyReads (g.D.Disk.state l.fn.disk) (g.D.Disk.state l.disk) (g.D.Disk.may_leave l.fn.disk) (g.D.Disk.may_leave l.disk) (g.D.Disk.left_between l.fn.disk) (g.D.Disk.left_between l.disk);
  asked : AtMost (g.D.Disk.state l.fn.disk).asked (20 * min l.at l.size) (g.D.Disk.state l.disk).asked;
}

abbrev pub decreases-loop-at : goal.decreases-loop-at
decreases-loop-at g l = l.size - l.at
