use Rattle.std.proofs.Common.{◌≡◌, ◌-◌, ◌*◌, ◌≤◌, ◌<◌, ℕ, List, Some, false, drop, take, min}
use Rattle.snd_disk.specs.State.{AtMost, OnlyReads}
use Rattle.snd_search.specs.Marks.{begins}
use Rattle.snd_search.proofs.data.find_mark.Given as goal

abbrev pub invariant-loop-at : goal.invariant-loop-at
invariant-loop-at g l = record {
  so_far : (b : List ℕ) → (g.D.Disk.state l.fn.disk).contents ≡ Some b → (i : ℕ) → l.from ≤ i → i < l.at → begins l.mark (drop i (take l.size b)) ≡ false;
  behind : l.from ≤ l.at;
  size : l.size ≤ (g.D.Disk.state l.disk).size;
  calm : (g.D.Disk.state l.disk).faults ≡ (g.D.Disk.state l.fn.disk).faults;
  reads : OnlyReads (g.D.Disk.state l.fn.disk) (g.D.Disk.state l.disk) (g.D.Disk.may_leave l.fn.disk) (g.D.Disk.may_leave l.disk) (g.D.Disk.left_between l.fn.disk) (g.D.Disk.left_between l.disk);
  asked : AtMost (g.D.Disk.state l.fn.disk).asked (2 * (min l.at l.size - l.from)) (g.D.Disk.state l.disk).asked;
}

abbrev pub decreases-loop-at : goal.decreases-loop-at
decreases-loop-at g l = l.size - l.at
