use Rattle.std.proofs.Common.{◌≡◌, ◌+◌, ◌*◌, ◌-◌, ◌≤◌, ◌^◌, List, ℕ, None, Some}
use Rattle.std.specs.Prelude.{IfSome}
use Rattle.snd_disk.specs.State.{AtMost, OnlyReads}
use Rattle.snd_voc.specs.Layout.{walk}
use Rattle.snd_voc.proofs.blocks.find_sound.Given as goal

abbrev pub invariant-loop-passed : goal.invariant-loop-passed
invariant-loop-passed g l = record {
  so_far : (b : List ℕ) → (g.D.Disk.state l.fn.disk).contents ≡ Some b → walk b l.most l.from None ≡ walk b (l.most - l._passed) l.place l.extension;
  size : l.size ≡ (g.D.Disk.state l.disk).size;
  near : l.place ≤ l.from + l._passed * 2 ^ 33;
  extension : IfSome l.extension (λ block. block.at ≤ l.place);
  calm : (g.D.Disk.state l.disk).faults ≡ (g.D.Disk.state l.fn.disk).faults;
  reads : OnlyReads (g.D.Disk.state l.fn.disk) (g.D.Disk.state l.disk) (g.D.Disk.may_leave l.fn.disk) (g.D.Disk.may_leave l.disk) (g.D.Disk.left_between l.fn.disk) (g.D.Disk.left_between l.disk);
  asked : AtMost (g.D.Disk.state l.fn.disk).asked (4 * l._passed) (g.D.Disk.state l.disk).asked;
}
