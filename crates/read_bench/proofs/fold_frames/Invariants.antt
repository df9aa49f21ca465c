use Rattle.std.proofs.Common.{◌≡◌}
use Rattle.snd_file.specs.Handle.{disk_of, loan_of}
use Rattle.read_bench.proofs.fold_frames.Given as goal

abbrev pub invariant-loop-left : goal.invariant-loop-left
invariant-loop-left g l = record {
  same_loan : loan_of l.file ≡ loan_of l.fn.file;
  name : (g.D.Disk.state (disk_of l.file)).name ≡ (g.D.Disk.state (disk_of l.fn.file)).name;
}

abbrev pub decreases-loop-left : goal.decreases-loop-left
decreases-loop-left g l = l.left
