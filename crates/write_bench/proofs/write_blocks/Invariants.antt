use Rattle.std.proofs.Common.{◌≡◌}
use Rattle.snd_file.specs.Handle.{disk_of, loan_of}
use Rattle.write_bench.proofs.write_blocks.Given as goal

abbrev pub invariant-loop-i : goal.invariant-loop-i
invariant-loop-i g l = record {
  same_loan : loan_of l.file ≡ loan_of l.initial.file;
  name : (g.D.Disk.state (disk_of l.file)).name ≡ (g.D.Disk.state (disk_of l.initial.file)).name;
}
