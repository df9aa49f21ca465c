use Rattle.std.proofs.Common.{◌≡◌, false, Ok}
use Rattle.snd_file.specs.Handle.{loan_of}
use Rattle.snd_generate.specs.Edited.{overwritten}
use Rattle.snd_generate.specs.Steps.{Becomes, Calls}
use Rattle.snd_generate.proofs.editing.edit_file.Given as goal

abbrev pub invariant-loop-i : goal.invariant-loop-i
invariant-loop-i g l = record {
  loan : loan_of l.file ≡ loan_of l.fn.file;
  becomes : Becomes g.E.Disk.state false l.frames l.frames (overwritten l.frames l.i) l.fn.file l.file;
  calls : Calls g.E.Disk.state g.E.Disk.left_between l.fn.file l.file (Ok (tt {0}));
}
