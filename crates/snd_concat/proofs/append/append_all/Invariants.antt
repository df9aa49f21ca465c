use Rattle.std.proofs.Common.{◌≡◌, ◌+◌, List, Ok, take}
use Rattle.snd_disk.specs.Device.{GoesOnFrom}
use Rattle.snd_disk.specs.Shelf.{Files}
use Rattle.snd_disk.specs.Shelves.{TellsFiles}
use Rattle.snd_inputs.specs.Asking.{AsksForEach}
use Rattle.snd_inputs.specs.Inputs.{inputs_in}
use Rattle.snd_inputs.specs.Looking.{ReadsFiles}
use Rattle.snd_edits.specs.Editing.{Editing}
use Rattle.snd_file.specs.Handle.{codec_of, disk_of, known_of, loan_of}
use Rattle.snd_file.specs.Outcomes.{AsksNothing, TellsOn}
use Rattle.snd_output.specs.Appended.{Gains}
use Rattle.snd_concat.specs.Appending.{AllFollow, StillMade}
use Rattle.snd_concat.specs.Concat.{all_frames, all_numbers, shapes_of}
use Rattle.snd_concat.proofs.append.append_all.Given as goal

abbrev pub invariant-loop-at : goal.invariant-loop-at
invariant-loop-at g l = record {
  made : StillMade (known_of l.fn.to) (known_of l.to);
  loan : loan_of l.to ≡ loan_of l.fn.to;
  reads : ReadsFiles g.S.Shelf l.fn.shelf l.shelf;
  calm : (g.S.Shelf.state l.shelf).faults ≡ (g.S.Shelf.state l.fn.shelf).faults;
  to_calm : (g.E.Disk.state (disk_of l.to)).faults ≡ (g.E.Disk.state (disk_of l.fn.to)).faults;
  asked : AsksForEach 1 16384 g.S.Shelf.state (take l.at l.fn.names) l.fn.shelf l.shelf;
  unasked : AsksNothing g.E.Disk.state l.fn.to l.to;
  tells : TellsOn g.E.Disk.state l.fn.to l.to;
  time : GoesOnFrom g.E.Disk.state g.E.Disk.left_between (disk_of l.fn.to) (disk_of l.to);
  so_far : (files : Files) (es : List Editing) → TellsFiles g.S.Shelf.state l.fn.shelf files → inputs_in files l.fn.names ≡ Ok es → AllFollow (shapes_of es) (known_of l.fn.to)
      → ((known_of l.to).write_place ≡ (known_of l.fn.to).write_place + all_frames (shapes_of (take l.at es))) × Gains g.E.Disk.state (all_numbers (codec_of l.fn.to) (take l.at es)) l.fn.to l.to;
}
