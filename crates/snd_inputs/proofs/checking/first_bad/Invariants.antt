use Rattle.std.proofs.Common.{◌≡◌, ℕ, ◌<◌, List, Ok, false, get_or, take}
use Rattle.snd_disk.specs.Shelf.{Files}
use Rattle.snd_disk.specs.Shelves.{TellsFiles}
use Rattle.snd_edits.specs.Editing.{Editing}
use Rattle.snd_inputs.specs.Asking.{AsksForEach}
use Rattle.snd_inputs.specs.Inputs.{inputs_in, is_bad}
use Rattle.snd_inputs.specs.Looking.{ReadsFiles}
use Rattle.snd_inputs.proofs.checking.first_bad.Given as goal

abbrev pub invariant-loop-at : goal.invariant-loop-at
invariant-loop-at g l = record {
  good : (files : Files) (es : List Editing) → TellsFiles g.S.Shelf.state l.fn.shelf files → inputs_in files l.fn.names ≡ Ok es
      → (k : ℕ) (d : Editing) → k < l.at → is_bad (get_or es k d) ≡ false;
  calm : (g.S.Shelf.state l.shelf).faults ≡ (g.S.Shelf.state l.fn.shelf).faults;
  reads : ReadsFiles g.S.Shelf l.fn.shelf l.shelf;
  asked : AsksForEach 1 16384 g.S.Shelf.state (take l.at l.fn.names) l.fn.shelf l.shelf;
}
