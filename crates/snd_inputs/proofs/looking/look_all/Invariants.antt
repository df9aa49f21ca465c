use Rattle.std.proofs.Common.{◌≡◌, All, Ok, take}
use Rattle.snd_disk.specs.Shelf.{Files}
use Rattle.snd_disk.specs.Shelves.{TellsFiles}
use Rattle.snd_inputs.specs.Inputs.{inputs_in}
use Rattle.snd_inputs.specs.Looking.{AsksToLook, IsReadable, ReadsFiles, all_seen}
use Rattle.snd_inputs.proofs.looking.look_all.Given as goal

abbrev pub invariant-loop-at : goal.invariant-loop-at
invariant-loop-at g l = record {
  so_far : (files : Files) → TellsFiles g.S.Shelf.state l.fn.shelf files → all_seen (inputs_in files (take l.at l.fn.names)) ≡ Ok l.layouts.items;
  readable : All IsReadable l.layouts.items;
  calm : (g.S.Shelf.state l.shelf).faults ≡ (g.S.Shelf.state l.fn.shelf).faults;
  reads : ReadsFiles g.S.Shelf l.fn.shelf l.shelf;
  asked : AsksToLook l.at (g.S.Shelf.state l.fn.shelf) (g.S.Shelf.state l.shelf);
}
