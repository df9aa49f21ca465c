use Rattle.std.proofs.Common.{◌≡◌, ◌<◌, take}
use Rattle.snd_disk.specs.Shelf.{Files, KeepsFiles}
use Rattle.snd_disk.specs.Shelves.{TellsFiles}
use Rattle.snd_app.specs.Look.{OnlyLooks}
use Rattle.snd_app.specs.Outcome.{outcome_of_infos}
use Rattle.snd_tools.specs.Shelves.{IsAllIn}
use Rattle.snd_app.specs.Run.{IsCalm, KeepsAllImages, Prints, told_by}
use Rattle.snd_app.proofs.program.run_infos.Given as goal

abbrev pub invariant-loop-at : goal.invariant-loop-at
invariant-loop-at g l = record {
  so_far : (files : Files) → TellsFiles g.S.Shelf.state l.fn.shelf files
      → (l.status ≡ (outcome_of_infos (take l.at l.fn.names) files).status)
      × Prints (outcome_of_infos (take l.at l.fn.names) files) (told_by g.O.Sink l.fn.out l.out) (told_by g.E.Sink l.fn.err l.err);
  low : l.status < 3;
  calm : IsCalm g.S.Shelf g.O.Sink g.E.Sink l.fn.shelf l.fn.out l.fn.err l.shelf l.out l.err;
  all_in : IsAllIn (g.S.Shelf.state l.shelf);
  files : KeepsFiles (g.S.Shelf.state l.fn.shelf) (g.S.Shelf.state l.shelf);
  images : KeepsAllImages g.S.Shelf l.fn.shelf l.shelf;
  looks : OnlyLooks l.at (g.S.Shelf.state l.fn.shelf) (g.S.Shelf.state l.shelf);
}
