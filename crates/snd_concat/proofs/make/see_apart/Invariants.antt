use Rattle.std.proofs.Common.{◌≡◌}
use Rattle.snd_inputs.specs.Looking.{ReadsFiles}
use Rattle.snd_concat.proofs.make.see_apart.Given as goal

abbrev pub invariant-loop-at : goal.invariant-loop-at
invariant-loop-at g l = record {
  calm : (g.S.Shelf.state l.shelf).faults ≡ (g.S.Shelf.state l.fn.shelf).faults;
  reads : ReadsFiles g.S.Shelf l.fn.shelf l.shelf;
  unasked : (g.S.Shelf.state l.shelf).asked ≡ (g.S.Shelf.state l.fn.shelf).asked;
}
