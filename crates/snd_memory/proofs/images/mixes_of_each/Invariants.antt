use Rattle.std.specs.List.{All}
use Rattle.snd_memory.specs.Listed.{IsMixedFrom}
use Rattle.snd_memory.proofs.images.mixes_of_each.Given as goal

abbrev pub invariant-loop-y : goal.invariant-loop-y
invariant-loop-y l = All (λ v. IsMixedFrom l.all l.z v.items) l.made.items
