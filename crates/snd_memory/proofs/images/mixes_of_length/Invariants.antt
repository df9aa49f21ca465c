use Rattle.std.specs.List.{All}
use Rattle.snd_memory.specs.Listed.{IsMixOfLen}
use Rattle.snd_memory.proofs.images.mixes_of_length.Given as goal

abbrev pub invariant-loop-sector : goal.invariant-loop-sector
invariant-loop-sector l = All (λ v. IsMixOfLen l.y l.z l.len v.items) l.all.items
