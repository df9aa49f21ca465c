use Rattle.std.specs.List.{All}
use Rattle.snd_memory.specs.Listed.{IsDoubled}
use Rattle.snd_memory.proofs.images.doubled.Given as goal

abbrev pub invariant-loop-x : goal.invariant-loop-x
invariant-loop-x l = All (λ v. IsDoubled l.all l.z l.sector v.items) l.made.items
