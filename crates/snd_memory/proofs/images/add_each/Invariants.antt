use Rattle.std.proofs.Common.{◌⊎◌}
use Rattle.std.specs.List.{All}
use Rattle.snd_memory.specs.Listed.{IsOneOf}
use Rattle.snd_memory.proofs.images.add_each.Given as goal

abbrev pub invariant-loop-x : goal.invariant-loop-x
invariant-loop-x l = All (λ v. IsOneOf l.fn.all.items v.items ⊎ IsOneOf l.more v.items) l.all.items
