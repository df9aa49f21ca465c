use Rattle.std.proofs.Common.{◌≡◌, drop}
use Rattle.std.specs.List.{list_all}
use Rattle.snd_rack.specs.Spec.{item_of, parts}
use Rattle.snd_rack.proofs.Listed.{says}
use Rattle.snd_rack.proofs.spec.RackSpec.read.Given as goal

abbrev pub invariant-loop-at : goal.invariant-loop-at
invariant-loop-at l = list_all (says item_of) (drop l.at (parts 44 l.text)) ≡ list_all (says item_of) (parts 44 l.text)
