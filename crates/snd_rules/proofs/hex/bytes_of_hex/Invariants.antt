use Rattle.std.proofs.Common.{◌≡◌, ◌++◌, length}
use Rattle.snd_rules.specs.Hex.{bytes_of_hex}
use Rattle.snd_rules.proofs.hex.bytes_of_hex.Given as goal

abbrev pub invariant-loop-rest : goal.invariant-loop-rest
invariant-loop-rest l = l.bytes.items ++ bytes_of_hex l.rest ≡ bytes_of_hex l.fn.digits

abbrev pub decreases-loop-rest : goal.decreases-loop-rest
decreases-loop-rest l = length l.rest
