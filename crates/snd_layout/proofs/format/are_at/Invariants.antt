use Rattle.std.proofs.Common.{◌≡◌, ◌+◌, ◌*◌, drop}
use Rattle.snd_layout.specs.Format.{are_at}
use Rattle.snd_layout.proofs.format.are_at.Given as goal

abbrev pub invariant-loop-i : goal.invariant-loop-i
invariant-loop-i l = are_at l.body (l.at + 2 * l.i) (drop l.i l.numbers) ≡ are_at l.body l.at l.numbers
