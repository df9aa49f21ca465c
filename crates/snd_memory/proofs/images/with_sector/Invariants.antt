use Rattle.std.proofs.Common.{◌≡◌, ◌/◌, map, get_or, cond, eqb}
use Rattle.std.specs.List.{range_with_len}
use Rattle.snd_memory.proofs.images.with_sector.Given as goal

abbrev pub invariant-loop-i : goal.invariant-loop-i
invariant-loop-i l = l.bytes.items ≡ map (λ i. cond (eqb (i / 512) l.sector) (get_or l.z i 0) (get_or l.x i 0)) (range_with_len 0 l.i)
