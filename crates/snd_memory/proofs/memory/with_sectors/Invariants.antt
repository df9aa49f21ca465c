use Rattle.std.proofs.Common.{◌≡◌, ◌/◌, map, get_or, cond}
use Rattle.std.specs.List.{range_with_len}
use Rattle.std.specs.Prelude.{nat_lt}
use Rattle.snd_memory.proofs.memory.with_sectors.Given as goal

abbrev pub invariant-loop-i : goal.invariant-loop-i
invariant-loop-i l = l.bytes.items ≡ map (λ i. cond (nat_lt (i / 512) l.sectors) (get_or l.new i 0) (get_or l.old i 0)) (range_with_len 0 l.i)
