use Rattle.std.proofs.Common.{◌≡◌, ◌+◌, drop, option_map}
use Rattle.snd_memory.specs.MemoryShelf.{place_of}
use Rattle.snd_memory.proofs.memory_shelf.find.Given as goal

abbrev pub invariant-loop-i : goal.invariant-loop-i
invariant-loop-i l = option_map (λ k. l.i + k) (place_of (drop l.i l.entries) l.name) ≡ place_of l.entries l.name
