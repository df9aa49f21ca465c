-- Streams in memory, as streams.
use Rattle.std.specs.Prelude.{ℕ, List, drop, Option, Some}
use Rattle.snd_memory.specs.declared.memory_streams.MemorySource.{MemorySource}
use Rattle.snd_memory.specs.declared.memory_streams.MemorySink.{MemorySink}

abbrev pub bytes_left : MemorySource → Option (List ℕ)
bytes_left s = Some (drop s.at s.bytes.items)

abbrev pub bytes_told : MemorySink → Option (List ℕ)
bytes_told s = Some s.bytes.items
