-- The blocks that were read last.
use Rattle.std.specs.Prelude.{ℕ, ℤ, ◌+◌, ◌-◌, ◌*◌, ◌<◌, ◌≤◌, List, All, length}
use Rattle.snd_ms_adpcm.specs.Four.{part}
use Rattle.snd_ima_adpcm.specs.Frames.{Is16Bit}
use Rattle.snd_disk.specs.Device.{Tells}
use Rattle.snd_disk.specs.State.{State}
use Rattle.snd_layout.specs.Blocks.{block_frames}
use Rattle.snd_layout.specs.Shape.{Shape}
use Rattle.snd_blocks.specs.declared.buffer.BlockCache.{BlockCache}
use Rattle.snd_blocks.specs.Calls.{IsBlock, block_at}
use Rattle.snd_blocks.specs.Fetching.{HoldBlocks}

-- how many there are, the first one's number, and their samples, those of one behind those of another
abbrev pub count_cached : BlockCache → ℕ
count_cached cache = cache.count

abbrev pub first_cached : BlockCache → ℕ
first_cached cache = cache.first

abbrev pub samples_cached : BlockCache → List ℤ
samples_cached cache = cache.samples.items

-- where the bytes of blocks are read
abbrev pub bytes_cached : BlockCache → List ℕ
bytes_cached cache = cache.bytes

abbrev pub IsCached : BlockCache → ℕ → Type 0
IsCached cache number = (first_cached cache ≤ number) × (number < first_cached cache + count_cached cache)

-- all from one up to another are kept
abbrev pub AreKept : BlockCache → ℕ → ℕ → Type 0
AreKept cache from until = (n : ℕ) → from ≤ n → n < until → IsCached cache n

-- the numbers of a block
abbrev pub block_numbers : Shape → ℕ
block_numbers s = s.params.channels * block_frames s.params.codec

-- the samples of one of the kept blocks
abbrev pub block_cached : Shape → BlockCache → ℕ → List ℤ
block_cached s cache number = part (block_numbers s) (number - first_cached cache) (samples_cached cache)

-- what is kept are blocks of a file
abbrev pub HasBlocks : List ℕ → Shape → BlockCache → Type 0
HasBlocks b s cache = (n : ℕ) → IsCached cache n → IsBlock s.params (block_at b s n) (block_cached s cache n)

-- .. where the bytes that were read are those of some of its blocks
abbrev pub HasBlocksOf : Shape → ℕ → ℕ → BlockCache → Type 0
HasBlocksOf s first next cache = (b : List ℕ) → HoldBlocks b s first next (bytes_cached cache) → HasBlocks b s cache

-- what is kept are blocks of the file of a layout, where its disk tells the contents
pub record Caches {D : Type 0} (state : D → State) (disk : D) (s : Shape) (cache : BlockCache) : Type 0 where
  pub right : (n : ℕ) (b : List ℕ) → IsCached cache n → Tells state disk b → IsBlock s.params (block_at b s n) (block_cached s cache n)
  pub whole : count_cached cache * block_numbers s ≤ length (samples_cached cache)
  pub range : (n : ℕ) → IsCached cache n → All Is16Bit (samples_cached cache)
