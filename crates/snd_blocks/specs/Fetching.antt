-- The bytes of blocks, which are read as many at a time as there is room for.
use Rattle.std.specs.Prelude.{◌≡◌, ℕ, ◌-◌, ◌*◌, ◌<◌, ◌≤◌, List, drop, take}
use Rattle.snd_disk.specs.Device.{Tells}
use Rattle.snd_disk.specs.State.{State}
use Rattle.snd_layout.specs.Blocks.{block_align}
use Rattle.snd_layout.specs.Shape.{Shape}
use Rattle.snd_blocks.specs.declared.fetch.Fetched.{Fetched}
use Rattle.snd_blocks.specs.Calls.{block_at}

-- a block among the bytes of those from one on
abbrev pub block_among : List ℕ → Shape → ℕ → ℕ → List ℕ
block_among bytes s first number = take (block_align s.params.channels s.params.codec) (drop ((number - first) * block_align s.params.channels s.params.codec) bytes)

-- bytes are those of the blocks from one up to another
abbrev pub HoldBlocks : List ℕ → Shape → ℕ → ℕ → List ℕ → Type 0
HoldBlocks b s first next bytes = (number : ℕ) → first ≤ number → number < next → block_among bytes s first number ≡ block_at b s number

-- what was read holds blocks of the file of a layout, all before a limit, where its disk tells the contents
pub record Fetches {D : Type 0} (state : D → State) (disk : D) (s : Shape) (limit : ℕ) (fetched : Fetched) (bytes : List ℕ) : Type 0 where
  pub right : (b : List ℕ) → Tells state disk b → HoldBlocks b s fetched.first fetched.next bytes
  pub room : (fetched.next - fetched.first) * block_align s.params.channels s.params.codec ≤ 8192
  pub most : fetched.next ≤ limit
