-- Blocks that are taken four at a time, and, for the proofs alone, the samples of four that are decoded together.
use Rattle.std.specs.Prelude.{◌≡◌, ℕ, ℤ, ◌+◌, ◌*◌, ◌<◌, ◌≤◌, List, All, length}
use Rattle.snd_ms_adpcm.specs.Four.{AreSamples, part}
use Rattle.snd_ima_adpcm.specs.Frames.{Is16Bit}
use Rattle.snd_layout.specs.declared.codec.Codec.{Codec}
use Rattle.snd_layout.specs.declared.codec.Codec.TheVariants.{Ms}
use Rattle.snd_layout.specs.Blocks.{block_align, block_frames}
use Rattle.snd_layout.specs.Params.{Parameters}
use Rattle.snd_layout.specs.Shape.{Shape}
use Rattle.snd_blocks.specs.declared.fetch.Fetched.{Fetched}
use Rattle.snd_blocks.specs.Fetching.{block_among}

abbrev pub IsMs : Codec → Type 0
IsMs (Ms align per_block) = Unit {0}
IsMs codec = ⊥

-- blocks of Microsoft ADPCM of two channels, with room for four
pub record IsFourfold (p : Parameters) : Type 0 where
  pub ms : IsMs p.codec
  pub two : p.channels ≡ 2
  pub small : 4 * block_align p.channels p.codec ≤ 8192

-- samples are those of four good blocks from one on, whose bytes were read
pub record AreFourOf (s : Shape) (fetched : Fetched) (number : ℕ) (bytes : List ℕ) (samples : List ℤ) : Type 0 where
  pub fourfold : IsFourfold s.params
  pub read : number + 4 ≤ fetched.next
  pub each : (j : ℕ) → j < 4 → AreSamples (block_among bytes s fetched.first (number + j)) (part (2 * block_frames s.params.codec) j samples)
  pub whole : length samples ≡ 8 * block_frames s.params.codec
  pub range : All Is16Bit samples
