-- Blocks of ADPCM in files that scripts make.
use Rattle.std.specs.Prelude.{◌≡◌, ◌*◌, ◌≤◌, ℕ, true}
use Rattle.snd_layout.specs.Blocks.{block_align, block_frames, is_adpcm}
use Rattle.snd_layout.specs.Params.{Parameters}
use Rattle.snd_layout.specs.declared.codec.Codec.{Codec}
use Rattle.snd_rules.specs.Desk.{Mode, encodes}

-- Blocks of ADPCM that scripts make have at most 2048 bytes, and at most 4 for each of their numbers.
abbrev pub HasSmallBlocks : ℕ → Codec → Type 0
HasSmallBlocks channels codec = is_adpcm codec ≡ true → block_align channels codec ≤ 2048

pub record AreSmall (p : Parameters) : Type 0 where
  pub bytes : block_align p.channels p.codec ≤ 2048
  pub numbers : block_align p.channels p.codec ≤ 4 * p.channels * block_frames p.codec

abbrev pub IsSmallIn : Mode → Parameters → Type 0
IsSmallIn mode p = encodes mode ≡ true → AreSmall p
