-- Blocks of samples. Their size is what WAVE calls the block align.
use Rattle.std.specs.Prelude.{ℕ, ◌*◌, ◌==◌, Bool, true, false, ◌&&◌}
use Rattle.snd_fields.specs.Blocks.{is_ima_align, ima_samples_per_block, is_ms_align, ms_samples_per_block}
use Rattle.snd_layout.specs.declared.codec.Codec.{Codec}
use Rattle.snd_layout.specs.declared.codec.Codec.TheVariants.{U8, S8, S16, S24, S32, MuLaw, ALaw, Ima, Ms}

-- whether samples stand in blocks, and so have no bytes of their own
abbrev pub is_adpcm : Codec → Bool
is_adpcm (Ima align per_block) = true
is_adpcm (Ms align per_block) = true
is_adpcm _ = false

-- the bytes of a block: of a single frame, but for ADPCM
abbrev pub block_align : ℕ → Codec → ℕ
block_align channels U8 = channels
block_align channels S8 = channels
block_align channels (S16 order) = 2 * channels
block_align channels (S24 order) = 3 * channels
block_align channels (S32 order) = 4 * channels
block_align channels MuLaw = channels
block_align channels ALaw = channels
block_align channels (Ima align per_block) = align
block_align channels (Ms align per_block) = align

-- the frames of a block
abbrev pub block_frames : Codec → ℕ
block_frames (Ima align per_block) = per_block
block_frames (Ms align per_block) = per_block
block_frames _ = 1

-- whether blocks of an align with so many frames have the form of IMA ADPCM, and of Microsoft ADPCM
abbrev pub is_ima_block : ℕ → ℕ → ℕ → Bool
is_ima_block channels align per_block = is_ima_align channels align && (per_block == ima_samples_per_block channels align)

abbrev pub is_ms_block : ℕ → ℕ → ℕ → Bool
is_ms_block channels align per_block = is_ms_align channels align && (per_block == ms_samples_per_block channels align)
