-- The blocks of ADPCM that this library writes. Their size is its own choice: so many bytes for each channel, by the rate.
use Rattle.std.specs.Prelude.{ℕ, ◌*◌, nat_lt, if◌then◌else◌}
use Rattle.snd_fields.specs.Blocks.{ima_samples_per_block, ms_samples_per_block}
use Rattle.snd_layout.specs.declared.codec.Codec.{Codec}
use Rattle.snd_layout.specs.declared.codec.Codec.TheVariants.{Ima, Ms}

abbrev pub channel_align : ℕ → ℕ
channel_align rate = if nat_lt rate 12000 then 256 else (if nat_lt rate 23000 then 512 else 1024)

-- no kind holds ADPCM of more than two channels: the blocks are those of two then
abbrev pub block_channels : ℕ → ℕ
block_channels channels = if nat_lt 1 channels then 2 else 1

abbrev pub made_align : ℕ → ℕ → ℕ
made_align channels rate = block_channels channels * channel_align rate

-- the codec of a file that is made, by its channels and its rate
abbrev pub ima_made : ℕ → ℕ → Codec
ima_made channels rate = Ima (made_align channels rate) (ima_samples_per_block (block_channels channels) (made_align channels rate))

abbrev pub ms_made : ℕ → ℕ → Codec
ms_made channels rate = Ms (made_align channels rate) (ms_samples_per_block (block_channels channels) (made_align channels rate))
