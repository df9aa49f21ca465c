-- The parameters of a sound, and which are refused.
use Rattle.std.specs.Prelude.{◌≡◌, ℕ, ◌+◌, ◌-◌, ◌*◌, ◌/◌, ◌^◌, ◌<◌, ◌≤◌, Bool, ◌&&◌, Option, Some, None, Result, nat_le, nat_lt, if◌then◌else◌}
use Rattle.snd_layout.specs.declared.codec.Codec.{Codec}
use Rattle.snd_layout.specs.declared.codec.Codec.TheVariants.{Ima, Ms}
use Rattle.snd_layout.specs.declared.refusal.OpenRefusal.{OpenRefusal}
use Rattle.snd_layout.specs.declared.refusal.OpenRefusal.TheVariants.{BadChannels, BadRate, BadAlign, BlockTooLarge}
use Rattle.snd_layout.specs.Blocks.{block_align, block_frames, is_ima_block, is_ms_block}
use Rattle.snd_layout.specs.Refusals.{unless}

pub record Parameters : Type 0 where
  pub channels : ℕ
  pub rate : ℕ
  pub codec : Codec

abbrev pub is_channel_count : ℕ → Bool
is_channel_count channels = nat_le 1 channels && nat_le channels 256

-- why a block of this size is refused, where its form is good or not
abbrev pub size_refusal : Bool → ℕ → Option OpenRefusal
size_refusal good align = if good then (if nat_le align 8192 then None else Some BlockTooLarge) else Some BadAlign

-- why the blocks of a codec are refused; for more than two channels, which no file holds, they are not judged
abbrev pub block_refusal : ℕ → Codec → Option OpenRefusal
block_refusal channels (Ima align per_block) = if nat_le channels 2 then size_refusal (is_ima_block channels align per_block) align else None
block_refusal channels (Ms align per_block) = if nat_le channels 2 then size_refusal (is_ms_block channels align per_block) align else None
block_refusal channels _ = None

-- why parameters are refused: by the channels, then by the rate, then by the blocks
abbrev pub params_refusal : ℕ → ℕ → Codec → Option OpenRefusal
params_refusal channels rate codec =
    if is_channel_count channels
    then (if nat_le 1 rate && nat_lt rate (2 ^ 32) then block_refusal channels codec else Some BadRate)
    else Some BadChannels

abbrev pub params_of : ℕ → ℕ → Codec → Result Parameters OpenRefusal
params_of channels rate codec = unless (params_refusal channels rate codec) (record { channels = channels; rate = rate; codec = codec })

-- what holds of all parameters
pub record AreParams (p : Parameters) : Type 0 where
  pub some_channel : 1 ≤ p.channels
  pub most_channels : p.channels ≤ 256
  pub some_rate : 1 ≤ p.rate
  pub most_rate : p.rate < 2 ^ 32
  pub blocks : block_refusal p.channels p.codec ≡ None

-- the bytes of so many frames, which stand in whole blocks
abbrev pub data_bytes : Parameters → ℕ → ℕ
data_bytes p frames = (frames + block_frames p.codec - 1) / block_frames p.codec * block_align p.channels p.codec
