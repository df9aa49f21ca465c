-- The body of a `fmt ` chunk as it is written: WAVEFORMATEX, cut before cbSize for linear samples, and
-- for ADPCM with IMAADPCMWAVEFORMAT's or ADPCMWAVEFORMAT's further fields.
use Rattle.std.specs.Prelude.{◌≡◌, ℕ, ◌-◌, ◌*◌, ◌/◌, ◌^◌, List, [], ◌++◌, None, Ok, min}
use Rattle.std.specs.List.{flat_map}
use Rattle.snd_fields.specs.declared.field.Order.TheVariants.{Little}
use Rattle.snd_fields.specs.Field.{bytes_of}
use Rattle.snd_layout.specs.declared.codec.Codec.{Codec}
use Rattle.snd_layout.specs.declared.codec.Codec.TheVariants.{S16, S24, S32, MuLaw, ALaw, Ima, Ms}
use Rattle.snd_layout.specs.declared.kind.Kind.TheVariants.{Wave}
use Rattle.snd_layout.specs.Blocks.{block_align, block_frames}
use Rattle.snd_layout.specs.Fit.{fit_refusal}
use Rattle.snd_layout.specs.Format.{coefficients, format_of}
use Rattle.snd_layout.specs.Params.{AreParams, Parameters}

-- WAVE_FORMAT_ADPCM, _ALAW, _MULAW, _DVI_ADPCM, and _PCM for all others
abbrev pub tag_of : Codec → ℕ
tag_of (Ms align per_block) = 2
tag_of ALaw = 6
tag_of MuLaw = 7
tag_of (Ima align per_block) = 17
tag_of _ = 1

abbrev pub bits_per_sample : Codec → ℕ
bits_per_sample (S16 order) = 16
bits_per_sample (S24 order) = 24
bits_per_sample (S32 order) = 32
bits_per_sample (Ima align per_block) = 4
bits_per_sample (Ms align per_block) = 4
bits_per_sample _ = 8

-- the bytes of a second, rounded down, or the greatest number that the field holds
abbrev pub bytes_per_second : Parameters → ℕ
bytes_per_second p = min (2 ^ 32 - 1) (p.rate * block_align p.channels p.codec / block_frames p.codec)

-- what follows wBitsPerSample: cbSize and so many bytes
abbrev pub extension : Codec → List ℕ
extension MuLaw = bytes_of Little 2 0
extension ALaw = bytes_of Little 2 0
extension (Ima align per_block) = bytes_of Little 2 2 ++ bytes_of Little 2 per_block
extension (Ms align per_block) = bytes_of Little 2 32 ++ bytes_of Little 2 per_block ++ bytes_of Little 2 7 ++ flat_map (bytes_of Little 2) coefficients
extension _ = []

abbrev pub written_format : Parameters → List ℕ
written_format p =
    bytes_of Little 2 (tag_of p.codec) ++ bytes_of Little 2 p.channels ++ bytes_of Little 4 p.rate ++ bytes_of Little 4 (bytes_per_second p)
    ++ bytes_of Little 2 (block_align p.channels p.codec) ++ bytes_of Little 2 (bits_per_sample p.codec) ++ extension p.codec

-- what is written reads back
abbrev pub WrittenFormatReadsBack : Type 0
WrittenFormatReadsBack = (p : Parameters) → AreParams p → fit_refusal Wave p ≡ None → format_of (written_format p) ≡ Ok p
