-- The body of a `fmt ` chunk, after Microsoft's WAVEFORMATEX and WAVEFORMATEXTENSIBLE (mmreg.h; "Multiple
-- Channel Audio Data and WAVE Files", 2001) and "New Multimedia Data Types and Data Techniques" 3.0 (1994).
use Rattle.std.specs.Prelude.{ℕ, ◌+◌, ◌-◌, ◌==◌, Bool, true, not, ◌&&◌, ◌||◌, Option, Result, Ok, Err, List, [], ◌∷◌, length, nat_le, nat_lt, if◌then◌else◌, ℤ, pos, negsuc}
use Rattle.snd_fields.specs.declared.field.Order.TheVariants.{Little, Big}
use Rattle.snd_fields.specs.Blocks.{newer_weights, older_weights}
use Rattle.snd_fields.specs.Field.{number}
use Rattle.snd_layout.specs.declared.codec.Codec.{Codec}
use Rattle.snd_layout.specs.declared.codec.Codec.TheVariants.{U8, S16, S24, S32, MuLaw as mulaw, ALaw as alaw, Ima as ima, Ms as ms}
use Rattle.snd_layout.specs.declared.format.Coding.{Coding}
use Rattle.snd_layout.specs.declared.format.Coding.TheVariants.{Linear, ALaw, MuLaw, Ima, Ms}
use Rattle.snd_layout.specs.declared.refusal.OpenRefusal.{OpenRefusal}
use Rattle.snd_layout.specs.declared.refusal.OpenRefusal.TheVariants.{UnknownCodec, FloatSamples, BadChannels, BadRate, BadBits, BadAlign, OtherCoefs, BadPair}
use Rattle.snd_layout.specs.Blocks.{block_align, is_ima_block, is_ms_block}
use Rattle.snd_layout.specs.Params.{Parameters, is_channel_count, size_refusal}
use Rattle.snd_layout.specs.Refusals.{first_refusal, refuse_if, unless}

-- the fields of WAVEFORMATEX, and the first of what ADPCM adds to it
abbrev pub format_tag : List ℕ → ℕ
format_tag b = number Little b 0 2

abbrev pub channels_of : List ℕ → ℕ
channels_of b = number Little b 2 2

abbrev pub rate_of : List ℕ → ℕ
rate_of b = number Little b 4 4

abbrev pub align_of : List ℕ → ℕ
align_of b = number Little b 12 2

abbrev pub bits_of : List ℕ → ℕ
bits_of b = number Little b 14 2

abbrev pub samples_per_block : List ℕ → ℕ
samples_per_block b = number Little b 18 2

-- the tags that an extensible body may name too: WAVE_FORMAT_PCM, _IEEE_FLOAT, _ALAW, _MULAW
abbrev pub coding_of_sub_tag : ℕ → Result Coding OpenRefusal
coding_of_sub_tag tag =
    if tag == 1 then Ok Linear else (if tag == 3 then Err FloatSamples else (if tag == 6 then Ok ALaw else (if tag == 7 then Ok MuLaw else Err UnknownCodec)))

-- all tags: WAVE_FORMAT_ADPCM, _DVI_ADPCM and those
abbrev pub coding_of_tag : ℕ → Result Coding OpenRefusal
coding_of_tag tag = if tag == 2 then Ok Ms else (if tag == 17 then Ok Ima else coding_of_sub_tag tag)

-- whether the SubFormat, the GUID in the 16 bytes from 24 on, is {0000TAG-0000-0010-8000-00AA00389B71}
abbrev pub has_tag_guid : List ℕ → Bool
has_tag_guid b = (number Little b 26 2 == 0) && (number Little b 28 2 == 0) && (number Little b 30 2 == 0x10) && (number Big b 32 8 == 0x8000_00aa_0038_9b71)

-- how the samples are coded: by the tag, and for WAVE_FORMAT_EXTENSIBLE by the SubFormat's
abbrev pub coding_of : List ℕ → Result Coding OpenRefusal
coding_of b =
    if format_tag b == 0xfffe
    then (if nat_le 40 (length b) && has_tag_guid b then coding_of_sub_tag (number Little b 24 2) else Err UnknownCodec)
    else coding_of_tag (format_tag b)

-- the linear codec with so many bits, which are 8, 16, 24 or 32
abbrev pub linear_codec : ℕ → Codec
linear_codec bits = if bits == 8 then U8 else (if bits == 16 then S16 Little else (if bits == 24 then S24 Little else S32 Little))

abbrev pub is_bit_count : ℕ → Bool
is_bit_count bits = (bits == 8) || (bits == 16) || (bits == 24) || (bits == 32)

-- the codec
abbrev pub codec_of : Coding → List ℕ → Codec
codec_of Ima b = ima (align_of b) (samples_per_block b)
codec_of Ms b = ms (align_of b) (samples_per_block b)
codec_of ALaw b = alaw
codec_of MuLaw b = mulaw
codec_of Linear b = linear_codec (bits_of b)

-- a number of 16 bits in two's complement
abbrev pub word : ℤ → ℕ
word (pos n) = n
word (negsuc n) = 65535 - n

-- the words of two lists in turn
abbrev pub words_in_turn : List ℤ → List ℤ → List ℕ
words_in_turn [] ys = []
words_in_turn (x ∷ xs) [] = []
words_in_turn (x ∷ xs) (y ∷ ys) = word x ∷ word y ∷ words_in_turn xs ys

-- the 7 pairs of coefficients of Microsoft ADPCM
abbrev pub coefficients : List ℕ
coefficients = words_in_turn newer_weights older_weights

-- whether these numbers of 16 bits stand side by side from a place on
abbrev pub are_at : List ℕ → ℕ → List ℕ → Bool
are_at b at [] = true
are_at b at (n ∷ numbers) = (number Little b at 2 == n) && are_at b (at + 2) numbers

abbrev pub has_coefficients : List ℕ → Bool
has_coefficients b = nat_le 50 (length b) && (number Little b 20 2 == 7) && are_at b 22 coefficients

-- a law has a byte a sample, whatever the bits
abbrev pub law_refusal : List ℕ → Option OpenRefusal
law_refusal b = refuse_if (not (align_of b == channels_of b)) BadAlign

-- why the bits or the blocks are refused
abbrev pub coding_refusal : Coding → List ℕ → Option OpenRefusal
coding_refusal Ima b = first_refusal (
    size_refusal (nat_le 20 (length b) && is_ima_block (channels_of b) (align_of b) (samples_per_block b)) (align_of b)
    ∷ refuse_if (nat_lt 2 (channels_of b)) BadPair ∷ [])
coding_refusal Ms b = first_refusal (
    size_refusal (nat_le 22 (length b) && is_ms_block (channels_of b) (align_of b) (samples_per_block b)) (align_of b)
    ∷ refuse_if (not (has_coefficients b)) OtherCoefs
    ∷ refuse_if (nat_lt 2 (channels_of b)) BadPair ∷ [])
coding_refusal Linear b = first_refusal (
    refuse_if (not (is_bit_count (bits_of b))) BadBits
    ∷ refuse_if (not (align_of b == block_align (channels_of b) (linear_codec (bits_of b)))) BadAlign ∷ [])
coding_refusal ALaw b = law_refusal b
coding_refusal MuLaw b = law_refusal b

-- why a body is refused whose coding is known
abbrev pub format_refusal : Coding → List ℕ → Option OpenRefusal
format_refusal coding b = first_refusal (
    refuse_if (not (is_channel_count (channels_of b))) BadChannels
    ∷ refuse_if (rate_of b == 0) BadRate
    ∷ coding_refusal coding b ∷ [])

abbrev pub parameters : Coding → List ℕ → Parameters
parameters coding b = record { channels = channels_of b; rate = rate_of b; codec = codec_of coding b }

abbrev pub coded_format : Result Coding OpenRefusal → List ℕ → Result Parameters OpenRefusal
coded_format (Err refusal) b = Err refusal
coded_format (Ok coding) b = unless (format_refusal coding b) (parameters coding b)

-- the parameters that a body of at least 16 bytes states, or why it is refused
abbrev pub format_of : List ℕ → Result Parameters OpenRefusal
format_of b = coded_format (coding_of b) b
