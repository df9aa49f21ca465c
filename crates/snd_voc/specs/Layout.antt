-- What a Creative Voice file says of itself, after "The Developer Kit for Sound Blaster Series" (Creative Labs, 1991), appendix
-- "Creative Voice File Format", with the blocks of types 8 and 9 that came later. A damaged file is read as far as it holds;
-- the rules for that, and which blocks are passed over, are this library's own.
use Rattle.std.specs.Prelude.{ℕ, zero, suc, ◌+◌, ◌-◌, ◌*◌, ◌/◌, ◌%◌, ◌^◌, ◌==◌, Bool, true, false, not, ◌&&◌, ◌||◌, List, [], ◌∷◌, Option, None, Some, Result, Ok, Err, get_or, length, min, nat_le, nat_lt, if◌then◌else◌}
use Rattle.snd_fields.specs.declared.field.Order.TheVariants.{Little}
use Rattle.snd_fields.specs.Field.{number}
use Rattle.snd_layout.specs.Blocks.{block_align}
use Rattle.snd_layout.specs.Params.{Parameters, params_refusal}
use Rattle.snd_layout.specs.Refusals.{first_refusal, refuse_if, unless}
use Rattle.snd_layout.specs.Shape.{Shape}
use Rattle.snd_layout.specs.declared.codec.Codec.{Codec}
use Rattle.snd_layout.specs.declared.codec.Codec.TheVariants.{U8, S16, MuLaw, ALaw}
use Rattle.snd_layout.specs.declared.kind.Kind.TheVariants.{Voc}
use Rattle.snd_layout.specs.declared.refusal.OpenRefusal.{OpenRefusal}
use Rattle.snd_layout.specs.declared.refusal.OpenRefusal.TheVariants.{ShortHeader, BadField, TooManyChunks, NoFormat, NoData, LeadingBlock, UnknownCodec, BadChannels, BadBits}
use Rattle.snd_voc.specs.declared.blocks.Block.{Block}
use Rattle.snd_voc.specs.declared.blocks.Seen.{Seen}
use Rattle.snd_voc.specs.declared.blocks.Seen.TheVariants.{Found, Refused, Passed}
use Rattle.snd_voc.specs.declared.blocks.Sound.{Sound}

-- The head of the file: behind 20 bytes that tell its kind stand the size of the head, the version, and a check of the version.
abbrev pub head_size : List ℕ → ℕ
head_size b = number Little b 20 2

abbrev pub check_of : ℕ → ℕ
check_of version = (65535 - version + 0x1234) % 65536

abbrev pub is_head : List ℕ → Bool
is_head b = nat_le 26 (head_size b) && (number Little b 24 2 == check_of (number Little b 22 2))

-- ---- the walk over blocks, each a byte that tells its type, three of size, and the body

-- the size of the block at a place
abbrev pub size_at : List ℕ → ℕ → ℕ
size_at b place = number Little b (place + 1) 3

-- What the walk sees where a block has this type and size: sound without or with a format of its own, 1 and 9; sound that goes
-- on, silence, and repeats, 2, 3, 6 and 7, which do not come first; the end, 0; or a block that is passed over, of which the
-- file may hold a part alone.
abbrev pub seen_of : ℕ → ℕ → ℕ → Seen
seen_of kind len place =
    if (kind == 1) || (kind == 9) then Found kind
    else (if (kind == 2) || (kind == 3) || (kind == 6) || (kind == 7) then Refused LeadingBlock
    else (if kind == 0 then Refused NoData
    else Passed (record { kind = kind; at = place + 4; len = len })))

-- at the file's end as at type 0
abbrev pub seen : List ℕ → ℕ → Seen
seen b place = seen_of (get_or b place 0) (size_at b place) place

-- the last block of type 8 counts
abbrev pub remembered : Block → Option Block → Option Block
remembered block last = if block.kind == 8 then Some block else last

abbrev pub from_seen : Seen → ℕ → Option Block → (Block → Result Sound OpenRefusal) → Result Sound OpenRefusal
from_seen (Found kind) place last rest = Ok (record { kind = kind; at = place; extension = last })
from_seen (Refused refusal) place last rest = Err refusal
from_seen (Passed block) place last rest = rest block

-- The walk from a place on, over at most n blocks, each of which ends by the end of the file. One block more is too many,
-- whether or not the file holds it whole.
unfoldable pub walk : List ℕ → ℕ → ℕ → Option Block → Result Sound OpenRefusal
walk b zero place last = from_seen (seen b place) place last (λ block. Err TooManyChunks)
walk b (suc n) place last =
    from_seen (seen b place) place last (λ block.
    if nat_le (block.at + block.len) (length b) then walk b n (block.at + block.len) (remembered block last) else Err NoData)

-- ---- the sound's block

-- the bytes between its size and the data
abbrev pub extra : Sound → ℕ
extra sound = if sound.kind == 1 then 2 else 12

abbrev pub data_start : Sound → ℕ
data_start sound = sound.at + 4 + extra sound

-- The format of type 1: a time constant and a codec. A block of type 8 before it gives the time constant, in 16 bits, the
-- codec, and a mode, which is 1 for two channels.
abbrev pub older_of : ℕ → ℕ → ℕ → Result Parameters OpenRefusal
older_of codec mode rate =
    unless (first_refusal (
    refuse_if (not (codec == 0)) UnknownCodec ∷ refuse_if (nat_lt 1 mode) BadChannels ∷ params_refusal (mode + 1) rate U8 ∷ []))
    (record { channels = mode + 1; rate = rate; codec = U8 })

abbrev pub rate_of : ℕ → ℕ
rate_of constant = 1000000 / (256 - constant)

abbrev pub extended_rate : ℕ → ℕ → ℕ
extended_rate mode constant = 256000000 / ((mode + 1) * (65536 - constant))

abbrev pub older_format : List ℕ → Option Block → ℕ → ℕ → Result Parameters OpenRefusal
older_format b None constant codec = older_of codec 0 (rate_of constant)
older_format b (Some block) constant codec =
    older_of (get_or b (block.at + 2) 0) (get_or b (block.at + 3) 0) (extended_rate (get_or b (block.at + 3) 0) (number Little b block.at 2))

-- The format of type 9: the rate, the bits, the channels, and the number of a codec. The bits of a law are not judged.
abbrev pub codec_of : ℕ → Option Codec
codec_of code =
    if code == 0 then Some U8 else (if code == 4 then Some (S16 Little) else (if code == 6 then Some ALaw else (if code == 7 then Some MuLaw else None)))

abbrev pub has_bits : Codec → ℕ → Bool
has_bits U8 bits = bits == 8
has_bits (S16 order) bits = bits == 16
has_bits codec bits = true

abbrev pub newer_of : Option Codec → ℕ → ℕ → ℕ → Result Parameters OpenRefusal
newer_of None channels rate bits = Err UnknownCodec
newer_of (Some codec) channels rate bits =
    unless (first_refusal (
    refuse_if (nat_lt 2 channels) BadChannels ∷ params_refusal channels rate codec ∷ refuse_if (not (has_bits codec bits)) BadBits ∷ []))
    (record { channels = channels; rate = rate; codec = codec })

abbrev pub newer_format : List ℕ → ℕ → Result Parameters OpenRefusal
newer_format b at = newer_of (codec_of (number Little b (at + 10) 2)) (get_or b (at + 9) 0) (number Little b (at + 4) 4) (get_or b (at + 8) 0)

abbrev pub format_of : List ℕ → Sound → Result Parameters OpenRefusal
format_of b sound =
    if sound.kind == 1 then older_format b sound.extension (get_or b (sound.at + 4) 0) (get_or b (sound.at + 5) 0) else newer_format b sound.at

-- a block of type 8 that holds its four bytes, where there is one
abbrev pub is_long : Option Block → Bool
is_long None = true
is_long (Some block) = nat_le 4 block.len

-- The format is there: in the block, and in the file; before type 1 also that of type 8.
abbrev pub has_format : ℕ → ℕ → Sound → Bool
has_format len end sound = nat_le (extra sound) len && nat_le (data_start sound) end && (not (sound.kind == 1) || is_long sound.extension)

abbrev pub sound_format : List ℕ → Sound → Result Parameters OpenRefusal
sound_format b sound = if has_format (size_at b sound.at) (length b) sound then format_of b sound else Err NoFormat

-- the data that the block states, and those that the file holds of them; none from 8 bytes below 2^63 on
abbrev pub declared : List ℕ → Sound → ℕ
declared b sound = min (2 ^ 63 - 1) (size_at b sound.at - extra sound)

abbrev pub held : ℕ → ℕ → ℕ → ℕ
held end start len = min len (min end (2 ^ 63 - 8) - start)

-- The file goes on behind a place where it holds more than one byte there, or one that is not the 0 that ends the blocks.
abbrev pub goes_on : List ℕ → ℕ → Bool
goes_on b place = nat_lt (place + 1) (length b) || not (get_or b place 0 == 0)

abbrev pub shape_of : ℕ → Sound → Parameters → ℕ → Bool → Shape
shape_of end sound p len trailing = record {
  kind = Voc;
  params = p;
  start = data_start sound;
  frames = held end (data_start sound) len / block_align p.channels p.codec;
  declared = len;
  inner = record { at = sound.at + 1; size = 3 };
  outer = None;
  side = None;
  trailing = trailing;
  unknown_length = false;
  reserve = None;
  pieces = [];
}

abbrev pub voc_shape : List ℕ → Sound → Parameters → Shape
voc_shape b sound p = shape_of (length b) sound p (declared b sound) (goes_on b (data_start sound + declared b sound))

-- the layout of a file, or the first reason that it has none
abbrev pub with_format : List ℕ → Sound → Result Parameters OpenRefusal → Result Shape OpenRefusal
with_format b sound (Err refusal) = Err refusal
with_format b sound (Ok p) = Ok (voc_shape b sound p)

abbrev pub with_sound : List ℕ → Result Sound OpenRefusal → Result Shape OpenRefusal
with_sound b (Err refusal) = Err refusal
with_sound b (Ok sound) = with_format b sound (sound_format b sound)

-- the place of the first block
abbrev pub first_place : List ℕ → Result ℕ OpenRefusal
first_place b = if nat_lt (length b) 26 then Err ShortHeader else (if is_head b then Ok (head_size b) else Err BadField)

abbrev pub from_place : List ℕ → Result ℕ OpenRefusal → Result Shape OpenRefusal
from_place b (Err refusal) = Err refusal
from_place b (Ok place) = with_sound b (walk b 256 place None)

unfoldable pub voc_layout : List ℕ → Result Shape OpenRefusal
voc_layout b = from_place b (first_place b)
