-- What an AU file says of itself, after the manual page au(4) of Solaris (Sun Microsystems) and the SNDSoundStruct of NeXTSTEP
-- (NeXT Computer): a mark, and five numbers of 32 bits, all with the highest byte first. With the lowest byte first everywhere
-- it has the mark `dns.`. A damaged file is read as far as it holds; the rules for that are this library's own.
use Rattle.std.specs.Prelude.{ℕ, ◌-◌, ◌/◌, ◌^◌, ◌==◌, ◌||◌, Bool, false, List, [], ◌∷◌, Option, None, Some, Result, Ok, Err, length, min, nat_lt, if◌then◌else◌}
use Rattle.snd_fields.specs.Field.{number}
use Rattle.snd_fields.specs.declared.field.Order.{Order}
use Rattle.snd_fields.specs.declared.field.Order.TheVariants.{Little, Big}
use Rattle.snd_layout.specs.Blocks.{block_align}
use Rattle.snd_layout.specs.Params.{Parameters, params_of}
use Rattle.snd_layout.specs.Refusals.{first_refusal, refuse_if}
use Rattle.snd_layout.specs.Shape.{Shape}
use Rattle.snd_layout.specs.declared.codec.Codec.{Codec}
use Rattle.snd_layout.specs.declared.codec.Codec.TheVariants.{S8, S16, S24, S32, MuLaw, ALaw}
use Rattle.snd_layout.specs.declared.kind.Kind.{Kind}
use Rattle.snd_layout.specs.declared.kind.Kind.TheVariants.{Au, Dns}
use Rattle.snd_layout.specs.declared.refusal.OpenRefusal.{OpenRefusal}
use Rattle.snd_layout.specs.declared.refusal.OpenRefusal.TheVariants.{ShortHeader, BadField, NoData, UnknownCodec, FloatSamples}
use Rattle.snd_au.specs.declared.numbers.Numbers.{Numbers}

-- the kind of a byte order
abbrev pub kind_of : Order → Kind
kind_of Big = Au
kind_of Little = Dns

-- the numbers of a head: where the data begin, how many bytes they have, their encoding, the rate, and the channels
abbrev pub numbers_of : Order → List ℕ → Numbers
numbers_of order b = record {
  offset = number order b 4 4;
  bytes = number order b 8 4;
  encoding = number order b 12 4;
  rate = number order b 16 4;
  channels = number order b 20 4;
}

-- the codec of an encoding; 6 and 7 are floating-point samples
abbrev pub codec_of : Order → ℕ → Result Codec OpenRefusal
codec_of order encoding =
    if encoding == 1 then Ok MuLaw
    else (if encoding == 2 then Ok S8
    else (if encoding == 3 then Ok (S16 order)
    else (if encoding == 4 then Ok (S24 order)
    else (if encoding == 5 then Ok (S32 order)
    else (if encoding == 27 then Ok ALaw
    else (if (encoding == 6) || (encoding == 7) then Err FloatSamples else Err UnknownCodec))))))

-- the parameters that a head states
abbrev pub with_codec : Numbers → Result Codec OpenRefusal → Result Parameters OpenRefusal
with_codec n (Err refusal) = Err refusal
with_codec n (Ok codec) = params_of n.channels n.rate codec

abbrev pub params_in : Order → Numbers → Result Parameters OpenRefusal
params_in order n = with_codec n (codec_of order n.encoding)

-- The data of a size that is not known run to the file's end.
abbrev pub is_unknown : ℕ → Bool
is_unknown bytes = bytes == 2 ^ 32 - 1

-- the data that a file of so many bytes holds; none from 8 bytes below 2^63 on
abbrev pub held : ℕ → Numbers → ℕ
held size n =
    if is_unknown n.bytes then min size (2 ^ 63 - 8) - n.offset
    else min n.bytes (min size (2 ^ 63 - 8) - n.offset)

abbrev pub au_shape : Order → ℕ → Numbers → Parameters → Shape
au_shape order size n p = record {
  kind = kind_of order;
  params = p;
  start = n.offset;
  frames = held size n / block_align p.channels p.codec;
  declared = min (2 ^ 63 - 1) n.bytes;
  inner = record { at = 8; size = 4 };
  outer = None;
  side = None;
  trailing = false;
  unknown_length = is_unknown n.bytes;
  reserve = None;
  pieces = [];
}

-- why no data begin at a place, in a file of so many bytes
abbrev pub place_refusal : ℕ → ℕ → Option OpenRefusal
place_refusal size offset = first_refusal (refuse_if (nat_lt offset 24) BadField ∷ refuse_if (nat_lt size offset) NoData ∷ [])

-- the layout that the numbers give in a file of so many bytes, or the first reason that it has none
abbrev pub with_params : Order → ℕ → Numbers → Result Parameters OpenRefusal → Result Shape OpenRefusal
with_params order size n (Err refusal) = Err refusal
with_params order size n (Ok p) = Ok (au_shape order size n p)

abbrev pub with_place : Order → ℕ → Numbers → Option OpenRefusal → Result Shape OpenRefusal
with_place order size n (Some refusal) = Err refusal
with_place order size n None = with_params order size n (params_in order n)

unfoldable pub layout_of : Order → ℕ → Numbers → Result Shape OpenRefusal
layout_of order size n = with_place order size n (place_refusal size n.offset)

-- the layout of a file
unfoldable pub au_layout : Order → List ℕ → Result Shape OpenRefusal
au_layout order b = if nat_lt (length b) 24 then Err ShortHeader else layout_of order (length b) (numbers_of order b)
