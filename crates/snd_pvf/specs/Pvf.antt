-- The head of a PVF file, the portable voice format of vgetty (Marc Eberhard and Gert Doering, mgetty+sendfax, `pvf`): a line `PVF1`;
-- a line with the number of channels, the frames a second and the bits of a sample, in decimal digits; and then samples in two's
-- complement, the highest byte first. That both lines end within the first 64 bytes, that a number has at most 10 digits, and that one
-- space stands between two of them, are this library's own rules.
use Rattle.std.specs.Prelude.{ℕ, ◌+◌, ◌==◌, Bool, true, false, ◌||◌, List, [], ◌∷◌, ◌++◌, Option, None, Some, Result, Ok, Err, codes, decimal, drop, length, nat_le, take, if◌then◌else◌}
use Rattle.std.specs.Str.{bytes_eq}
use Rattle.snd_fields.specs.Decimal.{decimal as number_read}
use Rattle.snd_fields.specs.declared.field.Order.TheVariants.{Little, Big}
use Rattle.snd_layout.specs.Params.{Parameters, params_of}
use Rattle.snd_layout.specs.declared.codec.Codec.{Codec}
use Rattle.snd_layout.specs.declared.codec.Codec.TheVariants.{S8, S16, S32}
use Rattle.snd_layout.specs.declared.refusal.OpenRefusal.{OpenRefusal}
use Rattle.snd_layout.specs.declared.refusal.OpenRefusal.TheVariants.{BadBits, BadField, NotSound}
use Rattle.snd_pvf.specs.declared.head.Head.{Head}
use Rattle.snd_pvf.specs.declared.line.Stated.{Stated}

-- ---- the lines

-- the bytes before the first of some that is a mark, and those behind it; the bytes go on from others, none of which is one
abbrev pub cut_from : ℕ → List ℕ → List ℕ → Option (List ℕ × List ℕ)
cut_from mark begun [] = None
cut_from mark begun (c ∷ rest) = if c == mark then Some (begun, rest) else cut_from mark (begun ++ c ∷ []) rest

-- the same of all bytes
abbrev pub cut_at : ℕ → List ℕ → Option (List ℕ × List ℕ)
cut_at mark bytes = cut_from mark [] bytes

-- a file begins with the first line
unfoldable pub has_mark : List ℕ → Bool
has_mark b = bytes_eq (codes "PVF1\n") (take 5 b)

-- the second line without its line feed, where it ends within the first 64 bytes, and what is behind it of these
unfoldable pub second_line : List ℕ → Option (List ℕ × List ℕ)
second_line b = cut_at 10 (drop 5 (take 64 b))

-- ---- the numbers of the second line

-- a number of 1 to 10 digits, leading zeros among them
abbrev pub number : List ℕ → Option ℕ
number digits = if nat_le (length digits) 10 then number_read digits else None

abbrev pub stated : Option ℕ → Option ℕ → Option ℕ → Option Stated
stated None rate bits = None
stated (Some channels) None bits = None
stated (Some channels) (Some rate) None = None
stated (Some channels) (Some rate) (Some bits) = Some (record { channels = channels; rate = rate; bits = bits })

abbrev pub stated_behind : List ℕ → Option (List ℕ × List ℕ) → Option Stated
stated_behind channels None = None
stated_behind channels (Some parts) = stated (number channels) (number parts.0) (number parts.1)

abbrev pub stated_from : Option (List ℕ × List ℕ) → Option Stated
stated_from None = None
stated_from (Some parts) = stated_behind parts.0 (cut_at 32 parts.1)

-- three numbers, with a space between each two
abbrev pub stated_in : List ℕ → Option Stated
stated_in line = stated_from (cut_at 32 line)

-- ---- what they state

-- the codec of so many bits
abbrev pub codec_of : ℕ → Codec
codec_of bits = if bits == 8 then S8 else (if bits == 32 then S32 Big else S16 Big)

abbrev pub are_bits : ℕ → Bool
are_bits bits = (bits == 8) || (bits == 16) || (bits == 32)

-- the channels and the rate are judged before the bits
abbrev pub with_bits : ℕ → Result Parameters OpenRefusal → Result Parameters OpenRefusal
with_bits bits (Err why) = Err why
with_bits bits (Ok p) = if are_bits bits then Ok p else Err BadBits

abbrev pub params_in : Stated → Result Parameters OpenRefusal
params_in s = with_bits s.bits (params_of s.channels s.rate (codec_of s.bits))

-- ---- the head

abbrev pub head_at : ℕ → Result Parameters OpenRefusal → Result Head OpenRefusal
head_at start (Err why) = Err why
head_at start (Ok p) = Ok (record { params = p; start = start })

abbrev pub head_of : ℕ → Option Stated → Result Head OpenRefusal
head_of start None = Err BadField
head_of start (Some s) = head_at start (params_in s)

-- the data begin behind the line feed of the second line
abbrev pub head_by : Option (List ℕ × List ℕ) → Result Head OpenRefusal
head_by None = Err BadField
head_by (Some parts) = head_of (5 + length parts.0 + 1) (stated_in parts.0)

-- what the head of a file says, or the first reason why it says nothing
abbrev pub pvf_head : List ℕ → Result Head OpenRefusal
pvf_head b = if has_mark b then head_by (second_line b) else Err NotSound

-- ---- the head that is written

-- the codecs of PVF
abbrev pub is_pvf_codec : Codec → Bool
is_pvf_codec S8 = true
is_pvf_codec (S16 Big) = true
is_pvf_codec (S32 Big) = true
is_pvf_codec codec = false

abbrev pub bits_text : Codec → List ℕ
bits_text S8 = codes " 8\n"
bits_text (S32 order) = codes " 32\n"
bits_text codec = codes " 16\n"

-- without leading zeros
abbrev pub pvf_text : Parameters → List ℕ
pvf_text p = codes "PVF1\n" ++ decimal p.channels ++ codes " " ++ decimal p.rate ++ bits_text p.codec
