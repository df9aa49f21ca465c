-- What a SPHERE file says of itself, after "SPeech HEader REsources (SPHERE) 2.6" (National Institute of Standards and Technology,
-- 1995), header structure: a header of 1024 bytes, and the samples. Six names are read; lines with others are passed over. Which
-- headers are refused, and in which order, is this library's own.
use Rattle.std.specs.Prelude.{ℕ, ◌-◌, ◌*◌, ◌/◌, ◌^◌, ◌==◌, Bool, true, false, not, ◌||◌, List, [], ◌∷◌, Option, None, Some, Result, Ok, Err, codes, drop, length, min, nat_lt, take, if◌then◌else◌}
use Rattle.std.specs.List.{list_any}
use Rattle.std.specs.Str.{bytes_eq}
use Rattle.snd_fields.specs.declared.field.Order.{Order}
use Rattle.snd_fields.specs.declared.field.Order.TheVariants.{Little, Big}
use Rattle.snd_layout.specs.Blocks.{block_align}
use Rattle.snd_layout.specs.Params.{Parameters, params_of as new_params}
use Rattle.snd_layout.specs.Refusals.{first_refusal, refuse_if, unless}
use Rattle.snd_layout.specs.Shape.{Shape}
use Rattle.snd_layout.specs.declared.codec.Codec.{Codec}
use Rattle.snd_layout.specs.declared.codec.Codec.TheVariants.{S16, MuLaw as mu_law, ALaw as a_law}
use Rattle.snd_layout.specs.declared.kind.Kind.TheVariants.{Sphere}
use Rattle.snd_layout.specs.declared.refusal.OpenRefusal.{OpenRefusal}
use Rattle.snd_layout.specs.declared.refusal.OpenRefusal.TheVariants.{FloatRate, ShortHeader, BadField, NoFormat, UnknownCodec, BadBits}
use Rattle.snd_sphere.specs.declared.heading.Coding.{Coding}
use Rattle.snd_sphere.specs.declared.heading.Coding.TheVariants.{Pcm, MuLaw, ALaw, Other}
use Rattle.snd_sphere.specs.declared.heading.Heading.{Heading}
use Rattle.snd_sphere.specs.declared.stated.Stated.{Stated}
use Rattle.snd_sphere.specs.Lines.{TextLine, all_lines, before_end, begins, is_end, named, number_of, only, text_of}

-- ---- the header

-- a rate as a floating-point number, which this library does not read
abbrev pub is_float : TextLine → Bool
is_float line = begins (codes "sample_rate -r ") line.text

abbrev pub has_end : List ℕ → Bool
has_end header = list_any is_end (all_lines header)

abbrev pub has_float : List ℕ → Bool
has_float header = list_any is_float (before_end (all_lines header))

-- the size of the header, which stands in the second line of 8 bytes
abbrev pub has_mark : List ℕ → Bool
has_mark header = bytes_eq (take 8 (drop 8 header)) (codes "   1024\n")

-- why a header is refused before a name is looked for
abbrev pub front_refusal : List ℕ → Option OpenRefusal
front_refusal header = first_refusal (
    refuse_if (not (has_end header)) BadField
    ∷ refuse_if (has_float header) FloatRate
    ∷ refuse_if (not (has_mark header)) BadField ∷ [])

-- the lines that are read
abbrev pub channels_of : List ℕ → Result (Option Stated) OpenRefusal
channels_of header = number_of (codes "channel_count -i ") (2 ^ 32 - 1) (only (named (codes "channel_count ") header))

abbrev pub rate_of : List ℕ → Result (Option Stated) OpenRefusal
rate_of header = number_of (codes "sample_rate -i ") (2 ^ 32 - 1) (only (named (codes "sample_rate ") header))

abbrev pub width_of : List ℕ → Result (Option Stated) OpenRefusal
width_of header = number_of (codes "sample_n_bytes -i ") (2 ^ 32 - 1) (only (named (codes "sample_n_bytes ") header))

abbrev pub count_of : List ℕ → Result (Option Stated) OpenRefusal
count_of header = number_of (codes "sample_count -i ") (2 ^ 63 - 1) (only (named (codes "sample_count ") header))

-- which byte of a sample comes first; `mu-law` is another word for `ulaw`, and no word means `pcm`
abbrev pub order_by : List ℕ → Option Order
order_by text = if bytes_eq text (codes "01") then Some Little else if bytes_eq text (codes "10") then Some Big else None

abbrev pub order_of : Option (List ℕ) → Option Order
order_of None = None
order_of (Some text) = order_by text

abbrev pub coding_by : List ℕ → Coding
coding_by text =
    if bytes_eq text (codes "pcm") then Pcm
    else if bytes_eq text (codes "ulaw") || bytes_eq text (codes "mu-law") then MuLaw
    else if bytes_eq text (codes "alaw") then ALaw else Other

abbrev pub coding_of : Option (List ℕ) → Coding
coding_of None = Pcm
coding_of (Some text) = coding_by text

abbrev pub mapped : {A B : Type 0} → (A → B) → Result A OpenRefusal → Result B OpenRefusal
mapped f (Ok x) = Ok (f x)
mapped f (Err refusal) = Err refusal

abbrev pub order_text : List ℕ → Result (Option Order) OpenRefusal
order_text header = mapped order_of (text_of (codes "sample_byte_format -s") (only (named (codes "sample_byte_format ") header)))

abbrev pub coding_text : List ℕ → Result Coding OpenRefusal
coding_text header = mapped coding_of (text_of (codes "sample_coding -s") (only (named (codes "sample_coding ") header)))

-- linear samples have an order
abbrev pub lacks_order : Coding → Option Order → Bool
lacks_order Pcm None = true
lacks_order coding order = false

abbrev pub and_then : {A B : Type 0} → Result A OpenRefusal → (A → Result B OpenRefusal) → Result B OpenRefusal
and_then (Ok x) f = f x
and_then (Err refusal) f = Err refusal

-- what a header says, without its count
abbrev pub heading_with : Option Stated → Option Stated → Option Stated → Option Order → Coding → Result Heading OpenRefusal
heading_with channels rate width order coding =
    unless (refuse_if (lacks_order coding order) BadField) (record { channels = channels; rate = rate; width = width; order = order; coding = coding })

abbrev pub fields_of : List ℕ → Result Heading OpenRefusal
fields_of header =
    and_then (channels_of header) (λ channels. and_then (rate_of header) (λ rate. and_then (width_of header) (λ width.
    and_then (order_text header) (λ order. and_then (coding_text header) (λ coding. heading_with channels rate width order coding)))))

abbrev pub checked : {T : Type 0} → Option OpenRefusal → Result T OpenRefusal → Result T OpenRefusal
checked None r = r
checked (Some refusal) r = Err refusal

unfoldable pub heading_of : List ℕ → Result Heading OpenRefusal
heading_of header = checked (front_refusal header) (fields_of header)

-- ---- the sound

abbrev pub codec_of : Coding → Option Order → Codec
codec_of Pcm None = S16 Little
codec_of Pcm (Some order) = S16 order
codec_of ALaw order = a_law
codec_of coding order = mu_law

abbrev pub is_other : Coding → Bool
is_other Other = true
is_other coding = false

-- the bytes of a sample
abbrev pub sample_bytes : Coding → ℕ
sample_bytes Pcm = 2
sample_bytes coding = 1

abbrev pub with_width : Bool → Result Parameters OpenRefusal → Result Parameters OpenRefusal
with_width good (Err refusal) = Err refusal
with_width good (Ok p) = if good then Ok p else Err BadBits

abbrev pub sound_of : Coding → Codec → ℕ → ℕ → ℕ → Result Parameters OpenRefusal
sound_of coding codec channels rate width =
    checked (refuse_if (is_other coding) UnknownCodec) (with_width (width == sample_bytes coding) (new_params channels rate codec))

abbrev pub params_with : Heading → Option Stated → Option Stated → Option Stated → Result Parameters OpenRefusal
params_with g (Some channels) (Some rate) (Some width) = sound_of g.coding (codec_of g.coding g.order) channels.value rate.value width.value
params_with g channels rate width = Err NoFormat

unfoldable pub params_of : Heading → Result Parameters OpenRefusal
params_of g = params_with g g.channels g.rate g.width

-- ---- the layout

-- the declared data, and those that a file of so many bytes holds; none from 8 bytes below 2^63 on
abbrev pub declared_of : Parameters → Stated → ℕ
declared_of p count = min (2 ^ 63 - 1) (count.value * block_align p.channels p.codec)

abbrev pub held : ℕ → ℕ → ℕ
held size declared = min declared (min size (2 ^ 63 - 8) - 1024)

abbrev pub sphere_shape : ℕ → Parameters → Stated → Shape
sphere_shape size p count = record {
  kind = Sphere;
  params = p;
  start = 1024;
  frames = held size (declared_of p count) / block_align p.channels p.codec;
  declared = declared_of p count;
  inner = record { at = count.at; size = count.size };
  outer = None;
  side = None;
  trailing = false;
  unknown_length = false;
  reserve = None;
  pieces = [];
}

abbrev pub shape_with : ℕ → Option Stated → Result Parameters OpenRefusal → Result Shape OpenRefusal
shape_with size None p = Err NoFormat
shape_with size (Some count) (Err refusal) = Err refusal
shape_with size (Some count) (Ok p) = Ok (sphere_shape size p count)

abbrev pub layout_with : ℕ → Result Heading OpenRefusal → Result (Option Stated) OpenRefusal → Result Shape OpenRefusal
layout_with size (Err refusal) count = Err refusal
layout_with size (Ok g) (Err refusal) = Err refusal
layout_with size (Ok g) (Ok count) = shape_with size count (params_of g)

-- the layout of a file, or the first reason that it has none
unfoldable pub sphere_layout : List ℕ → Result Shape OpenRefusal
sphere_layout b =
    if nat_lt (length b) 1024 then Err ShortHeader
    else layout_with (length b) (heading_of (take 1024 b)) (count_of (take 1024 b))
