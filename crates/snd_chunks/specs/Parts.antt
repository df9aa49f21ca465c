-- The chunks from which a sound file's layout is made, where a `fmt ` chunk states the format, `data` holds the frames and a `fact`
-- may count them: "Multimedia Programming Interface and Data Specifications 1.0" (IBM and Microsoft, 1991), chapter 3, and "New
-- Multimedia Data Types and Data Techniques" 3.0 (Microsoft, 1994) for `fact`. "Sony Wave64" (Sony Media Software) has the same
-- chunks. The numbers of a WAVE file have 4 bytes, and the heads of its chunks 8; those of a Wave64 file have 8 and 24.
use Rattle.std.specs.Prelude.{◌≡◌, ℕ, ◌+◌, ◌-◌, ◌*◌, ◌/◌, ◌^◌, ◌==◌, ◌≤◌, Bool, true, false, not, ◌&&◌, List, [], ◌∷◌, Option, None, Some, Result, Ok, Err, option_map, take, drop, min, nat_le, codes, if◌then◌else◌}
use Rattle.std.specs.List.{find}
use Rattle.std.specs.Str.{bytes_eq}
use Rattle.snd_fields.specs.declared.field.Order.TheVariants.{Little}
use Rattle.snd_fields.specs.Field.{number}
use Rattle.snd_chunks.specs.declared.chunk.Chunk.{Chunk}
use Rattle.snd_chunks.specs.declared.front.Ending.{Ending}
use Rattle.snd_chunks.specs.declared.front.Ending.TheVariants.{AtSound, TooMany}
use Rattle.snd_chunks.specs.declared.front.Front.{Front}
use Rattle.snd_chunks.specs.declared.parts.Parts.{Parts}
use Rattle.snd_layout.specs.Blocks.{block_align, block_frames, is_adpcm}
use Rattle.snd_layout.specs.Format.{format_of}
use Rattle.snd_layout.specs.Params.{Parameters}
use Rattle.snd_layout.specs.Refusals.{first_refusal, refuse_if}
use Rattle.snd_layout.specs.Shape.{Shape}
use Rattle.snd_layout.specs.declared.field.Field.{Field}
use Rattle.snd_layout.specs.declared.refusal.OpenRefusal.{OpenRefusal}
use Rattle.snd_layout.specs.declared.refusal.OpenRefusal.TheVariants.{TooManyChunks, NoFormat, NoData}

abbrev pub has_id : List ℕ → Chunk → Bool
has_id id chunk = bytes_eq chunk.id.0 id

-- the first format counts, and the first `fact` that has its count, a number of so many bytes
abbrev pub format_chunk : List Chunk → Option Chunk
format_chunk chunks = find (has_id (codes "fmt ")) chunks

abbrev pub is_fact : ℕ → Chunk → Bool
is_fact size chunk = has_id (codes "fact") chunk && nat_le size chunk.len

abbrev pub fact_chunk : ℕ → List Chunk → Option Chunk
fact_chunk size chunks = find (is_fact size) chunks

-- why the walk up to the data is refused
abbrev pub is_too_many : Ending → Bool
is_too_many TooMany = true
is_too_many ending = false

abbrev pub is_at_sound : Ending → Bool
is_at_sound (AtSound chunk) = true
is_at_sound ending = false

-- a format of 16 bytes or more
abbrev pub is_format : Option Chunk → Bool
is_format None = false
is_format (Some chunk) = nat_le 16 chunk.len

abbrev pub front_refusal : Front → Option OpenRefusal
front_refusal f = first_refusal (
    refuse_if (is_too_many f.ending) TooManyChunks
    ∷ refuse_if (not (is_format (format_chunk f.chunks))) NoFormat
    ∷ refuse_if (not (is_at_sound f.ending)) NoData ∷ [])

-- the body of a chunk
abbrev pub body_of : List ℕ → Chunk → List ℕ
body_of b chunk = take chunk.len (drop chunk.at b)

-- A file is read as far as 8 bytes below 2^63, so that what closes its data fits a disk.
abbrev pub reached : ℕ → ℕ
reached size = min size (2 ^ 63 - 8)

-- the data that a file of so many bytes holds of a data chunk
abbrev pub held : ℕ → Chunk → ℕ
held size sound = min sound.len (reached size - sound.at)

-- the frames in whole blocks; in ADPCM no more than a `fact` counts
abbrev pub whole_frames : Parameters → ℕ → ℕ
whole_frames p bytes = bytes / block_align p.channels p.codec * block_frames p.codec

abbrev pub frame_count : Parameters → ℕ → Option ℕ → ℕ
frame_count p bytes None = whole_frames p bytes
frame_count p bytes (Some count) = if is_adpcm p.codec then min count (whole_frames p bytes) else whole_frames p bytes

abbrev pub fact_count : ℕ → List ℕ → Chunk → ℕ
fact_count size b fact = number Little b fact.at size

-- The fields, of numbers and of heads with so many bytes: the data size, which stands right before the data; in ADPCM with a `fact`
-- of its count alone right before the data chunk, all from this count to the data size
abbrev pub is_joined : ℕ → ℕ → Option Chunk → Chunk → Bool
is_joined size head None sound = false
is_joined size head (Some fact) sound = (fact.len == size) && (fact.next + head == sound.at)

abbrev pub fact_place : Option Chunk → ℕ
fact_place None = 0
fact_place (Some fact) = fact.at

abbrev pub inner_field : ℕ → ℕ → Parameters → Option Chunk → Chunk → Field
inner_field size head p fact sound =
    if is_adpcm p.codec && is_joined size head fact sound then record { at = fact_place fact; size = size + head } else record { at = sound.at - size; size = size }

-- the count of a `fact`, where it is not read
abbrev pub side_field : ℕ → Parameters → Option Chunk → Option Field
side_field size p fact = if is_adpcm p.codec then None else option_map (λ chunk. record { at = chunk.at; size = size }) fact

-- the layout of a file, or the first reason that it has none; what its parameters and data say is given by a function
abbrev pub with_format : (Parameters → Chunk → Shape) → Result Parameters OpenRefusal → Ending → Result Shape OpenRefusal
with_format says (Err refusal) ending = Err refusal
with_format says (Ok p) (AtSound sound) = Ok (says p sound)
with_format says (Ok p) ending = Err NoData

abbrev pub with_chunk : (Parameters → Chunk → Shape) → List ℕ → Front → Option Chunk → Result Shape OpenRefusal
with_chunk says b f None = Err NoFormat
with_chunk says b f (Some chunk) = with_format says (format_of (body_of b chunk)) f.ending

abbrev pub layout_from : (Parameters → Chunk → Shape) → List ℕ → Front → Option OpenRefusal → Result Shape OpenRefusal
layout_from says b f (Some refusal) = Err refusal
layout_from says b f None = with_chunk says b f (format_chunk f.chunks)

-- the chunks that a walk up to the data found, where it is not refused
pub record AreParts (size : ℕ) (front : Front) (parts : Parts) : Type 0 where
  pub no_refusal : front_refusal front ≡ None
  pub format : format_chunk front.chunks ≡ Some parts.format
  pub long : 16 ≤ parts.format.len
  pub fact : parts.fact ≡ fact_chunk size front.chunks
  pub sound : front.ending ≡ AtSound parts.sound

-- a `fact` that has its count, before the head of the data
pub record IsFact (size head : ℕ) (sound fact : Chunk) : Type 0 where
  pub count : size ≤ fact.len
  pub before : fact.at + fact.len + head ≤ sound.at
