-- What an RF64 file says of itself, after EBU Tech 3306, "MBWF / RF64: An Extended File Format for Audio" (European Broadcasting
-- Union, 2009): a WAVE file whose first chunk, `ds64`, has the sizes in 64 bits. That the data size is always that of `ds64`,
-- whatever stands in the head of the data, is this library's own rule, and so are those for damaged files.
use Rattle.std.specs.Prelude.{ℕ, ◌+◌, ◌-◌, ◌^◌, Bool, true, false, ◌&&◌, List, ◌++◌, Option, None, Some, Result, Ok, Err, length, take, drop, min, nat_le, nat_lt, codes, if◌then◌else◌}
use Rattle.std.specs.Str.{bytes_eq}
use Rattle.snd_fields.specs.declared.field.Order.TheVariants.{Little}
use Rattle.snd_fields.specs.Field.{number}
use Rattle.snd_chunks.specs.declared.chunk.Chunk.{Chunk}
use Rattle.snd_chunks.specs.declared.front.Ending.{Ending}
use Rattle.snd_chunks.specs.declared.front.Ending.TheVariants.{AtSound}
use Rattle.snd_chunks.specs.declared.front.Front.{Front}
use Rattle.snd_chunks.specs.Chunks.{chunk_at, front, padded_end, tail}
use Rattle.snd_layout.specs.Fit.{fit_refusal}
use Rattle.snd_layout.specs.Format.{format_of}
use Rattle.snd_layout.specs.Params.{Parameters}
use Rattle.snd_layout.specs.Refusals.{unless}
use Rattle.snd_layout.specs.Shape.{Shape}
use Rattle.snd_layout.specs.declared.kind.Kind.TheVariants.{Rf64}
use Rattle.snd_layout.specs.declared.piece.Piece.{Piece}
use Rattle.snd_layout.specs.declared.refusal.OpenRefusal.{OpenRefusal}
use Rattle.snd_layout.specs.declared.refusal.OpenRefusal.TheVariants.{ShortHeader, BadField, NoFormat, NoData}
use Rattle.snd_chunks.specs.Parts.{body_of, format_chunk, front_refusal, whole_frames}
use Rattle.snd_wave.specs.Layout.{pieces_of}
use Rattle.snd_rf64.specs.declared.sizes.Sizes.{Sizes}

-- The first chunk, whose head is at 12, is `ds64`: it has the two sizes, the count and the length of a table, and ends in a file
-- of so many bytes.
abbrev pub has_sizes : ℕ → List ℕ → Bool
has_sizes size b = bytes_eq (take 4 (drop 12 b)) (codes "ds64") && nat_le 28 (number Little b 16 4) && nat_le (20 + number Little b 16 4) size

-- what it says: where the next chunk begins, the size of the whole, and that of the data, of which no more than 2^63 - 1 counts
abbrev pub sizes_in : List ℕ → Sizes
sizes_in b = record { next = padded_end 20 (number Little b 16 4); whole = number Little b 20 8; sound = min (number Little b 28 8) (2 ^ 63 - 1) }

-- .. in a file of so many bytes, or why it is refused
abbrev pub sizes_told : ℕ → List ℕ → Result Sizes OpenRefusal
sizes_told size b = if has_sizes size b then Ok (sizes_in b) else Err BadField

abbrev pub sizes_of : List ℕ → Result Sizes OpenRefusal
sizes_of b = if nat_lt (length b) 48 then Err ShortHeader else sizes_told (length b) b

-- The walk behind it, up to the data. With `ds64`, 257 chunks before them are too many.
unfoldable pub rf64_front : List ℕ → ℕ → Front
rf64_front b place = front (chunk_at Little b) (codes "data") (length b) 256 place

-- the parameters of a format, where the kind holds them
abbrev pub fitted : Result Parameters OpenRefusal → Result Parameters OpenRefusal
fitted (Err refusal) = Err refusal
fitted (Ok p) = unless (fit_refusal Rf64 p) p

-- the data that a file of so many bytes holds from a place on, of so many; none from 8 bytes below 2^63 on
abbrev pub held : ℕ → ℕ → ℕ → ℕ
held size start sound = min sound (min size (2 ^ 63 - 8) - start)

-- The ends: that of the whole, of which the size does not count the first 8 bytes, or that of the file, which has less than 2^63
-- bytes; and that of the data in the file, with their pad
abbrev pub outer_end : ℕ → ℕ → ℕ
outer_end size whole = min (min size (2 ^ 63 - 1)) (whole + 8)

abbrev pub data_end : ℕ → ℕ → ℕ → ℕ
data_end size start sound = padded_end start (min sound (size - start))

-- the chunks behind the data, up to the end of the whole: 256 in all with those before them
abbrev pub rf64_tail : List ℕ → Sizes → Front → ℕ → List Chunk
rf64_tail b sizes f start = tail (chunk_at Little b) (outer_end (length b) sizes.whole) (255 - length f.chunks) (data_end (length b) start sizes.sound)

-- A layout. The three fields stand in `ds64`: the size of the whole at 20, that of the data at 28, and the count at 36.
abbrev pub shape_at : Parameters → ℕ → ℕ → ℕ → Bool → List Piece → Shape
shape_at p start frames declared trailing pieces = record {
  kind = Rf64;
  params = p;
  start = start;
  frames = frames;
  declared = declared;
  inner = record { at = 28; size = 8 };
  outer = Some (record { at = 20; size = 8 });
  side = Some (record { at = 36; size = 8 });
  trailing = trailing;
  unknown_length = false;
  reserve = None;
  pieces = pieces;
}

abbrev pub rf64_shape : List ℕ → Sizes → Front → Parameters → ℕ → Shape
rf64_shape b sizes f p start =
    shape_at p start (whole_frames p (held (length b) start sizes.sound)) sizes.sound
    (nat_lt (data_end (length b) start sizes.sound) (outer_end (length b) sizes.whole))
    (pieces_of false f.chunks ++ pieces_of true (rf64_tail b sizes f start))

-- the layout of a file, or the first reason that it has none
abbrev pub with_format : List ℕ → Sizes → Front → Result Parameters OpenRefusal → Ending → Result Shape OpenRefusal
with_format b sizes f (Err refusal) ending = Err refusal
with_format b sizes f (Ok p) (AtSound sound) = Ok (rf64_shape b sizes f p sound.at)
with_format b sizes f (Ok p) ending = Err NoData

abbrev pub with_chunk : List ℕ → Sizes → Front → Option Chunk → Result Shape OpenRefusal
with_chunk b sizes f None = Err NoFormat
with_chunk b sizes f (Some chunk) = with_format b sizes f (fitted (format_of (body_of b chunk))) f.ending

abbrev pub layout_from : List ℕ → Sizes → Front → Option OpenRefusal → Result Shape OpenRefusal
layout_from b sizes f (Some refusal) = Err refusal
layout_from b sizes f None = with_chunk b sizes f (format_chunk f.chunks)

abbrev pub with_sizes : List ℕ → Result Sizes OpenRefusal → Result Shape OpenRefusal
with_sizes b (Err refusal) = Err refusal
with_sizes b (Ok sizes) = layout_from b sizes (rf64_front b sizes.next) (front_refusal (rf64_front b sizes.next))

unfoldable pub rf64_layout : List ℕ → Result Shape OpenRefusal
rf64_layout b = with_sizes b (sizes_of b)
