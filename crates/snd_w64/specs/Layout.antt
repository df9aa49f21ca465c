-- What a Wave64 file says of itself, after "Sony Wave64" (Sony Media Software, white paper on the Wave64 file format), which lays
-- the chunks of a WAVE file with identifiers of 16 bytes and sizes of 64 bits. The bodies of the format and the order of the
-- chunks are those of "Multimedia Programming Interface and Data Specifications 1.0" (IBM and Microsoft, 1991), chapter 3. That
-- the body of `fact` is one number of 64 bits, and how a damaged file is read, are this library's own rules.
use Rattle.std.specs.Prelude.{ℕ, ◌+◌, ◌-◌, ◌*◌, ◌/◌, ◌^◌, Bool, false, ◌&&◌, ◌||◌, List, [], ◌∷◌, Option, None, Some, Result, option_map, length, take, drop, min, nat_le, nat_lt, codes, if◌then◌else◌}
use Rattle.std.specs.Str.{bytes_eq}
use Rattle.snd_fields.specs.declared.field.Order.TheVariants.{Little}
use Rattle.snd_fields.specs.Field.{number}
use Rattle.snd_chunks.specs.declared.chunk.Chunk.{Chunk}
use Rattle.snd_chunks.specs.declared.front.Front.{Front}
use Rattle.snd_chunks.specs.Chunks.{front}
use Rattle.snd_chunks.specs.Parts.{fact_chunk, fact_count, frame_count, front_refusal, held, inner_field, layout_from, reached, side_field}
use Rattle.snd_layout.specs.Params.{Parameters}
use Rattle.snd_layout.specs.Shape.{Shape}
use Rattle.snd_layout.specs.declared.kind.Kind.TheVariants.{W64}
use Rattle.snd_layout.specs.declared.refusal.OpenRefusal.{OpenRefusal}

-- the first multiple of 8 from a place on
abbrev pub raised : ℕ → ℕ
raised n = (n + 7) / 8 * 8

-- the last 12 bytes of the identifiers `wave`, `fmt `, `fact` and `data`
abbrev pub id_end : List ℕ
id_end = 243 ∷ 172 ∷ 211 ∷ 17 ∷ 140 ∷ 209 ∷ 0 ∷ 192 ∷ 79 ∷ 142 ∷ 219 ∷ 138 ∷ []

-- the four letters of such an identifier, and four zeros for any other
abbrev pub letters : List ℕ → List ℕ
letters id = if bytes_eq (drop 4 id) id_end then take 4 id else 0 ∷ 0 ∷ 0 ∷ 0 ∷ []

abbrev pub letters_at : List ℕ → ℕ → List ℕ
letters_at b p = letters (take 16 (drop p b))

abbrev pub size_at : List ℕ → ℕ → ℕ
size_at b p = number Little b (p + 16) 8

-- A chunk whose head stands at a place. Its size counts the 24 bytes of the head; a body has less than 2^63 bytes. The next one
-- begins at the next multiple of 8.
abbrev pub chunk_with : List ℕ → ℕ → ℕ → Chunk
chunk_with id p size = record { id = record { 0 = id }; at = p + 24; len = min (2 ^ 63 - 1) (size - 24); next = raised (p + 24 + min (2 ^ 63 - 1) (size - 24)) }

-- The size of a chunk is no less than that of its head, but for the chunk of the data, in which a smaller one means no data.
abbrev pub is_long : List ℕ → ℕ → Bool
is_long id size = nat_le 24 size || bytes_eq id (codes "data")

abbrev pub chunk_at : List ℕ → ℕ → Option Chunk
chunk_at b p =
    if nat_le (p + 24) (reached (length b)) && is_long (letters_at b p) (size_at b p)
    then Some (chunk_with (letters_at b p) p (size_at b p))
    else None

-- The walk: the chunks from place 40 on, up to the data; 257 chunks before it are too many
unfoldable pub w64_front : List ℕ → Front
w64_front b = front (chunk_at b) (codes "data") (length b) 257 40

-- the place behind the data that a file of so many bytes holds, raised to a multiple of 8
abbrev pub data_end : ℕ → Chunk → ℕ
data_end size sound = raised (sound.at + held size sound)

-- the place behind the whole: its size as it stands, or the file's end where that comes first
abbrev pub outer_end : ℕ → ℕ → ℕ
outer_end size whole = min (reached size) whole

abbrev pub whole_size : List ℕ → ℕ
whole_size b = number Little b 16 8

-- What the parts say: the parameters, the `fact` that counts, the data chunk, the count, and the sizes of the file and of the
-- whole. No chunk is kept, and nothing is read behind the data.
abbrev pub shape_of : Parameters → Option Chunk → Chunk → Option ℕ → ℕ → ℕ → Shape
shape_of p fact sound count size whole = record {
  kind = W64;
  params = p;
  start = sound.at;
  frames = frame_count p (held size sound) count;
  declared = sound.len;
  inner = inner_field 8 24 p fact sound;
  outer = Some (record { at = 16; size = 8 });
  side = side_field 8 p fact;
  trailing = nat_lt (data_end size sound) (outer_end size whole);
  unknown_length = false;
  reserve = None;
  pieces = [];
}

abbrev pub w64_shape : List ℕ → Front → Parameters → Chunk → Shape
w64_shape b f p sound = shape_of p (fact_chunk 8 f.chunks) sound (option_map (fact_count 8 b) (fact_chunk 8 f.chunks)) (length b) (whole_size b)

-- the layout of a file, or the first reason that it has none
unfoldable pub w64_layout : List ℕ → Result Shape OpenRefusal
w64_layout b = layout_from (w64_shape b (w64_front b)) b (w64_front b) (front_refusal (w64_front b))
