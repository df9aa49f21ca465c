-- What a WAVE file says of itself, after "Multimedia Programming Interface and Data Specifications 1.0" (IBM and Microsoft,
-- 1991), chapter 3, and "New Multimedia Data Types and Data Techniques" 3.0 (Microsoft, 1994) for the `fact` chunk. A
-- damaged file is read as far as it holds; the rules for that are this library's own.
use Rattle.std.specs.Prelude.{ℕ, ◌+◌, ◌-◌, ◌==◌, Bool, true, false, not, ◌&&◌, ◌||◌, List, [], ◌∷◌, ◌++◌, Option, None, Some, Result, option_map, length, map, min, nat_le, nat_lt, codes, if◌then◌else◌}
use Rattle.std.specs.List.{filter}
use Rattle.snd_fields.specs.declared.field.Order.TheVariants.{Little}
use Rattle.snd_fields.specs.Field.{number}
use Rattle.snd_chunks.specs.declared.chunk.Chunk.{Chunk}
use Rattle.snd_chunks.specs.declared.front.Front.{Front}
use Rattle.snd_chunks.specs.Chunks.{chunk_at, front, tail, padded_end}
use Rattle.snd_chunks.specs.Parts.{fact_chunk, fact_count, frame_count, front_refusal, has_id, held, inner_field, layout_from, side_field}
use Rattle.snd_layout.specs.Blocks.{is_adpcm}
use Rattle.snd_layout.specs.Kinds.{is_wave_own}
use Rattle.snd_layout.specs.Params.{Parameters}
use Rattle.snd_layout.specs.Shape.{Shape}
use Rattle.snd_layout.specs.declared.kind.Kind.TheVariants.{Wave}
use Rattle.snd_layout.specs.declared.piece.Piece.{Piece}
use Rattle.snd_layout.specs.declared.refusal.OpenRefusal.{OpenRefusal}

-- The walk: the chunks from place 12 on, up to the data; 257 chunks before it are too many
unfoldable pub wave_front : List ℕ → Front
wave_front b = front (chunk_at Little b) (codes "data") (length b) 257 12

-- The pieces: all chunks but fillers, formats and data
abbrev pub is_own : Chunk → Bool
is_own chunk = is_wave_own chunk.id.0

abbrev pub piece_of : Bool → Chunk → Piece
piece_of after chunk = record { id = chunk.id; at = chunk.at; len = chunk.len; after = after }

abbrev pub pieces_of : Bool → List Chunk → List Piece
pieces_of after chunks = map (piece_of after) (filter (λ chunk. not (is_own chunk)) chunks)

-- The reservation: the chunk `JUNK` at place 12, which is kept free for 64-bit sizes (EBU Tech 3306), where the samples have a
-- fixed size and it has room for them.
abbrev pub is_reserve : Parameters → Chunk → Bool
is_reserve p chunk = not (is_adpcm p.codec) && (chunk.at == 20) && has_id (codes "JUNK") chunk && nat_le 28 chunk.len

abbrev pub reserve_of : Parameters → List Chunk → Option ℕ
reserve_of p [] = None
reserve_of p (chunk ∷ chunks) = if is_reserve p chunk then Some chunk.len else None

-- The ends: the RIFF size and 8, or the file's end where that comes first; and the end of the data with its pad
abbrev pub outer_end : List ℕ → ℕ
outer_end b = min (length b) (number Little b 4 4 + 8)

abbrev pub data_end : List ℕ → Chunk → ℕ
data_end b sound = padded_end sound.at (held (length b) sound)

-- the chunks behind the data, up to the outer end: 256 in all with those before it
abbrev pub wave_tail : List ℕ → Front → Chunk → List Chunk
wave_tail b f sound = tail (chunk_at Little b) (outer_end b) (256 - length f.chunks) (data_end b sound)

abbrev pub wave_shape : List ℕ → Front → Parameters → Chunk → Shape
wave_shape b f p sound = record {
  kind = Wave;
  params = p;
  start = sound.at;
  frames = frame_count p (held (length b) sound) (option_map (fact_count 4 b) (fact_chunk 4 f.chunks));
  declared = sound.len;
  inner = inner_field 4 8 p (fact_chunk 4 f.chunks) sound;
  outer = Some (record { at = 4; size = 4 });
  side = side_field 4 p (fact_chunk 4 f.chunks);
  trailing = nat_lt (data_end b sound) (outer_end b);
  unknown_length = false;
  reserve = reserve_of p f.chunks;
  pieces = pieces_of false f.chunks ++ pieces_of true (wave_tail b f sound);
}

-- the layout of a file, or the first reason that it has none
unfoldable pub wave_layout : List ℕ → Result Shape OpenRefusal
wave_layout b = layout_from (wave_shape b (wave_front b)) b (wave_front b) (front_refusal (wave_front b))
