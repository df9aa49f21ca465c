-- What an 8SVX file says of itself, after "8SVX IFF 8-Bit Sampled Voice" (Steve Hayes and Jerry Morrison, Electronic Arts,
-- 1985), in the chunks of "EA IFF 85: Standard for Interchange Format Files" (Jerry Morrison, Electronic Arts, 1985). That the
-- voice has one octave at most, is not packed and is no pair of sounds is this library's own profile; a damaged file is read as
-- far as it holds, by its own rules.
use Rattle.std.specs.Prelude.{ℕ, ◌+◌, ◌-◌, ◌^◌, ◌==◌, Bool, true, false, not, ◌&&◌, ◌||◌, List, [], ◌∷◌, ◌++◌, Option, None, Some, Result, Ok, Err, length, get_or, map, min, nat_le, nat_lt, codes}
use Rattle.std.specs.List.{filter, find, list_any}
use Rattle.snd_fields.specs.declared.field.Order.TheVariants.{Big}
use Rattle.snd_fields.specs.Field.{number}
use Rattle.snd_chunks.specs.declared.chunk.Chunk.{Chunk}
use Rattle.snd_chunks.specs.declared.front.Ending.{Ending}
use Rattle.snd_chunks.specs.declared.front.Ending.TheVariants.{AtSound}
use Rattle.snd_chunks.specs.declared.front.Front.{Front}
use Rattle.snd_chunks.specs.Chunks.{chunk_at, front, tail, padded_end}
use Rattle.snd_layout.specs.Kinds.{is_svx_own}
use Rattle.snd_layout.specs.Params.{Parameters}
use Rattle.snd_layout.specs.Refusals.{first_refusal, refuse_if, unless}
use Rattle.snd_layout.specs.Shape.{Shape}
use Rattle.snd_layout.specs.declared.codec.Codec.TheVariants.{S8}
use Rattle.snd_layout.specs.declared.kind.Kind.TheVariants.{Svx}
use Rattle.snd_layout.specs.declared.piece.Piece.{Piece}
use Rattle.snd_layout.specs.declared.refusal.OpenRefusal.{OpenRefusal}
use Rattle.snd_layout.specs.declared.refusal.OpenRefusal.TheVariants.{TooManyChunks, NoFormat, NoData, BadChannels, BadRate, PackedBody}
use Rattle.snd_chunks.specs.Parts.{has_id, held, is_at_sound, is_too_many}
use Rattle.snd_wave.specs.Layout.{piece_of}
use Rattle.snd_svx.specs.declared.header.Header.{Header}

-- The walk: the chunks from place 12 on, up to the body; 257 chunks before it are too many
unfoldable pub svx_front : List ℕ → Front
svx_front b = front (chunk_at Big b) (codes "BODY") (length b) 257 12

-- the first voice header counts, and it has 20 bytes or more
abbrev pub header_chunk : List Chunk → Option Chunk
header_chunk chunks = find (has_id (codes "VHDR")) chunks

abbrev pub is_header : Option Chunk → Bool
is_header None = false
is_header (Some chunk) = nat_le 20 chunk.len

-- why the walk is refused
abbrev pub front_refusal : Front → Option OpenRefusal
front_refusal f = first_refusal (
    refuse_if (is_too_many f.ending) TooManyChunks
    ∷ refuse_if (not (is_header (header_chunk f.chunks))) NoFormat
    ∷ refuse_if (not (is_at_sound f.ending)) NoData ∷ [])

-- The voice header: the one-shot samples, two numbers for repeats and cycles, and then the rate, the octaves and the way that
-- the body is packed
abbrev pub header_of : List ℕ → Chunk → Header
header_of b chunk = record { rate = number Big b (chunk.at + 12) 2; octaves = get_or b (chunk.at + 14) 0; compression = get_or b (chunk.at + 15) 0 }

abbrev pub is_packed : Header → Bool
is_packed header = nat_lt 1 header.octaves || not (header.compression == 0)

-- a channel chunk that says 6: a pair of sounds
abbrev pub is_pair : List ℕ → Chunk → Bool
is_pair b chunk = has_id (codes "CHAN") chunk && (nat_le 4 chunk.len && (number Big b chunk.at 4 == 6))

-- why a voice is refused
abbrev pub voice_refusal : Bool → Header → Option OpenRefusal
voice_refusal pair header = first_refusal (
    refuse_if pair BadChannels
    ∷ refuse_if (header.rate == 0) BadRate
    ∷ refuse_if (is_packed header) PackedBody ∷ [])

abbrev pub voice_of : List ℕ → List Chunk → Chunk → Result Header OpenRefusal
voice_of b chunks chunk = unless (voice_refusal (list_any (is_pair b) chunks) (header_of b chunk)) (header_of b chunk)

-- The pieces: all chunks but voice headers, channel chunks, bodies and fillers
abbrev pub is_own : Chunk → Bool
is_own chunk = is_svx_own chunk.id.0

abbrev pub pieces_of : Bool → List Chunk → List Piece
pieces_of after chunks = map (piece_of after) (filter (λ chunk. not (is_own chunk)) chunks)

-- The ends: the size of the FORM and 8, or the file's end where that comes first; and the end of the data with its pad
abbrev pub outer_end : List ℕ → ℕ
outer_end b = min (length b) (number Big b 4 4 + 8)

abbrev pub data_end : List ℕ → Chunk → ℕ
data_end b sound = padded_end sound.at (held (length b) sound)

-- the chunks behind the data, up to the outer end: 256 in all with those before it
abbrev pub svx_tail : List ℕ → Front → Chunk → List Chunk
svx_tail b f sound = tail (chunk_at Big b) (outer_end b) (256 - length f.chunks) (data_end b sound)

-- one channel of signed bytes
abbrev pub voice : ℕ → Parameters
voice rate = record { channels = 1; rate = rate; codec = S8 }

-- A layout: its parameters; where the data begin; the frames and the declared bytes; the place of the voice header's count of
-- one-shot samples; whether the file goes on behind its data; and its pieces. The size of the body stands right before the data.
abbrev pub shape_of : Parameters → ℕ → ℕ → ℕ → ℕ → Bool → List Piece → Shape
shape_of p start frames declared count goes_on pieces = record {
  kind = Svx;
  params = p;
  start = start;
  frames = frames;
  declared = declared;
  inner = record { at = start - 4; size = 4 };
  outer = Some (record { at = 4; size = 4 });
  side = Some (record { at = count; size = 4 });
  trailing = goes_on;
  unknown_length = false;
  reserve = None;
  pieces = pieces;
}

-- the declared data of a body
abbrev pub declared_in : Chunk → ℕ
declared_in sound = min sound.len (2 ^ 63 - 1)

abbrev pub svx_shape : List ℕ → Front → Header → Chunk → Chunk → Shape
svx_shape b f header chunk sound =
    shape_of (voice header.rate) sound.at (held (length b) sound) (declared_in sound) chunk.at (nat_lt (data_end b sound) (outer_end b))
    (pieces_of false f.chunks ++ pieces_of true (svx_tail b f sound))

-- the layout of a file, or the first reason that it has none
abbrev pub with_voice : List ℕ → Front → Chunk → Result Header OpenRefusal → Ending → Result Shape OpenRefusal
with_voice b f chunk (Err refusal) ending = Err refusal
with_voice b f chunk (Ok header) (AtSound sound) = Ok (svx_shape b f header chunk sound)
with_voice b f chunk (Ok header) ending = Err NoData

abbrev pub with_chunk : List ℕ → Front → Option Chunk → Result Shape OpenRefusal
with_chunk b f None = Err NoFormat
with_chunk b f (Some chunk) = with_voice b f chunk (voice_of b f.chunks chunk) f.ending

abbrev pub layout_from : List ℕ → Front → Option OpenRefusal → Result Shape OpenRefusal
layout_from b f (Some refusal) = Err refusal
layout_from b f None = with_chunk b f (header_chunk f.chunks)

unfoldable pub svx_layout : List ℕ → Result Shape OpenRefusal
svx_layout b = layout_from b (svx_front b) (front_refusal (svx_front b))
