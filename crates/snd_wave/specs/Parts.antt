-- The parts of a WAVE file from which its layout is made, and what holds of them over every disk.
use Rattle.std.specs.Prelude.{ℕ, ◌+◌, ◌-◌, ◌^◌, ◌<◌, ◌≤◌, true, false, min, List, ◌++◌, All, Option, Some, IfSome, Result, Ok, Err, option_map, length, nat_lt}
use Rattle.snd_chunks.specs.declared.chunk.Chunk.{Chunk}
use Rattle.snd_chunks.specs.declared.front.Front.{Front}
use Rattle.snd_chunks.specs.declared.parts.Parts.{Parts}
use Rattle.snd_chunks.specs.Chunks.{chunk_at, padded_end, tail}
use Rattle.snd_chunks.specs.Parts.{IsFact, body_of, fact_count, frame_count, held, inner_field, side_field}
use Rattle.snd_chunks.specs.Walks.{EndsBy, IsSound}
use Rattle.snd_fields.specs.Field.{number}
use Rattle.snd_fields.specs.declared.field.Order.TheVariants.{Little}
use Rattle.snd_layout.specs.Format.{format_of}
use Rattle.snd_layout.specs.Opened.{EndsIn}
use Rattle.snd_layout.specs.Params.{Parameters}
use Rattle.snd_layout.specs.Shape.{Shape, end, room}
use Rattle.snd_layout.specs.declared.kind.Kind.TheVariants.{Wave}
use Rattle.snd_layout.specs.declared.piece.Piece.{Piece}
use Rattle.snd_layout.specs.declared.refusal.OpenRefusal.{OpenRefusal}
use Rattle.snd_wave.specs.declared.ends.Ends.{Ends}
use Rattle.snd_wave.specs.Layout.{pieces_of, reserve_of}

-- a chunk that ends before the head of the data, and whose size has four bytes
pub record IsBefore (sound chunk : Chunk) : Type 0 where
  pub ends : chunk.at + chunk.len + 8 ≤ sound.at
  pub short : chunk.len < 2 ^ 32

-- where the parts lie in a file of so many bytes
pub record ArePlaced (size : ℕ) (parts : Parts) : Type 0 where
  pub format : EndsBy size parts.format
  pub long : 16 ≤ parts.format.len
  pub fact : IfSome parts.fact (IsFact 4 8 parts.sound)
  pub sound : IsSound size 12 257 parts.sound

-- the ends that the data and the whole have in a file of so many bytes with a RIFF size
abbrev pub ends_of : ℕ → ℕ → Chunk → Ends
ends_of size riff sound = record { held = held size sound; data_end = padded_end sound.at (held size sound); outer_end = min size (riff + 8) }

-- the pieces before the data, and those behind them
abbrev pub all_pieces : List ℕ → Front → Ends → List Piece
all_pieces b front ends = pieces_of false front.chunks ++ pieces_of true (tail (chunk_at Little b) ends.outer_end (256 - length front.chunks) ends.data_end)

-- the shape that the parts, the count of the `fact`, the ends, the reservation and the pieces give
abbrev pub shape_of : Parameters → Parts → Option ℕ → Ends → Option ℕ → List Piece → Shape
shape_of p parts count ends reserve pieces = record {
  kind = Wave;
  params = p;
  start = parts.sound.at;
  frames = frame_count p ends.held count;
  declared = parts.sound.len;
  inner = inner_field 4 8 p parts.fact parts.sound;
  outer = Some (record { at = 4; size = 4 });
  side = side_field 4 p parts.fact;
  trailing = nat_lt ends.data_end ends.outer_end;
  unknown_length = false;
  reserve = reserve;
  pieces = pieces;
}

-- the layout with these parts, where the format is not refused
abbrev pub with_params : List ℕ → Front → Parts → Result Parameters OpenRefusal → Result Shape OpenRefusal
with_params b front parts (Err refusal) = Err refusal
with_params b front parts (Ok p) = Ok (shape_of p parts (option_map (fact_count 4 b) parts.fact) (ends_of (length b) (number Little b 4 4) parts.sound) (reserve_of p front.chunks) (all_pieces b front (ends_of (length b) (number Little b 4 4) parts.sound)))

-- the layout with these parts, or why their format is refused
abbrev pub layout_with : List ℕ → Front → Parts → Result Shape OpenRefusal
layout_with b front parts = with_params b front parts (format_of (body_of b parts.format))

-- the data and the pieces end within a file of so many bytes; the declared size has four bytes, and data for which the head has
-- room end on a disk
pub record IsHeld (size : ℕ) (layout : Shape) : Type 0 where
  pub sound : end layout layout.frames ≤ size
  pub pieces : All (EndsIn size) layout.pieces
  pub declared : layout.declared < 2 ^ 32
  pub room_ends : layout.start + room layout + 8 ≤ 2 ^ 63
