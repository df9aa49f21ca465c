-- The parts of an 8SVX file from which its layout is made, and what holds of them over every disk.
use Rattle.std.specs.Prelude.{◌≡◌, ℕ, ◌+◌, ◌-◌, ◌^◌, ◌≤◌, min, List, ◌++◌, All, false, true, None, Some, Result, Ok, Err, length, nat_lt}
use Rattle.snd_chunks.specs.declared.chunk.Chunk.{Chunk}
use Rattle.snd_chunks.specs.declared.front.Ending.TheVariants.{AtSound}
use Rattle.snd_chunks.specs.declared.front.Front.{Front}
use Rattle.snd_chunks.specs.Chunks.{chunk_at, padded_end, tail}
use Rattle.snd_chunks.specs.Walks.{EndsBy, IsSound}
use Rattle.snd_fields.specs.Field.{number}
use Rattle.snd_fields.specs.declared.field.Order.TheVariants.{Big}
use Rattle.snd_layout.specs.Opened.{EndsIn}
use Rattle.snd_layout.specs.Shape.{Shape, end, room}
use Rattle.snd_layout.specs.declared.piece.Piece.{Piece}
use Rattle.snd_layout.specs.declared.refusal.OpenRefusal.{OpenRefusal}
use Rattle.snd_chunks.specs.Parts.{held}
use Rattle.snd_svx.specs.declared.ends.Ends.{Ends}
use Rattle.snd_svx.specs.declared.header.Header.{Header}
use Rattle.snd_svx.specs.declared.parts.Parts.{Parts}
use Rattle.snd_svx.specs.Layout.{declared_in, front_refusal, header_chunk, pieces_of, shape_of, voice, voice_of}

-- the chunks that a walk up to the body found, where it is not refused
pub record AreParts (front : Front) (parts : Parts) : Type 0 where
  pub no_refusal : front_refusal front ≡ None
  pub header : header_chunk front.chunks ≡ Some parts.header
  pub long : 20 ≤ parts.header.len
  pub sound : front.ending ≡ AtSound parts.sound

-- where the parts lie in a file of so many bytes
pub record ArePlaced (size : ℕ) (parts : Parts) : Type 0 where
  pub header : EndsBy size parts.header
  pub long : 20 ≤ parts.header.len
  pub before : parts.header.at + parts.header.len + 8 ≤ parts.sound.at
  pub sound : IsSound size 12 257 parts.sound

-- the ends that the data and the whole have in a file of so many bytes with a size of the FORM
abbrev pub ends_of : ℕ → ℕ → Chunk → Ends
ends_of size form sound = record { held = held size sound; data_end = padded_end sound.at (held size sound); outer_end = min size (form + 8) }

-- the pieces before the data, and those behind them
abbrev pub all_pieces : List ℕ → Front → Ends → List Piece
all_pieces b front ends = pieces_of false front.chunks ++ pieces_of true (tail (chunk_at Big b) ends.outer_end (256 - length front.chunks) ends.data_end)

-- the shape that the voice header, the parts, the ends and the pieces give
abbrev pub shape_with : Header → Parts → Ends → List Piece → Shape
shape_with header parts ends pieces =
    shape_of (voice header.rate) parts.sound.at ends.held (declared_in parts.sound) parts.header.at (nat_lt ends.data_end ends.outer_end) pieces

-- the layout with these parts, where the voice is not refused
abbrev pub with_header : List ℕ → Front → Parts → Result Header OpenRefusal → Result Shape OpenRefusal
with_header b front parts (Err refusal) = Err refusal
with_header b front parts (Ok header) =
    Ok (shape_with header parts (ends_of (length b) (number Big b 4 4) parts.sound) (all_pieces b front (ends_of (length b) (number Big b 4 4) parts.sound)))

-- the layout with these parts, or why their voice is refused
abbrev pub layout_with : List ℕ → Front → Parts → Result Shape OpenRefusal
layout_with b front parts = with_header b front parts (voice_of b front.chunks parts.header)

-- The data and the pieces end within a file of so many bytes; and the chunks before the data are so few and so small that
-- data for which the head has room end on a disk.
pub record IsHeld (size : ℕ) (layout : Shape) : Type 0 where
  pub sound : end layout layout.frames ≤ size
  pub room_ends : layout.start + room layout + 8 ≤ 2 ^ 63
  pub pieces : All (EndsIn size) layout.pieces
