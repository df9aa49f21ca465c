-- The parts of an RF64 file from which its layout is made, and what holds of them over every disk.
use Rattle.std.specs.Prelude.{ℕ, ◌+◌, ◌-◌, ◌^◌, ◌<◌, ◌≤◌, true, false, List, ◌++◌, All, Result, Ok, Err, length, nat_lt}
use Rattle.snd_chunks.specs.Chunks.{chunk_at, tail}
use Rattle.snd_chunks.specs.Walks.{EndsBy, IsSound}
use Rattle.snd_chunks.specs.declared.front.Front.{Front}
use Rattle.snd_fields.specs.declared.field.Order.TheVariants.{Little}
use Rattle.snd_layout.specs.Format.{format_of}
use Rattle.snd_layout.specs.Opened.{EndsIn}
use Rattle.snd_layout.specs.Params.{Parameters}
use Rattle.snd_layout.specs.Shape.{Shape, end, room}
use Rattle.snd_layout.specs.declared.piece.Piece.{Piece}
use Rattle.snd_layout.specs.declared.refusal.OpenRefusal.{OpenRefusal}
use Rattle.snd_chunks.specs.Parts.{body_of, whole_frames}
use Rattle.snd_wave.specs.Layout.{pieces_of}
use Rattle.snd_chunks.specs.declared.parts.Parts.{Parts}
use Rattle.snd_rf64.specs.declared.ends.Ends.{Ends}
use Rattle.snd_rf64.specs.declared.sizes.Sizes.{Sizes}
use Rattle.snd_rf64.specs.Layout.{data_end, fitted, held, outer_end, shape_at}

-- What holds of the sizes, whatever a disk tells: behind `ds64` there is room for its fields, and the data size counts below 2^63
pub record AreSizes (sizes : Sizes) : Type 0 where
  pub behind : 48 ≤ sizes.next
  pub near : sizes.next < 2 ^ 33
  pub sound : sizes.sound < 2 ^ 63

-- where the parts lie in a file of so many bytes
pub record ArePlaced (size : ℕ) (sizes : Sizes) (parts : Parts) : Type 0 where
  pub format : EndsBy size parts.format
  pub long : 16 ≤ parts.format.len
  pub sound : IsSound size sizes.next 256 parts.sound

-- the ends of data that begin at a place of a file of so many bytes
abbrev pub ends_of : ℕ → Sizes → ℕ → Ends
ends_of size sizes start = record { held = held size start sizes.sound; data_end = data_end size start sizes.sound; outer_end = outer_end size sizes.whole }

-- the pieces before the data, and those behind them
abbrev pub all_pieces : List ℕ → Front → Ends → List Piece
all_pieces b front ends = pieces_of false front.chunks ++ pieces_of true (tail (chunk_at Little b) ends.outer_end (255 - length front.chunks) ends.data_end)

-- the shape that the parameters, the sizes, the ends and the pieces give
abbrev pub shape_of : Parameters → ℕ → ℕ → Ends → List Piece → Shape
shape_of p start sound ends pieces = shape_at p start (whole_frames p ends.held) sound (nat_lt ends.data_end ends.outer_end) pieces

-- the layout with these parts, where the format is not refused
abbrev pub with_params : List ℕ → Sizes → Front → Parts → Result Parameters OpenRefusal → Result Shape OpenRefusal
with_params b sizes front parts (Err refusal) = Err refusal
with_params b sizes front parts (Ok p) =
    Ok (shape_of p parts.sound.at sizes.sound (ends_of (length b) sizes parts.sound.at) (all_pieces b front (ends_of (length b) sizes parts.sound.at)))

-- the layout with these parts, or why their format is refused
abbrev pub layout_with : List ℕ → Sizes → Front → Parts → Result Shape OpenRefusal
layout_with b sizes front parts = with_params b sizes front parts (fitted (format_of (body_of b parts.format)))

-- The data and the pieces end within a file of so many bytes, and the data begin so early that those which the head has room for
-- end on a disk.
pub record IsHeld (size : ℕ) (layout : Shape) : Type 0 where
  pub sound : end layout layout.frames ≤ size
  pub pieces : All (EndsIn size) layout.pieces
  pub room : layout.start + room layout + 8 ≤ 2 ^ 63
