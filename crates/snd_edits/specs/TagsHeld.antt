-- The texts, the broadcast extension and the cue points that an editing state holds.
use Rattle.std.specs.Prelude.{ℕ, Bool, ◌&&◌, List, Option, None, Some, Result, Ok, Err, codes, nat_lt, take, find, if◌then◌else◌}
use Rattle.std.specs.Str.{bytes_eq}
use Rattle.snd_layout.specs.Shape.{Shape}
use Rattle.snd_layout.specs.declared.piece.Piece.{Piece}
use Rattle.snd_meta.specs.Broadcast.{Broadcast, bext_of}
use Rattle.snd_meta.specs.Cue.{cues_of}
use Rattle.snd_meta.specs.Info.{Entry, info_of}
use Rattle.snd_meta.specs.declared.cue.CuePoint.{CuePoint}
use Rattle.snd_edits.specs.declared.error.GetError.TheVariants as get
use Rattle.snd_edits.specs.Pieces.{body_of, first_piece, has_name}
use Rattle.snd_edits.specs.declared.tag_error.TagError.{TagError}
use Rattle.snd_edits.specs.declared.tag_error.TagError.TheVariants.{Get, BadBody}

-- An INFO list is a `LIST` chunk whose body begins with `INFO` (Microsoft and IBM, "Multimedia Programming Interface and Data
-- Specifications 1.0", 1991). The first one counts, whatever its size. A file lists at most 256 chunks, and no more are looked at.
abbrev pub is_info : List ℕ → Piece → Bool
is_info b piece = has_name (codes "LIST") piece && bytes_eq (take 4 (body_of b piece)) (codes "INFO")

abbrev pub info_piece : List ℕ → Shape → Option Piece
info_piece b h = find (is_info b) (take 256 h.pieces)

-- what is read of a body, and why it is not: there is no such chunk, it has more than 65536 bytes, or it does not read
abbrev pub body_read : {T : Type 0} → Option T → Result T TagError
body_read None = Err BadBody
body_read (Some found) = Ok found

abbrev pub read_as : {T : Type 0} → (List ℕ → Option T) → List ℕ → Option Piece → Result T TagError
read_as read b None = Err (Get get.NoSuchChunk)
read_as read b (Some piece) = if nat_lt 65536 piece.len then Err (Get get.ChunkTooLarge) else body_read (read (body_of b piece))

-- the texts of the INFO list, the broadcast extension, and the cue points
abbrev pub texts_of : List ℕ → Shape → Result (List Entry) TagError
texts_of b h = read_as info_of b (info_piece b h)

abbrev pub broadcast_of : List ℕ → Shape → Result Broadcast TagError
broadcast_of b h = read_as bext_of b (first_piece (codes "bext") h)

abbrev pub points_of : List ℕ → Shape → Result (List CuePoint) TagError
points_of b h = read_as cues_of b (first_piece (codes "cue ") h)
