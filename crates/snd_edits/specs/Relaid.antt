-- How a chunk that is put into a file changes an editing state: its head is laid anew.
use Rattle.std.specs.Prelude.{ℕ, List, length, map}
use Rattle.std.specs.List.{position_or_len}
use Rattle.snd_chunks.specs.Written.{NewChunk}
use Rattle.snd_layout.specs.Params.{Parameters}
use Rattle.snd_layout.specs.Shape.{Shape}
use Rattle.snd_layout.specs.declared.kind.Kind.{Kind}
use Rattle.snd_container.specs.Put.{heads_for, heads_of}
use Rattle.snd_chunks.specs.Heads.{chunk_read, new_piece, outline, with_piece}
use Rattle.snd_edits.specs.Editing.{Editing}
use Rattle.snd_edits.specs.Pieces.{has_name}

-- the head of a file with some chunks and without frames, and what it says of itself
abbrev pub head_with : Kind → Parameters → List NewChunk → List ℕ
head_with kind p pieces = (heads_of kind).head p pieces

abbrev pub shape_with : Kind → Parameters → List NewChunk → Shape
shape_with kind p pieces = (heads_of kind).shape p pieces

-- a layout with a chunk put at a place of the list, or behind them all, and with the reservation that it has
abbrev pub shape_put : ℕ → NewChunk → Shape → Shape
shape_put place piece h = (heads_for h.reserve h.kind).shape h.params (with_piece (map outline h.pieces) place piece)

-- and an editing state: the head anew, with the bodies that it held
abbrev pub pieces_held : Editing → List NewChunk
pieces_held e = map (chunk_read e.bytes) e.shape.pieces

abbrev pub put_to : ℕ → NewChunk → Editing → Editing
put_to place piece e = record e {
  bytes = (heads_for e.shape.reserve e.shape.kind).head e.shape.params (with_piece (pieces_held e) place piece);
  shape = shape_put place piece e.shape;
}

-- a chunk put behind the others, and in the place of the first with its identifier, where there is one
abbrev pub added_to : List ℕ → List ℕ → Editing → Editing
added_to id body e = put_to (length e.shape.pieces) (new_piece id body) e

abbrev pub place_named : List ℕ → Shape → ℕ
place_named id h = position_or_len (has_name id) h.pieces

abbrev pub replaced_to : List ℕ → List ℕ → Editing → Editing
replaced_to id body e = put_to (place_named id e.shape) (new_piece id body) e
