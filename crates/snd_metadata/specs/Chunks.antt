-- The chunks of the file that `metadata-set` makes.
use Rattle.std.specs.Prelude.{ℕ, Bool, ◌&&◌, List, codes, map, take, if◌then◌else◌}
use Rattle.std.specs.List.{filter, position_or_len}
use Rattle.std.specs.Str.{bytes_eq}
use Rattle.snd_carry.specs.Carried.{is_carried}
use Rattle.snd_chunks.specs.Written.{NewChunk}
use Rattle.snd_layout.specs.declared.piece.Piece.{Piece}
use Rattle.snd_chunks.specs.Heads.{chunk_read, new_piece, with_piece}

-- the chunks of the input that are kept: those that a copy carries, but only the first 238, so that two more may be added
abbrev pub kept_pieces : List Piece → List Piece
kept_pieces pieces = take 238 (filter is_carried pieces)

abbrev pub kept_chunks : List ℕ → List Piece → List NewChunk
kept_chunks b pieces = map (chunk_read b) (kept_pieces pieces)

-- a broadcast extension, and an INFO list
abbrev pub is_extension : NewChunk → Bool
is_extension chunk = bytes_eq chunk.id (codes "bext")

abbrev pub is_info_list : NewChunk → Bool
is_info_list chunk = bytes_eq chunk.id (codes "LIST") && bytes_eq (take 4 chunk.body) (codes "INFO")

-- a chunk in the place of the first of its sort, or behind them all where there is none
abbrev pub put_among : (NewChunk → Bool) → NewChunk → List NewChunk → List NewChunk
put_among is_its_sort chunk chunks = with_piece chunks (position_or_len is_its_sort chunks) chunk

-- the chunks with those that are changed, the broadcast extension before the list
abbrev pub with_extension : Bool → List ℕ → List NewChunk → List NewChunk
with_extension changed body chunks = if changed then put_among is_extension (new_piece (codes "bext") body) chunks else chunks

abbrev pub with_info_list : Bool → List ℕ → List NewChunk → List NewChunk
with_info_list changed body chunks = if changed then put_among is_info_list (new_piece (codes "LIST") body) chunks else chunks
