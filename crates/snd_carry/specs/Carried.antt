-- Which further chunks of a file a copy of it carries. Their number and their size are this library's own limits.
use Rattle.std.specs.Prelude.{◌≡◌, ℕ, Bool, not, ◌&&◌, List, All, length, map, nat_le, take}
use Rattle.std.specs.List.{filter, sum_by}
use Rattle.snd_chunks.specs.Written.{NewChunk, chunks_bytes}
use Rattle.snd_fields.specs.declared.field.Order.TheVariants.{Little}
use Rattle.snd_layout.specs.Opened.{EndsIn}
use Rattle.snd_layout.specs.declared.piece.Piece.{Piece}
use Rattle.snd_chunks.specs.Heads.{chunk_read}
use Rattle.snd_layout.specs.Kinds.{is_wave_own}

-- a piece with a body of at most 65536 bytes, which is none of the chunks that a file has of its own
abbrev pub is_carried : Piece → Bool
is_carried piece = nat_le piece.len 65536 && not (is_wave_own piece.id.0)

-- the pieces that are carried: the first 240 of these, in their order
abbrev pub carried_pieces : List Piece → List Piece
carried_pieces pieces = take 240 (filter is_carried pieces)

-- the bytes of the bodies of pieces
abbrev pub body_bytes : List Piece → ℕ
body_bytes pieces = sum_by (λ piece. piece.len) pieces

-- and the chunks, with the bodies that they have in a file
abbrev pub carried : List ℕ → List Piece → List NewChunk
carried b pieces = map (chunk_read b) (carried_pieces pieces)

-- The chunks that are carried take so many bytes, of a file that holds its pieces.
abbrev pub TakesBytes : List Piece → ℕ → Type 0
TakesBytes pieces n = (b : List ℕ) → All (EndsIn (length b)) pieces → length (chunks_bytes Little (carried b pieces)) ≡ n
