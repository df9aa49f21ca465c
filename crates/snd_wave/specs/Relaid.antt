-- Pieces that are laid one behind the other, whatever places they had.
use Rattle.std.specs.Prelude.{◌≡◌, ℕ, ◌+◌, ◌≤◌, false, All, List, [], ◌∷◌, Option, None, Some, length, map}
use Rattle.snd_chunks.specs.Chunks.{padded_end}
use Rattle.snd_chunks.specs.Written.{NewChunk, all_placed}
use Rattle.snd_layout.specs.declared.piece.Piece.{Piece}
use Rattle.snd_wave.specs.Layout.{piece_of}

-- the pieces from a place on, each with its head before it
abbrev pub relaid : ℕ → List Piece → List Piece
relaid place [] = []
relaid place (piece ∷ pieces) = record { id = piece.id; at = place + 8; len = piece.len; after = false } ∷ relaid (padded_end (place + 8) piece.len) pieces

-- the place behind them
abbrev pub relaid_end : ℕ → List Piece → ℕ
relaid_end place [] = place
relaid_end place (piece ∷ pieces) = relaid_end (padded_end (place + 8) piece.len) pieces

-- the place behind a piece, or another where there is none
abbrev pub behind_piece : Option Piece → ℕ → ℕ
behind_piece None end = end
behind_piece (Some piece) end = padded_end piece.at piece.len

-- a small chunk: an identifier of four bytes, and at most 65536 bytes
pub record IsSmall (chunk : NewChunk) : Type 0 where
  pub four : length chunk.id ≡ 4
  pub few : length chunk.body ≤ 65536

-- chunks that stand one behind the other from a place on, as pieces
unfoldable pub standing : ℕ → List NewChunk → List Piece
standing place chunks = map (piece_of false) (all_placed place chunks)

-- pieces are these chunks from a place on: at most 240, and small ones
pub record AreStanding (place : ℕ) (pieces : List Piece) (chunks : List NewChunk) : Type 0 where
  pub small : All IsSmall chunks
  pub few : length chunks ≤ 240
  pub stand : pieces ≡ standing place chunks

-- .. are some such chunks
abbrev pub DoStand : ℕ → List Piece → Type 0
DoStand place pieces = (chunks : List NewChunk) × AreStanding place pieces chunks
