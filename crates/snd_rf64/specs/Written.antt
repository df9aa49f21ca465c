-- An RF64 file as it is made, after EBU Tech 3306, "MBWF / RF64: An Extended File Format for Audio" (European Broadcasting Union,
-- 2009): `RF64`, a size of 32 bits that says nothing, `WAVE`, the chunk `ds64` with an empty table, `fmt `, the pieces, and at last
-- `data`, whose own size says nothing either. The order of the pieces is this library's own rule.
use Rattle.std.specs.Prelude.{◌≡◌, ℕ, ◌+◌, ◌-◌, ◌^◌, ◌≤◌, false, List, ◌∷◌, ◌++◌, All, None, codes, length, map}
use Rattle.snd_chunks.specs.Chunks.{padded_end}
use Rattle.snd_chunks.specs.Written.{NewChunk, all_placed, chunks_bytes, head_bytes}
use Rattle.snd_fields.specs.Field.{bytes_of}
use Rattle.snd_fields.specs.declared.field.Order.TheVariants.{Little}
use Rattle.snd_layout.specs.Fit.{fit_refusal}
use Rattle.snd_layout.specs.Params.{AreParams, Parameters}
use Rattle.snd_layout.specs.Shape.{Shape}
use Rattle.snd_layout.specs.Written.{written_format}
use Rattle.snd_layout.specs.declared.codec.Codec.{Codec}
use Rattle.snd_layout.specs.declared.codec.Codec.TheVariants.{MuLaw, ALaw}
use Rattle.snd_layout.specs.declared.kind.Kind.TheVariants.{Rf64}
use Rattle.snd_layout.specs.declared.piece.Piece.{Piece}
use Rattle.snd_wave.specs.Layout.{piece_of}
use Rattle.snd_wave.specs.Written.{MayBePiece, new_format}
use Rattle.snd_rf64.specs.Layout.{shape_at}

-- the size of 32 bits that says nothing
abbrev pub no_size : ℕ
no_size = 2 ^ 32 - 1

-- The first 48 bytes, with the size of the whole and no frames: 28 bytes are those of `ds64`
unfoldable pub top : ℕ → List ℕ
top size =
    codes "RF64" ++ bytes_of Little 4 no_size ++ codes "WAVE"
    ++ codes "ds64" ++ bytes_of Little 4 28 ++ bytes_of Little 8 size ++ bytes_of Little 8 0 ++ bytes_of Little 8 0 ++ bytes_of Little 4 0

-- the chunks behind them, before the data
abbrev pub chunks_before : Parameters → List NewChunk → List NewChunk
chunks_before p pieces = new_format p ∷ pieces

-- where the data begin
unfoldable pub head_size : Parameters → List NewChunk → ℕ
head_size p pieces = 56 + length (chunks_bytes Little (chunks_before p pieces))

-- the head of a file with these pieces and no frames
unfoldable pub rf64_head : Parameters → List NewChunk → List ℕ
rf64_head p pieces = top (head_size p pieces - 8) ++ chunks_bytes Little (chunks_before p pieces) ++ head_bytes Little (codes "data") no_size

-- the pieces of a file that is made, which stand behind the format
unfoldable pub made_pieces : Parameters → List NewChunk → List Piece
made_pieces p pieces = map (piece_of false) (all_placed (padded_end 56 (length (written_format p))) pieces)

-- what such a head says
unfoldable pub made_shape : Parameters → List NewChunk → Shape
made_shape p pieces = shape_at p (head_size p pieces) 0 0 false (made_pieces p pieces)

-- what may be made: an RF64 file holds the parameters, and there are at most 240 pieces
pub record MayBeMade (p : Parameters) (pieces : List NewChunk) : Type 0 where
  pub params : AreParams p
  pub fits : fit_refusal Rf64 p ≡ None
  pub pieces_are : All MayBePiece pieces
  pub few : length pieces ≤ 240

-- where the data begin in a file without pieces
abbrev pub plain_start : Codec → ℕ
plain_start MuLaw = 82
plain_start ALaw = 82
plain_start codec = 80
