-- An 8SVX file as it is made, after "8SVX IFF 8-Bit Sampled Voice" (Steve Hayes and Jerry Morrison, Electronic Arts, 1985), in
-- the chunks of "EA IFF 85: Standard for Interchange Format Files" (Jerry Morrison, Electronic Arts, 1985): `FORM`, the size of
-- all that follows, `8SVX`, and chunks: `VHDR` first and at last `BODY`. The order of the others and the filler are this
-- library's own rules.
use Rattle.std.specs.Prelude.{◌≡◌, ℕ, ◌+◌, ◌-◌, ◌≤◌, false, List, [], ◌∷◌, ◌++◌, All, None, codes, length, map, replicate, if◌then◌else◌}
use Rattle.snd_chunks.specs.Chunks.{padded_end}
use Rattle.snd_chunks.specs.Written.{NewChunk, all_placed, chunks_bytes, head_bytes, placed}
use Rattle.snd_fields.specs.Field.{bytes_of}
use Rattle.snd_fields.specs.declared.field.Order.TheVariants.{Big}
use Rattle.snd_layout.specs.Fit.{fit_refusal}
use Rattle.snd_layout.specs.Params.{AreParams, Parameters, data_bytes}
use Rattle.snd_layout.specs.Sector.{is_in_one_sector}
use Rattle.snd_layout.specs.Shape.{Shape}
use Rattle.snd_layout.specs.declared.kind.Kind.TheVariants.{Svx}
use Rattle.snd_layout.specs.declared.piece.Piece.{Piece}
use Rattle.snd_wave.specs.Layout.{piece_of}
use Rattle.snd_svx.specs.Layout.{is_own, shape_of}
use Rattle.snd_svx.specs.Values.{form_size}

-- The voice header of so many frames: all of them sound once, and none is repeated; the rate; one octave, not packed; and the
-- full volume, 1 in 16 bits before the point and 16 behind it
abbrev pub new_header : ℕ → ℕ → NewChunk
new_header rate frames = record {
  id = codes "VHDR";
  body = bytes_of Big 4 frames ++ replicate 8 0 ++ bytes_of Big 2 rate ++ 1 ∷ 0 ∷ 0 ∷ 1 ∷ 0 ∷ 0 ∷ [];
}

-- the chunk `JUNK` of eight bytes, which moves what stands behind it by 16
abbrev pub junk : NewChunk
junk = record { id = codes "JUNK"; body = replicate 8 0 }

-- The filler stands where without it the size of the body would not lie in one sector.
abbrev pub start_without_filler : Parameters → List NewChunk → ℕ
start_without_filler p pieces = 20 + length (chunks_bytes Big (new_header p.rate 0 ∷ pieces))

abbrev pub filler : Parameters → List NewChunk → List NewChunk
filler p pieces = if is_in_one_sector (start_without_filler p pieces - 4) 4 then [] else junk ∷ []

-- the chunks before the body
abbrev pub chunks_before : Parameters → List NewChunk → ℕ → List NewChunk
chunks_before p pieces frames = new_header p.rate frames ∷ (pieces ++ filler p pieces)

-- where the data begin
abbrev pub head_size : Parameters → List NewChunk → ℕ
head_size p pieces = 20 + length (chunks_bytes Big (chunks_before p pieces 0))

-- the first 12 bytes, with the size of the whole
abbrev pub form_head : ℕ → List ℕ
form_head size = codes "FORM" ++ bytes_of Big 4 size ++ codes "8SVX"

-- the head of a file with so many frames, and that of one with none
unfoldable pub head_for : Parameters → List NewChunk → ℕ → List ℕ
head_for p pieces frames =
    form_head (form_size (head_size p pieces) (data_bytes p frames)) ++ chunks_bytes Big (chunks_before p pieces frames)
    ++ head_bytes Big (codes "BODY") (data_bytes p frames)

abbrev pub svx_head : Parameters → List NewChunk → List ℕ
svx_head p pieces = head_for p pieces 0

-- the pieces of a file that is made, which stand behind the voice header
abbrev pub made_pieces : List NewChunk → List Piece
made_pieces pieces = map (piece_of false) (all_placed (padded_end 20 20) pieces)

-- what a file says of itself that is made
unfoldable pub made_shape : Parameters → List NewChunk → ℕ → Shape
made_shape p pieces frames = shape_of p (head_size p pieces) frames (data_bytes p frames) 20 false (made_pieces pieces)

-- a chunk that a file may keep beside its sound
pub record MayBePiece (piece : NewChunk) : Type 0 where
  pub four : length piece.id ≡ 4
  pub other : is_own (placed piece.id 0 0) ≡ false
  pub few : length piece.body ≤ 65536

-- what may be made: an 8SVX file holds the parameters, and there are at most 240 pieces
pub record MayBeMade (p : Parameters) (pieces : List NewChunk) : Type 0 where
  pub params : AreParams p
  pub fits : fit_refusal Svx p ≡ None
  pub pieces_are : All MayBePiece pieces
  pub few : length pieces ≤ 240
