-- The further chunks of an open file stay, whatever is written, cut or sealed; also those that were put into a file that is made.
use Rattle.std.specs.Prelude.{◌≡◌, ℕ, Bool, false, List, All, Ok}
use Rattle.snd_container.specs.Sound.{layout_of}
use Rattle.snd_layout.specs.Shape.{Shape}
use Rattle.snd_layout.specs.declared.piece.Piece.{Piece}
use Rattle.snd_edits.specs.Editing.{Editing, opening_of}
use Rattle.snd_edits.specs.Laws.{IsEdited, Leads}
use Rattle.snd_edits.specs.Pieces.{body_of}
use Rattle.snd_edits.specs.Updating.{updating_of}

-- each of the chunks has the same body in two files
abbrev pub SameBodies : List Piece → List ℕ → List ℕ → Type 0
SameBodies pieces b x = All (λ piece. body_of x piece ≡ body_of b piece) pieces

-- a state has the chunks of another, at the same places and with the same bodies
pub record KeepsChunks (e e' : Editing) : Type 0 where
  pub listed : e'.shape.pieces ≡ e.shape.pieces
  pub bodies : SameBodies e.shape.pieces e.bytes e'.bytes

-- .. and those of the file that was opened or made
pub record HasChunksOf (file : List ℕ) (e : Editing) : Type 0 where
  pub head : Shape
  pub opened : layout_of file ≡ Ok head
  pub listed : e.shape.pieces ≡ head.pieces
  pub bodies : SameBodies head.pieces file e.bytes

-- ---- laws of editing

-- An edited file has the chunks of the file that was opened or made.
abbrev pub EditedHasChunks : Type 0
EditedHasChunks = (file : List ℕ) (e : Editing) → IsEdited file e → HasChunksOf file e

-- Each call that is carried out keeps them.
abbrev pub LeadsKeepChunks : Type 0
LeadsKeepChunks = (file : List ℕ) (e e' : Editing) → IsEdited file e → Leads e e' → KeepsChunks e e'

-- ---- a chunk that is put into a file that is made

-- A file is one that is opened in the state that it is in: to be read, and to be updated, but for ADPCM.
pub record IsOpenedAs (encodes : Bool) (e : Editing) : Type 0 where
  pub opens : opening_of e.bytes ≡ Ok e
  pub updates : encodes ≡ false → updating_of e.bytes ≡ Ok e
