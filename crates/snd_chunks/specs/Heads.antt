-- Heads of files that are made, with pieces and without frames, and pieces that are put into them.
use Rattle.std.specs.Prelude.{◌≡◌, ℕ, ◌+◌, ◌≤◌, List, ◌∷◌, ◌++◌, Result, Ok, Err, Some, drop, length, map, replicate, take}
use Rattle.snd_disk.specs.State.{Rises, State}
use Rattle.snd_chunks.specs.Written.{NewChunk}
use Rattle.snd_layout.specs.Params.{Parameters}
use Rattle.snd_layout.specs.Shape.{Shape}
use Rattle.snd_layout.specs.declared.error.PieceError.{PieceError}
use Rattle.snd_layout.specs.declared.error.PieceError.TheVariants.{DiskFault, Memory}
use Rattle.snd_layout.specs.declared.piece.Piece.{Piece}

-- a piece that is put
abbrev pub new_piece : List ℕ → List ℕ → NewChunk
new_piece id body = record { id = id; body = body }

-- a piece of a file, with its body
abbrev pub chunk_read : List ℕ → Piece → NewChunk
chunk_read b piece = record { id = piece.id.0; body = take piece.len (drop piece.at b) }

-- a chunk with the identifier and the length of a piece: a layout knows no more of it
abbrev pub outline : Piece → NewChunk
outline piece = record { id = piece.id.0; body = replicate piece.len 0 }

-- a chunk of the same length, of zeros
unfoldable pub blank : NewChunk → NewChunk
blank c = record { id = c.id; body = replicate (length c.body) 0 }

abbrev pub blanks : List NewChunk → List NewChunk
blanks cs = map blank cs

-- the pieces with another in the place of one, or behind them all
abbrev pub with_piece : List NewChunk → ℕ → NewChunk → List NewChunk
with_piece pieces place piece = take place pieces ++ piece ∷ drop (place + 1) pieces

-- the heads of a kind: with which parameters and pieces they may be made, what such a head says, and its bytes
pub record Heads : Type 1 where
  pub may : Parameters → List NewChunk → Type 0
  pub shape : Parameters → List NewChunk → Shape
  pub head : Parameters → List NewChunk → List ℕ

-- a layout is that of a head with these pieces
pub record IsLayoutIn (heads : Heads) (h : Shape) (p : Parameters) (pieces : List NewChunk) : Type 0 where
  pub may : heads.may p pieces
  pub shape : h ≡ heads.shape p pieces

-- .. and a disk holds nothing but this head, where it tells what it holds
pub record IsHeadIn (heads : Heads) (disk : State) (h : Shape) (p : Parameters) (pieces : List NewChunk) : Type 0 where
  pub laid : IsLayoutIn heads h p pieces
  pub size : disk.size ≡ length (heads.head p pieces)
  pub contents : (b : List ℕ) → disk.contents ≡ Some b → b ≡ heads.head p pieces

-- .. with some pieces
abbrev pub HoldsHeadIn : Heads → State → Shape → Type 0
HoldsHeadIn heads disk h = (p : Parameters) × (pieces : List NewChunk) × IsHeadIn heads disk h p pieces

-- the head of any pieces becomes that of these pieces with one put
abbrev pub PutsPieceIn : {D : Type 0} → Heads → (D → State) → D → D → Shape → Shape → ℕ → NewChunk → Type 0
PutsPieceIn heads state old new h h' place piece =
    (p : Parameters) (pieces : List NewChunk) → IsHeadIn heads (state old) h p pieces → IsHeadIn heads (state new) h' p (with_piece pieces place piece)

-- A piece is not put for a fault alone, or for want of memory.
abbrev pub IsPutCause : ℕ → ℕ → PieceError → Type 0
IsPutCause old new (DiskFault step) = (old ≤ new) × Rises old new
IsPutCause old new Memory = new ≡ old
IsPutCause old new _ = ⊥

-- the count of faults rises where the answer is a fault of the disk, and there alone
abbrev pub CountsPutting : {D T : Type 0} → (D → State) → D → D → Result T PieceError → Type 0
CountsPutting state old new (Ok value) = (state new).faults ≡ (state old).faults
CountsPutting state old new (Err error) = IsPutCause (state old).faults (state new).faults error
