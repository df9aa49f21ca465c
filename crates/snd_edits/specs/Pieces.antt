-- The further chunks of an open file, and how their bodies are read.
use Rattle.std.specs.Prelude.{◌≡◌, ℕ, ◌<◌, ◌≤◌, Bool, List, Option, None, Some, Result, Ok, Err, IfSome, drop, length, min, slice_get, take}
use Rattle.std.specs.List.{find}
use Rattle.std.specs.Str.{bytes_eq}
use Rattle.snd_layout.specs.Shape.{Shape}
use Rattle.snd_layout.specs.declared.piece.Piece.{Piece}
use Rattle.snd_edits.specs.declared.error.GetError.{GetError}
use Rattle.snd_edits.specs.declared.error.GetError.TheVariants as get
use Rattle.snd_edits.specs.declared.error.PieceReadError.{PieceReadError}
use Rattle.snd_edits.specs.declared.error.PieceReadError.TheVariants as piece_read
use Rattle.snd_edits.specs.Editing.{Editing}
use Rattle.snd_edits.specs.Known.{Known}

-- the first piece with an identifier, where there is one
abbrev pub has_name : List ℕ → Piece → Bool
has_name id piece = bytes_eq piece.id.0 id

abbrev pub first_piece : List ℕ → Shape → Option Piece
first_piece id h = find (has_name id) h.pieces

-- the body of a piece of a file
abbrev pub body_of : List ℕ → Piece → List ℕ
body_of b piece = take piece.len (drop piece.at b)

-- ---- a body that is given whole

-- a piece has at most 65536 bytes
abbrev pub IsSmall : Piece → Type 0
IsSmall piece = piece.len ≤ 65536

-- there is a piece, and it has at most so many
abbrev pub MayGive : Option Piece → Type 0
MayGive None = ⊥
MayGive (Some piece) = IsSmall piece

-- why a body is not given, by the piece that was found
abbrev pub IsGetRefusal : Option Piece → GetError → Type 0
IsGetRefusal None get.NoSuchChunk = Unit {0}
IsGetRefusal (Some piece) get.ChunkTooLarge = 65536 < piece.len
IsGetRefusal found other = ⊥

-- A body that is given, is refused, or has no memory leaves what the handle knows. A disk call that fails breaks the file.
abbrev pub GetLeaves : {T : Type 0} → List ℕ → Known → Known → Result T GetError → Type 0
GetLeaves id old new (Ok body) = (old.broken ≡ None) × MayGive (first_piece id old.shape) × (new ≡ old)
GetLeaves id old new (Err (get.Broken step)) = (old.broken ≡ Some step) × (new ≡ old)
GetLeaves id old new (Err (get.DiskFault step)) = (old.broken ≡ None) × MayGive (first_piece id old.shape) × (new ≡ record old { broken = Some step })
GetLeaves id old new (Err get.Memory) = (old.broken ≡ None) × MayGive (first_piece id old.shape) × (new ≡ old)
GetLeaves id old new (Err refusal) = (old.broken ≡ None) × IsGetRefusal (first_piece id old.shape) refusal × (new ≡ old)

-- what is given is the body of the first piece with the identifier
abbrev pub GivesBody : List ℕ → Editing → List ℕ → Type 0
GivesBody id e body = IfSome (first_piece id e.shape) (λ piece. body ≡ body_of e.bytes piece)

-- ---- a body that is read into a slice

abbrev pub PieceReadLeaves : {T : Type 0} → Known → Known → Result T PieceReadError → Type 0
PieceReadLeaves old new (Ok count) = (old.broken ≡ None) × (new ≡ old)
PieceReadLeaves old new (Err (piece_read.Broken step)) = (old.broken ≡ Some step) × (new ≡ old)
PieceReadLeaves old new (Err (piece_read.DiskFault step)) = (old.broken ≡ None) × (new ≡ record old { broken = Some step })

-- a slice has so many bytes of a body in front: all of them, or as many as there are places for
pub record HasFront (body old new : List ℕ) (count : ℕ) : Type 0 where
  pub count_is : count ≡ min (length old) (length body)
  pub front : take count new ≡ take count body

-- .. of the piece at a place of the list
abbrev pub GivesFront : ℕ → List ℕ → List ℕ → Editing → ℕ → Type 0
GivesFront place old new e count = IfSome (slice_get e.shape.pieces place) (λ piece. HasFront (body_of e.bytes piece) old new count)
