-- How the body of an INFO list is found and read.
use Rattle.std.specs.Prelude.{◌≡◌, ℕ, ◌<◌, ◌≤◌, Bool, List, Option, None, Some, Result, Ok, Err, codes, find, slice_get, take}
use Rattle.std.specs.Str.{bytes_eq}
use Rattle.snd_layout.specs.declared.piece.Piece.{Piece}
use Rattle.snd_edits.specs.declared.error.GetError.{GetError}
use Rattle.snd_edits.specs.declared.error.GetError.TheVariants as get
use Rattle.snd_edits.specs.Known.{Known}
use Rattle.snd_edits.specs.Pieces.{MayGive, body_of, first_piece, has_name}
use Rattle.snd_edits.specs.declared.tag_error.TagError.{TagError}
use Rattle.snd_edits.specs.declared.tag_error.TagError.TheVariants.{Get, BadBody}

-- the first chunk that is a list of any kind
abbrev pub first_list : List Piece → Option Piece
first_list pieces = find (has_name (codes "LIST")) pieces

-- the body of a chunk begins with `INFO`
abbrev pub begins_info : List ℕ → Piece → Bool
begins_info b piece = bytes_eq (take 4 (body_of b piece)) (codes "INFO")

-- the chunk at a place, where there is one
abbrev pub chunk_at : List Piece → Option ℕ → Option Piece
chunk_at pieces None = None
chunk_at pieces (Some place) = slice_get pieces place

-- a body is that of the chunk that was found, which is not too large
abbrev pub IsBodyOf : List ℕ → Option Piece → List ℕ → Type 0
IsBodyOf b None body = ⊥
IsBodyOf b (Some piece) body = (piece.len ≤ 65536) × (body ≡ body_of b piece)

-- why no body is given, by the chunk that was found
abbrev pub IsGiveRefusal : Option Piece → TagError → Type 0
IsGiveRefusal found (Get get.NoSuchChunk) = found ≡ None
IsGiveRefusal None (Get get.ChunkTooLarge) = ⊥
IsGiveRefusal (Some piece) (Get get.ChunkTooLarge) = 65536 < piece.len
IsGiveRefusal found (Get error) = Unit {0}
IsGiveRefusal found BadBody = ⊥

-- what a call leaves that tells whether a file is whole
abbrev pub WholeLeaves : {T : Type 0} → Known → Known → Result T GetError → Type 0
WholeLeaves old new (Ok done) = (old.broken ≡ None) × (new ≡ old)
WholeLeaves old new (Err (get.Broken step)) = (old.broken ≡ Some step) × (new ≡ old)
WholeLeaves old new (Err (get.DiskFault step)) = (old.broken ≡ None) × (new ≡ record old { broken = Some step })
WholeLeaves old new (Err get.Memory) = (old.broken ≡ None) × MayGive (first_piece (codes "LIST") old.shape) × (new ≡ old)
WholeLeaves old new (Err other) = ⊥

-- what reading the body at a place leaves, in a file that is whole
abbrev pub BodyLeaves : {T : Type 0} → Known → Known → Result T TagError → Type 0
BodyLeaves old new (Err (Get (get.Broken step))) = ⊥
BodyLeaves old new (Err (Get (get.DiskFault step))) = new ≡ record old { broken = Some step }
BodyLeaves old new result = new ≡ old
