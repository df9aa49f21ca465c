-- How a call that puts a further chunk into a file leaves what is known of it. Each cause is exact.
use Rattle.std.specs.Prelude.{◌≡◌, ℕ, ◌<◌, ◌≤◌, true, false, List, None, Some, Result, Ok, Err, length}
use Rattle.snd_chunks.specs.Written.{NewChunk}
use Rattle.snd_layout.specs.declared.error.PieceError.{PieceError}
use Rattle.snd_layout.specs.declared.error.PieceError.TheVariants as piece_error
use Rattle.snd_chunks.specs.Heads.{new_piece}
use Rattle.snd_edits.specs.declared.wanted.Wanted.{Wanted}
use Rattle.snd_edits.specs.Known.{Known}
use Rattle.snd_layout.specs.Kinds.{holds_meta, holds_pieces, is_reserved}
use Rattle.snd_edits.specs.Relaid.{place_named, shape_put}

-- a chunk that is added, that is carried from another file, and one that takes the place of another
abbrev pub to_add : List ℕ → List ℕ → Known → Wanted
to_add id body k = record { reserved = is_reserved k.shape.kind id; held = holds_pieces k.shape.kind; len = length body; place = length k.shape.pieces }

abbrev pub to_copy : List ℕ → Known → Wanted
to_copy body k = record { reserved = false; held = holds_pieces k.shape.kind; len = length body; place = length k.shape.pieces }

abbrev pub to_replace : List ℕ → List ℕ → Known → Wanted
to_replace id body k = record { reserved = false; held = holds_meta k.shape.kind; len = length body; place = place_named id k.shape }

-- no disk call has failed, no frame was written, and updates are not automatic
pub record IsUntouched (k : Known) : Type 0 where
  pub working : k.broken ≡ None
  pub empty : k.written ≡ false
  pub by_hand : k.automatic ≡ false

-- a chunk may be put
pub record MayPut (w : Wanted) (k : Known) : Type 0 where
  pub untouched : IsUntouched k
  pub free : w.reserved ≡ false
  pub held : w.held ≡ true
  pub small : w.len ≤ 65536
  pub few : w.place ≡ length k.shape.pieces → w.place < 240

-- there are so many chunks already, and one more is to be added
abbrev pub AddsTooMany : ℕ → Known → Type 0
AddsTooMany place k = (place ≡ length k.shape.pieces) × (240 ≤ place)

-- why it may not be put
abbrev pub IsPutRefusal : Wanted → Known → PieceError → Type 0
IsPutRefusal w k (piece_error.Broken step) = k.broken ≡ Some step
IsPutRefusal w k piece_error.FramesWritten = (k.broken ≡ None) × (k.written ≡ true)
IsPutRefusal w k piece_error.AutoOn = (k.broken ≡ None) × (k.written ≡ false) × (k.automatic ≡ true)
IsPutRefusal w k piece_error.ReservedChunk = IsUntouched k × (w.reserved ≡ true)
IsPutRefusal w k piece_error.NoChunks = IsUntouched k × (w.reserved ≡ false) × (w.held ≡ false)
IsPutRefusal w k piece_error.ChunkTooLarge = IsUntouched k × (w.reserved ≡ false) × (w.held ≡ true) × (65536 < w.len)
IsPutRefusal w k piece_error.TooManyChunks = IsUntouched k × (w.reserved ≡ false) × (w.held ≡ true) × (w.len ≤ 65536) × AddsTooMany w.place k
IsPutRefusal w k other = ⊥

-- the layout with the chunk
abbrev pub known_put : ℕ → NewChunk → Known → Known
known_put place piece k = record k { shape = shape_put place piece k.shape }

abbrev pub PutLeaves : {T : Type 0} → Wanted → NewChunk → Known → Known → Result T PieceError → Type 0
PutLeaves w piece old new (Ok done) = MayPut w old × (new ≡ known_put w.place piece old)
PutLeaves w piece old new (Err (piece_error.DiskFault step)) = MayPut w old × (new ≡ record old { broken = Some step })
PutLeaves w piece old new (Err piece_error.Memory) = MayPut w old × (new ≡ old)
PutLeaves w piece old new (Err refusal) = IsPutRefusal w old refusal × (new ≡ old)

-- each of the three
abbrev pub AddLeaves : {T : Type 0} → List ℕ → List ℕ → Known → Known → Result T PieceError → Type 0
AddLeaves id body old new result = PutLeaves (to_add id body old) (new_piece id body) old new result

abbrev pub CopyLeaves : {T : Type 0} → List ℕ → List ℕ → Known → Known → Result T PieceError → Type 0
CopyLeaves id body old new result = PutLeaves (to_copy body old) (new_piece id body) old new result

abbrev pub ReplaceLeaves : {T : Type 0} → List ℕ → List ℕ → Known → Known → Result T PieceError → Type 0
ReplaceLeaves id body old new result = PutLeaves (to_replace id body old) (new_piece id body) old new result
