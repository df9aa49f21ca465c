-- How chunks are carried from an open file into one that was just made, and how that leaves both.
use Rattle.std.specs.Prelude.{◌≡◌, List, [], ◌∷◌, ◌++◌, Ok, map}
use Rattle.snd_container.specs.Made.{new_shape}
use Rattle.snd_disk.specs.declared.disk.Disk.{Ghosts}
use Rattle.snd_disk.specs.Device.{AsksAtMost}
use Rattle.snd_disk.specs.State.{State}
use Rattle.snd_layout.specs.Params.{Parameters}
use Rattle.snd_layout.specs.Shape.{Shape}
use Rattle.snd_layout.specs.declared.kind.Kind.{Kind}
use Rattle.snd_layout.specs.declared.piece.Piece.{Piece}
use Rattle.snd_chunks.specs.Heads.{chunk_read, outline}
use Rattle.snd_file.specs.declared.handle.File.{File}
use Rattle.snd_edits.specs.declared.mode.Mode.{Ghosts as ModeGhosts}
use Rattle.snd_file.specs.Chunks.{StandsAsOpened}
use Rattle.snd_edits.specs.Editing.{Editing}
use Rattle.snd_edits.specs.Known.{Known}
use Rattle.snd_file.specs.Handle.{Stands, disk_of}
use Rattle.snd_edits.specs.Making.{making_of}
use Rattle.snd_edits.specs.Pieces.{body_of}
use Rattle.snd_edits.specs.Relaid.{added_to, pieces_held, shape_with}
use Rattle.snd_output.specs.Made.{AreChunks, IsChunk, made_with}
use Rattle.snd_carry.specs.Carried.{body_bytes, carried}

-- a layout is that of a file as it is made, of some kind and parameters
abbrev pub IsNewShape : Shape → Type 0
IsNewShape h = (kind : Kind) × (p : Parameters) × (h ≡ new_shape kind p)

-- what is known, over every disk, of a file that was made once the chunks of such pieces were put into it
abbrev pub known_with : List Piece → Known → Known
known_with pieces k = record k { shape = shape_with k.shape.kind k.shape.params (map outline pieces) }

-- Where both disks tell what they hold, a handle that stood for a file as it was made stands for one that was made with the
-- chunks that are carried of the other file.
abbrev pub Carries : {D E M N : Type 0} {ghosts : Ghosts D} {others : Ghosts E} {mode : ModeGhosts M} {making : ModeGhosts N} → (D → State) → (E → State)
    → File D M ghosts mode → File E N others making → File E N others making → Type 0
Carries state state' from old new = (e e' : Editing) (kind : Kind) (p : Parameters) → Stands state from e → making_of kind p ≡ Ok e' → Stands state' old e' →
    Stands state' new (made_with kind p (carried e.bytes e.shape.pieces))

-- Where the disk tells what it holds, the chunks that are carried are of bytes, and such as a file may be made with.
abbrev pub HoldsChunks : {D M : Type 0} {ghosts : Ghosts D} {mode : ModeGhosts M} → (D → State) → File D M ghosts mode → Type 0
HoldsChunks state from = (e : Editing) → Stands state from e → AreChunks (carried e.bytes e.shape.pieces)

-- It is a file that is opened to be updated in the state for which the handle stands, as it was when it was made.
abbrev pub StaysAsOpened : {E N : Type 0} {others : Ghosts E} {making : ModeGhosts N} → (E → State) → File E N others making → File E N others making → Type 0
StaysAsOpened state' old new = StandsAsOpened state' old → StandsAsOpened state' new

-- for pieces no more than their bodies are asked of the disk
abbrev pub AsksForBodies : {D M : Type 0} {ghosts : Ghosts D} {mode : ModeGhosts M} → (D → State) → List Piece → File D M ghosts mode → File D M ghosts mode → Type 0
AsksForBodies state pieces old new = AsksAtMost state (body_bytes pieces) (disk_of old) (disk_of new)

-- ---- one chunk

-- a handle that stood for a state stands for that with the chunk of a piece behind the others
abbrev pub CarriesOne : {D E M N : Type 0} {ghosts : Ghosts D} {others : Ghosts E} {mode : ModeGhosts M} {making : ModeGhosts N} → (D → State) → (E → State)
    → Piece → File D M ghosts mode → File E N others making → File E N others making → Type 0
CarriesOne state state' piece from old new =
    (e e' : Editing) → Stands state from e → Stands state' old e' → Stands state' new (added_to piece.id.0 (body_of e.bytes piece) e')

-- .. and which then holds it
abbrev pub HoldsOne : {D E M N : Type 0} {ghosts : Ghosts D} {others : Ghosts E} {mode : ModeGhosts M} {making : ModeGhosts N} → (D → State) → (E → State)
    → Piece → File D M ghosts mode → File E N others making → File E N others making → Type 0
HoldsOne state state' piece from old new =
    (e e' e'' : Editing) → Stands state from e → Stands state' old e' → Stands state' new e'' → pieces_held e'' ≡ pieces_held e' ++ chunk_read e.bytes piece ∷ []

-- a piece of a file is such a chunk
abbrev pub HoldsChunk : {D M : Type 0} {ghosts : Ghosts D} {mode : ModeGhosts M} → (D → State) → Piece → File D M ghosts mode → Type 0
HoldsChunk state piece from = (e : Editing) → Stands state from e → IsChunk (chunk_read e.bytes piece)
