-- The further chunks of a handle stay, whatever is written, cut or sealed; also those that were put into a file that is made.
use Rattle.std.specs.Prelude.{◌≡◌, ℕ, List}
use Rattle.snd_chunks.specs.Written.{NewChunk}
use Rattle.snd_disk.specs.declared.disk.Disk.{Ghosts}
use Rattle.snd_disk.specs.Device.{Tells}
use Rattle.snd_disk.specs.State.{State}
use Rattle.snd_chunks.specs.Heads.{with_piece}
use Rattle.snd_file.specs.declared.handle.File.{File}
use Rattle.snd_edits.specs.declared.mode.Mode.{Ghosts as ModeGhosts}
use Rattle.snd_edits.specs.Editing.{Editing}
use Rattle.snd_file.specs.Handle.{Stands}
use Rattle.snd_edits.specs.Laws.{IsEdited}
use Rattle.snd_edits.specs.Relaid.{pieces_held}
use Rattle.snd_edits.specs.Chunks.{SameBodies, KeepsChunks, IsOpenedAs}

-- ---- what a call leaves

-- a handle that stood for an edited file stands for one with its chunks
abbrev pub KeepsChunksOn : {D M : Type 0} {ghosts : Ghosts D} {mode : ModeGhosts M} → (D → State) → File D M ghosts mode → File D M ghosts mode → Type 0
KeepsChunksOn state old new = (file : List ℕ) (e e' : Editing) → IsEdited file e → Stands state old e → Stands state new e' → KeepsChunks e e'

-- .. and a disk that comes back holds them
abbrev pub GivesChunksBack : {D M : Type 0} {ghosts : Ghosts D} {mode : ModeGhosts M} → (D → State) → File D M ghosts mode → D → Type 0
GivesChunksBack state file disk = (opened : List ℕ) (e : Editing) (b : List ℕ) → IsEdited opened e → Stands state file e → Tells state disk b → SameBodies e.shape.pieces e.bytes b

-- ---- a chunk that is put into a file that is made

-- the file holds the chunks that it held, with this one
abbrev pub HoldsPut : {D M : Type 0} {ghosts : Ghosts D} {mode : ModeGhosts M} → (D → State) → ℕ → NewChunk → File D M ghosts mode → File D M ghosts mode → Type 0
HoldsPut state place piece old new = (e e' : Editing) → Stands state old e → Stands state new e' → pieces_held e' ≡ with_piece (pieces_held e) place piece

-- the file is one that is opened in the state for which the handle stands
abbrev pub StandsAsOpened : {D M : Type 0} {ghosts : Ghosts D} {mode : ModeGhosts M} → (D → State) → File D M ghosts mode → Type 0
StandsAsOpened {mode = mode} state file = (e : Editing) → Stands state file e → IsOpenedAs mode.ENCODES e
