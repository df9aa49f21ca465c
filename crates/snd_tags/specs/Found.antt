-- The texts, the broadcast extension and the cue points that an open file holds, and how they are read.
use Rattle.std.specs.Prelude.{◌≡◌, ℕ, Bool, List, None, Some, Result, Ok, Err, codes}
use Rattle.snd_disk.specs.State.{State}
use Rattle.snd_layout.specs.Shape.{Shape}
use Rattle.snd_edits.specs.declared.error.GetError.{GetError}
use Rattle.snd_edits.specs.declared.error.GetError.TheVariants as get
use Rattle.snd_file.specs.declared.handle.File.{File}
use Rattle.snd_edits.specs.declared.mode.Mode.{Ghosts as ModeGhosts}
use Rattle.snd_disk.specs.declared.disk.Disk.{Ghosts}
use Rattle.snd_edits.specs.Editing.{Editing}
use Rattle.snd_edits.specs.Known.{Known}
use Rattle.snd_file.specs.Handle.{Stands, disk_of}
use Rattle.snd_edits.specs.Pieces.{first_piece}
use Rattle.snd_file.specs.Pieces.{CountsGetting}
use Rattle.snd_edits.specs.declared.tag_error.TagError.{TagError}
use Rattle.snd_edits.specs.declared.tag_error.TagError.TheVariants.{Get, BadBody}

-- ---- calls that read one of them

-- as a call that gives the body alone answers: a body that does not read was given
abbrev pub body_given : {T : Type 0} → Result T TagError → Result Bool GetError
body_given (Ok found) = Ok Bool.true
body_given (Err BadBody) = Ok Bool.false
body_given (Err (Get error)) = Err error

-- what is answered is what the file holds; a fault of the disk and want of memory say nothing of it
abbrev pub IsAnswer : {T : Type 0} → Result T TagError → Result T TagError → Type 0
IsAnswer held (Err (Get (get.Broken step))) = Unit {0}
IsAnswer held (Err (Get (get.DiskFault step))) = Unit {0}
IsAnswer held (Err (Get get.Memory)) = Unit {0}
IsAnswer held result = held ≡ result

abbrev pub Answers : {D M T : Type 0} {ghosts : Ghosts D} {mode : ModeGhosts M} → (D → State) → File D M ghosts mode → (List ℕ → Shape → Result T TagError) → Result T TagError → Type 0
Answers state file held result = (e : Editing) → Stands state file e → IsAnswer (held e.bytes e.shape) result

-- the count of faults rises where the answer is a fault of the disk, and there alone
abbrev pub CountsFinding : {D M T : Type 0} {ghosts : Ghosts D} {mode : ModeGhosts M} → (D → State) → File D M ghosts mode → File D M ghosts mode → Result T TagError → Type 0
CountsFinding state old new result = CountsGetting state (disk_of old) (disk_of new) (body_given result)

-- Over every disk: a file that is broken answers that. A call of the disk that fails breaks it, and nothing else changes what the
-- handle knows. Without a `LIST` chunk there is no INFO list.
abbrev pub FindsInfo : {T : Type 0} → Known → Known → Result T TagError → Type 0
FindsInfo old new (Err (Get (get.Broken step))) = (old.broken ≡ Some step) × (new ≡ old)
FindsInfo old new (Err (Get (get.DiskFault step))) = (old.broken ≡ None) × (new ≡ record old { broken = Some step })
FindsInfo old new (Err (Get get.NoSuchChunk)) = (old.broken ≡ None) × (new ≡ old)
FindsInfo old new result = (old.broken ≡ None) × (first_piece (codes "LIST") old.shape ≡ None → ⊥) × (new ≡ old)
