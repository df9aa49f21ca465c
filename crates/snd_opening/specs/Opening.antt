-- A file that is opened, or not: the disk that the call takes comes back with the handle or with the error.
use Rattle.std.specs.Prelude.{◌≡◌, ℕ, List, Result, Ok, Err}
use Rattle.std.specs.Borrow.{GName, MutBor}
use Rattle.snd_disk.specs.declared.disk.Disk.{Ghosts}
use Rattle.snd_disk.specs.Device.{Tells}
use Rattle.snd_disk.specs.State.{State}
use Rattle.snd_layout.specs.declared.error.OpenError.{OpenError}
use Rattle.snd_layout.specs.declared.error.OpenError.TheVariants.{Refused}
use Rattle.snd_layout.specs.declared.refusal.OpenRefusal.{OpenRefusal}
use Rattle.snd_file.specs.declared.handle.File.{File}
use Rattle.snd_edits.specs.declared.mode.Mode.{Ghosts as ModeGhosts}
use Rattle.snd_edits.specs.Editing.{Editing, opening_of}
use Rattle.snd_file.specs.Handle.{Stands, disk_of, loan_of}

abbrev pub disk_after : {D M E : Type 0} {ghosts : Ghosts D} {mode : ModeGhosts M} → Result (File D M ghosts mode) (E × MutBor D) → D
disk_after (Ok file) = disk_of file
disk_after (Err error) = error.1.now

abbrev pub loan_after : {D M E : Type 0} {ghosts : Ghosts D} {mode : ModeGhosts M} → Result (File D M ghosts mode) (E × MutBor D) → GName
loan_after (Ok file) = loan_of file
loan_after (Err error) = error.1.ghost_name

-- the answer without the disk that comes back with the error
abbrev pub answer_of : {T E R : Type 0} → Result T (E × R) → Result T E
answer_of (Ok value) = Ok value
answer_of (Err error) = Err error.0

-- What is answered is what the contents give, where the disk tells them: a handle that stands for the editing state, or the refusal.
abbrev pub OpensFile : {D M : Type 0} {ghosts : Ghosts D} {mode : ModeGhosts M} → (D → State) → D → Result (File D M ghosts mode) OpenError → Type 0
OpensFile state disk (Ok file) = (b : List ℕ) → Tells state disk b → (e : Editing) × (opening_of b ≡ Ok e) × Stands state file e
OpensFile state disk (Err error) = (refusal : OpenRefusal) (b : List ℕ) → error ≡ Refused refusal → Tells state disk b → opening_of b ≡ Err refusal
