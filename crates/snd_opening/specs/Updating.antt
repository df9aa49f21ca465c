-- A handle of a file that is opened to be updated in place.
use Rattle.std.specs.Prelude.{◌≡◌, ℕ, ◌≤◌, List, Result, Ok, Err}
use Rattle.snd_disk.specs.declared.disk.Disk.{Ghosts}
use Rattle.snd_disk.specs.Device.{Tells}
use Rattle.snd_disk.specs.State.{Rises, State}
use Rattle.snd_layout.specs.declared.error.OpenError.{OpenError}
use Rattle.snd_layout.specs.declared.error.OpenError.TheVariants.{DiskFault, Memory}
use Rattle.snd_file.specs.declared.handle.File.{File}
use Rattle.snd_edits.specs.declared.mode.Mode.{Ghosts as ModeGhosts}
use Rattle.snd_edits.specs.Editing.{Editing}
use Rattle.snd_file.specs.Handle.{Stands}
use Rattle.snd_edits.specs.Updating.{updating_of}

-- What is refused is what the contents refuse, where the disk tells them.
abbrev pub RefusesUpdate : {D : Type 0} → (D → State) → D → OpenError → Type 0
RefusesUpdate state disk (DiskFault step) = Unit {0}
RefusesUpdate state disk Memory = Unit {0}
RefusesUpdate state disk refusal = (b : List ℕ) → Tells state disk b → updating_of b ≡ Err refusal

-- What is opened is a handle that stands for the editing state that they give.
abbrev pub UpdatesFile : {D M : Type 0} {ghosts : Ghosts D} {mode : ModeGhosts M} → (D → State) → D → Result (File D M ghosts mode) OpenError → Type 0
UpdatesFile state disk (Ok file) = (b : List ℕ) → Tells state disk b → (e : Editing) × (updating_of b ≡ Ok e) × Stands state file e
UpdatesFile state disk (Err error) = RefusesUpdate state disk error

-- the count of faults rises where the answer is a fault of the disk, and there alone
abbrev pub CountsUpdating : {D T : Type 0} → (D → State) → D → D → Result T OpenError → Type 0
CountsUpdating state old new (Err (DiskFault step)) = ((state old).faults ≤ (state new).faults) × Rises (state old).faults (state new).faults
CountsUpdating state old new result = (state new).faults ≡ (state old).faults
