-- A handle of a file that is made.
use Rattle.std.specs.Prelude.{◌≡◌, ℕ, List, Result, Ok, Err}
use Rattle.snd_disk.specs.declared.disk.Disk.{Ghosts}
use Rattle.snd_disk.specs.Device.{Tells}
use Rattle.snd_disk.specs.State.{State}
use Rattle.snd_layout.specs.Params.{Parameters}
use Rattle.snd_layout.specs.declared.error.OpenError.{OpenError}
use Rattle.snd_layout.specs.declared.error.OpenError.TheVariants.{Memory, Refused}
use Rattle.snd_layout.specs.declared.kind.Kind.{Kind}
use Rattle.snd_layout.specs.declared.refusal.OpenRefusal.{OpenRefusal}
use Rattle.snd_file.specs.declared.handle.File.{File}
use Rattle.snd_edits.specs.declared.mode.Mode.{Ghosts as ModeGhosts}
use Rattle.snd_edits.specs.Editing.{Editing}
use Rattle.snd_file.specs.Handle.{Stands}
use Rattle.snd_edits.specs.Making.{making_of}

-- what holds where nothing is opened for want of memory
abbrev pub IfMemory : Type 0 → OpenError → Type 0
IfMemory P Memory = P
IfMemory P other = Unit {0}

-- What is made is a handle that stands for that state, where the disk tells what it holds; what is refused is that reason.
abbrev pub MakesFile : {D M : Type 0} {ghosts : Ghosts D} {mode : ModeGhosts M} → (D → State) → Kind → Parameters → D → Result (File D M ghosts mode) OpenError → Type 0
MakesFile state kind p disk (Ok file) = (b : List ℕ) → Tells state disk b → (e : Editing) × (making_of kind p ≡ Ok e) × Stands state file e
MakesFile state kind p disk (Err error) = (refusal : OpenRefusal) → error ≡ Refused refusal → making_of kind p ≡ Err refusal
