-- A file at rest between two calls, and what calls leave of it at every moment. The first argument is the meaning of the disk.
use Rattle.std.specs.Prelude.{◌≡◌, ◌⊎◌, ℕ, true, false, List, All, Ok, Result}
use Rattle.std.specs.Borrow.{MutBor}
use Rattle.snd_disk.specs.Device.{IsStable, Tells}
use Rattle.snd_disk.specs.declared.disk.Disk.{Ghosts}
use Rattle.snd_fields.specs.Laws.{IsByte}
use Rattle.snd_patch.specs.Images.{LeavesCutting, LeavesEach}
use Rattle.snd_edits.specs.declared.error.DiskFault.{DiskFault}
use Rattle.snd_file.specs.declared.handle.File.{File}
use Rattle.snd_edits.specs.declared.mode.Mode.{Ghosts as ModeGhosts}
use Rattle.snd_edits.specs.Closing.{closed_to}
use Rattle.snd_edits.specs.Editing.{Editing}
use Rattle.snd_file.specs.Handle.{Stands, disk_of, known_of}
use Rattle.snd_edits.specs.Laws.{IsStateOf}
use Rattle.snd_file.specs.Loans.{disk_back}
use Rattle.snd_edits.specs.Outcomes.{Faulted, Outcome, aimed}
use Rattle.snd_edits.specs.Safe.{IsFit, IsSafe, IsSized}
use Rattle.snd_edits.specs.Updating.{updating_of}

-- The handle stands for a state to which a file came, in its way of writing; a crash leaves its bytes alone, and these are fit for
-- updates that a crash cannot hurt.
pub record IsAtRest {D M : Type 0} {mode : ModeGhosts M} (d : Ghosts D) (opened : List ℕ) (file : File D M d mode) (e : Editing) : Type 0 where
  pub state : IsStateOf mode.ENCODES opened e
  pub stands : Stands d.state file e
  pub stable : IsStable d.state d.may_leave (disk_of file)
  pub fit : IsFit e
  pub sized : (e.automatic ≡ true) ⊎ (mode.ENCODES ≡ true) → e.shape.trailing ≡ false → IsSized e

-- From rest, what a call leaves at any moment is safe between the state before it and the one to which it leads.
abbrev pub LeavesSafe : {D M : Type 0} {mode : ModeGhosts M} (d : Ghosts D) → Outcome → (Editing → Editing) → File D M d mode → File D M d mode → Type 0
LeavesSafe d outcome step old new = (opened : List ℕ) (e : Editing) → IsAtRest d opened old e
    → LeavesEach d (disk_of old) (disk_of new) (IsSafe e (aimed outcome step e))

-- From rest, what sealing a file leaves at any moment is safe, wherever the call leads that seals it.
abbrev pub SealsSafely : {D M : Type 0} {mode : ModeGhosts M} (d : Ghosts D) → File D M d mode → File D M d mode → Type 0
SealsSafely d old new = (opened : List ℕ) (e e' : Editing) → IsAtRest d opened old e
    → LeavesEach d (disk_of old) (disk_of new) (IsSafe e e')

-- What cutting off all behind the data leaves at any moment, from a start that was stable.
abbrev pub CutsBehind : {D M : Type 0} {mode : ModeGhosts M} (d : Ghosts D) → File D M d mode → File D M d mode → Type 0
CutsBehind d old new = LeavesCutting d (known_of old).shape (known_of old).shape.frames (disk_of old) (disk_of new)

-- From rest, a call whose disk does not fail leaves the file at rest.
abbrev pub StaysAtRest : {D M : Type 0} {mode : ModeGhosts M} (d : Ghosts D) → Outcome → (Editing → Editing) → File D M d mode → File D M d mode → Type 0
StaysAtRest d Faulted step old new = Unit {0}
StaysAtRest d outcome step old new = (opened : List ℕ) (e : Editing) → IsAtRest d opened old e → IsAtRest d opened new (aimed outcome step e)

-- A file that is sealed comes to rest, whatever a crash could leave of it before.
abbrev pub ComesToRest : {D M : Type 0} {mode : ModeGhosts M} (d : Ghosts D) → (Editing → Editing) → File D M d mode → File D M d mode → Type 0
ComesToRest {mode = mode} d step old new = (opened : List ℕ) (e : Editing) → IsStateOf mode.ENCODES opened e → All IsByte e.bytes
    → Stands d.state old e → IsAtRest d opened new (step e)

-- A file that is opened to be updated is at rest where a crash leaves its bytes alone and these are fit.
abbrev pub OpensAtRest : {D M : Type 0} {mode : ModeGhosts M} (d : Ghosts D) → D → File D M d mode → Type 0
OpensAtRest d disk file = (b : List ℕ) (e : Editing) → Tells d.state disk b → IsStable d.state d.may_leave disk
    → updating_of b ≡ Ok e → IsFit e → IsAtRest d b file e

-- From rest, what closing a file leaves at any moment is safe between the state before it and the file closed.
abbrev pub ClosesSafely : {D M : Type 0} {mode : ModeGhosts M} (d : Ghosts D) → File D M d mode → Result (MutBor D) (DiskFault × MutBor D) → Type 0
ClosesSafely {mode = mode} d file result = (opened : List ℕ) (e : Editing) → IsAtRest d opened file e
    → LeavesEach d (disk_of file) (disk_back result) (IsSafe e (closed_to mode.ENCODES e))
