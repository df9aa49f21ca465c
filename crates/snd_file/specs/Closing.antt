-- A file that is closed, in each mode. The first argument is whether the mode writes.
use Rattle.std.specs.Prelude.{◌≡◌, ◌⊎◌, ◌≤◌, Bool, true, false, None, Some, Result, Ok, Err}
use Rattle.std.specs.Borrow.{MutBor}
use Rattle.snd_disk.specs.declared.disk.Disk.{Ghosts}
use Rattle.snd_disk.specs.Device.{Tells}
use Rattle.snd_disk.specs.State.{Rises, State}
use Rattle.snd_edits.specs.declared.error.DiskFault.{DiskFault}
use Rattle.snd_file.specs.declared.handle.File.{File}
use Rattle.snd_edits.specs.declared.mode.Mode.{Ghosts as ModeGhosts}
use Rattle.snd_edits.specs.Editing.{Editing}
use Rattle.snd_file.specs.Handle.{Stands, disk_of, known_of}
use Rattle.snd_file.specs.Loans.{disk_back, fault_of}
use Rattle.snd_edits.specs.Closing.{closed_to}

-- a disk holds the file closed
abbrev pub HoldsClosed : {D M : Type 0} {ghosts : Ghosts D} {mode : ModeGhosts M} → (D → State) → File D M ghosts mode → D → Type 0
HoldsClosed {mode = mode} state file disk = (e : Editing) → Stands state file e → Tells state disk (closed_to mode.ENCODES e).bytes

-- the disk that comes back: as it was, where the mode does not write; else it holds the file closed, where that succeeds
abbrev pub ClosesFile : {D M : Type 0} {ghosts : Ghosts D} {mode : ModeGhosts M} → Bool → (D → State) → File D M ghosts mode → Result (MutBor D) (DiskFault × MutBor D) → Type 0
ClosesFile false state file result = disk_back result ≡ disk_of file
ClosesFile true state file (Ok disk) = HoldsClosed state file disk.now
ClosesFile true state file (Err error) = Unit {0}

-- A file is not closed as it should where a call of the disk failed before, and then the disk is as it was; or, in a mode that
-- writes, where one fails now.
abbrev pub IsCloseCause : {D M : Type 0} {ghosts : Ghosts D} {mode : ModeGhosts M} → Bool → (D → State) → File D M ghosts mode → Result (MutBor D) (DiskFault × MutBor D) → Type 0
IsCloseCause false state file result = (known_of file).broken ≡ fault_of result
IsCloseCause true state file (Ok disk) = ((known_of file).broken ≡ None) × ((state disk.now).faults ≡ (state (disk_of file)).faults)
IsCloseCause true state file (Err error) =
    (((known_of file).broken ≡ Some error.0.0) × (error.1.now ≡ disk_of file))
    ⊎ (((known_of file).broken ≡ None) × ((state (disk_of file)).faults ≤ (state error.1.now).faults) × Rises (state (disk_of file)).faults (state error.1.now).faults)
