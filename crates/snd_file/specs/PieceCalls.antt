-- How a call that puts a further chunk into a file leaves the handle and its disk.
use Rattle.std.specs.Prelude.{◌≡◌, ◌≤◌, Result, Ok, Err}
use Rattle.snd_disk.specs.declared.disk.Disk.{Ghosts}
use Rattle.snd_disk.specs.State.{Rises, State}
use Rattle.snd_layout.specs.declared.error.PieceError.{PieceError}
use Rattle.snd_layout.specs.declared.error.PieceError.TheVariants as piece_error
use Rattle.snd_file.specs.declared.handle.File.{File}
use Rattle.snd_edits.specs.declared.mode.Mode.{Ghosts as ModeGhosts}
use Rattle.snd_edits.specs.Editing.{Editing}
use Rattle.snd_file.specs.Handle.{StandsAfter, disk_of}

-- A call that is carried out takes one step of the editing state. One that is refused leaves that, and the disk; one that has no
-- memory leaves the state.
abbrev pub StandsPut : {D M T : Type 0} {ghosts : Ghosts D} {mode : ModeGhosts M} → (D → State) → File D M ghosts mode → File D M ghosts mode
    → (Editing → Editing) → Result T PieceError → Type 0
StandsPut state old new step (Ok done) = StandsAfter state old new step
StandsPut state old new step (Err (piece_error.DiskFault fault)) = Unit {0}
StandsPut state old new step (Err piece_error.Memory) = StandsAfter state old new (λ e. e)
StandsPut state old new step (Err refusal) = StandsAfter state old new (λ e. e) × (disk_of new ≡ disk_of old)

-- the count of faults rises where the answer is a fault of the disk, and there alone
abbrev pub CountsPut : {D T : Type 0} → (D → State) → D → D → Result T PieceError → Type 0
CountsPut state old new (Err (piece_error.DiskFault step)) = ((state old).faults ≤ (state new).faults) × Rises (state old).faults (state new).faults
CountsPut state old new result = (state new).faults ≡ (state old).faults
