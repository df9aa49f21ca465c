-- How a call that reads the body of a further chunk leaves the disk.
use Rattle.std.specs.Prelude.{◌≡◌, ◌≤◌, Result, Err}
use Rattle.snd_disk.specs.State.{Rises, State}
use Rattle.snd_edits.specs.declared.error.GetError.{GetError}
use Rattle.snd_edits.specs.declared.error.GetError.TheVariants as get
use Rattle.snd_edits.specs.declared.error.PieceReadError.{PieceReadError}
use Rattle.snd_edits.specs.declared.error.PieceReadError.TheVariants as piece_read

-- ---- a body that is given whole

-- the count of faults rises where the answer is a fault of the disk, and there alone
abbrev pub CountsGetting : {D T : Type 0} → (D → State) → D → D → Result T GetError → Type 0
CountsGetting state old new (Err (get.DiskFault step)) = ((state old).faults ≤ (state new).faults) × Rises (state old).faults (state new).faults
CountsGetting state old new result = (state new).faults ≡ (state old).faults

-- ---- a body that is read into a slice

abbrev pub CountsPieceReading : {D T : Type 0} → (D → State) → D → D → Result T PieceReadError → Type 0
CountsPieceReading state old new (Err (piece_read.DiskFault step)) = ((state old).faults ≤ (state new).faults) × Rises (state old).faults (state new).faults
CountsPieceReading state old new result = (state new).faults ≡ (state old).faults
