-- How a call that reads leaves the disk of an open file.
use Rattle.std.specs.Prelude.{◌≡◌, ℕ, ◌≤◌, Result, Err}
use Rattle.snd_disk.specs.declared.disk.Disk.{Ghosts}
use Rattle.snd_disk.specs.Device.{AsksAtMost}
use Rattle.snd_disk.specs.State.{Rises, State}
use Rattle.snd_edits.specs.declared.error.ReadError.{ReadError}
use Rattle.snd_edits.specs.declared.error.ReadError.TheVariants as read
use Rattle.snd_file.specs.declared.handle.File.{File}
use Rattle.snd_edits.specs.declared.mode.Mode.{Ghosts as ModeGhosts}
use Rattle.snd_file.specs.Handle.{disk_of, known_of}
use Rattle.snd_edits.specs.Reading.{bytes_to_read}
use Rattle.snd_edits.specs.Calls.{count_read}

-- for so many frames at most their bytes are asked of the disk, and in ADPCM those of the blocks that they may stand in
abbrev pub AsksForFrames : {D M : Type 0} {ghosts : Ghosts D} {mode : ModeGhosts M} → (D → State) → ℕ → File D M ghosts mode → File D M ghosts mode → Type 0
AsksForFrames state places old new =
    let known = known_of old in
    AsksAtMost state (bytes_to_read known.shape.params (count_read places known)) (disk_of old) (disk_of new)

-- the count of faults rises where the answer is a fault of the disk, and there alone
abbrev pub CountsReading : {D T : Type 0} → (D → State) → D → D → Result T ReadError → Type 0
CountsReading state old new (Err (read.DiskFault step)) = ((state old).faults ≤ (state new).faults) × Rises (state old).faults (state new).faults
CountsReading state old new result = (state new).faults ≡ (state old).faults
