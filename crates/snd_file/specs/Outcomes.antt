-- How a call that may write leaves a handle and its disk, by what became of the call.
use Rattle.std.specs.Prelude.{◌≡◌, ℕ, ◌+◌, ◌/◌}
use Rattle.snd_disk.specs.declared.disk.Disk.{Ghosts}
use Rattle.snd_disk.specs.State.{State}
use Rattle.snd_file.specs.declared.handle.File.{File}
use Rattle.snd_edits.specs.declared.mode.Mode.{Ghosts as ModeGhosts}
use Rattle.snd_edits.specs.Editing.{Editing}
use Rattle.snd_disk.specs.Device.{WritesAtMost}
use Rattle.snd_patch.specs.Steps.{KeepsBeside, StillTells}
use Rattle.snd_file.specs.Handle.{StandsAfter, disk_of, known_of}
use Rattle.snd_edits.specs.Reading.{bytes_of_frames}
use Rattle.snd_edits.specs.Writing.{most_fields}
use Rattle.snd_edits.specs.Outcomes.{Done, Faulted, Outcome, Refused, CountsOutcome}

-- A call that is carried out takes one step of the editing state; one that is refused leaves that, and the disk.
abbrev pub StandsOn : {D M : Type 0} {ghosts : Ghosts D} {mode : ModeGhosts M} → Outcome → (D → State) → File D M ghosts mode → File D M ghosts mode → (Editing → Editing) → Type 0
StandsOn Done state old new step = StandsAfter state old new step
StandsOn Refused state old new step = StandsAfter state old new (λ e. e) × (disk_of new ≡ disk_of old)
StandsOn Faulted state old new step = Unit {0}

-- where the disk tells what it holds, every byte of the first n frames and before them is as it was, beside the fields
abbrev pub KeepsFront : {D M : Type 0} {ghosts : Ghosts D} {mode : ModeGhosts M} → (D → State) → ℕ → File D M ghosts mode → File D M ghosts mode → Type 0
KeepsFront state n old new = KeepsBeside state (known_of old).shape n (disk_of old) (disk_of new)

-- .. of all its frames, and of those before the one to write next
abbrev pub KeepsFrames : {D M : Type 0} {ghosts : Ghosts D} {mode : ModeGhosts M} → (D → State) → File D M ghosts mode → File D M ghosts mode → Type 0
KeepsFrames state old new = KeepsFront state (known_of old).shape.frames old new

abbrev pub KeepsBefore : {D M : Type 0} {ghosts : Ghosts D} {mode : ModeGhosts M} → (D → State) → File D M ghosts mode → File D M ghosts mode → Type 0
KeepsBefore state old new = KeepsFront state (known_of old).write_place old new

-- the disk tells what it holds where it told that before, and has its name
abbrev pub TellsOn : {D M : Type 0} {ghosts : Ghosts D} {mode : ModeGhosts M} → (D → State) → File D M ghosts mode → File D M ghosts mode → Type 0
TellsOn state old new = StillTells (state (disk_of old)) (state (disk_of new))

-- the count of faults rises where the disk failed, and there alone
abbrev pub CountsCall : {D M : Type 0} {ghosts : Ghosts D} {mode : ModeGhosts M} → Outcome → (D → State) → File D M ghosts mode → File D M ghosts mode → Type 0
CountsCall outcome state old new = CountsOutcome outcome (state (disk_of old)).faults (state (disk_of new)).faults

-- the bytes of so many numbers' frames are written, 8 more, and 64 more where updates are automatic
abbrev pub WritesFrames : {D M : Type 0} {ghosts : Ghosts D} {mode : ModeGhosts M} → (D → State) → ℕ → File D M ghosts mode → File D M ghosts mode → Type 0
WritesFrames state numbers old new =
    let known = known_of old in
    WritesAtMost state (bytes_of_frames known.shape.params (numbers / known.shape.params.channels) + 8 + most_fields known.automatic) (disk_of old) (disk_of new)

-- nothing is asked of the disk
abbrev pub AsksNothing : {D M : Type 0} {ghosts : Ghosts D} {mode : ModeGhosts M} → (D → State) → File D M ghosts mode → File D M ghosts mode → Type 0
AsksNothing state old new = (state (disk_of new)).asked ≡ (state (disk_of old)).asked
