-- How a call that is given frames of ADPCM leaves the handle and its disk.
use Rattle.std.specs.Prelude.{◌≡◌, ℕ}
use Rattle.snd_disk.specs.Device.{WritesAtMost}
use Rattle.snd_disk.specs.State.{State}
use Rattle.snd_disk.specs.declared.disk.Disk.{Ghosts}
use Rattle.snd_file.specs.declared.handle.File.{File}
use Rattle.snd_edits.specs.declared.mode.Mode.{Ghosts as ModeGhosts}
use Rattle.snd_edits.specs.Editing.{Editing}
use Rattle.snd_file.specs.Handle.{StandsAfter, disk_of, known_of}
use Rattle.snd_edits.specs.Outcomes.{Done, Faulted, Outcome, Refused}
use Rattle.snd_edits.specs.Encoding.{most_encoded}

-- the blocks of so many numbers are written, as `most_encoded` counts their bytes
abbrev pub WritesBlocks : {D M : Type 0} {ghosts : Ghosts D} {mode : ModeGhosts M} → (D → State) → ℕ → File D M ghosts mode → File D M ghosts mode → Type 0
WritesBlocks state numbers old new = WritesAtMost state (most_encoded (known_of old).automatic (known_of old).shape numbers) (disk_of old) (disk_of new)

-- a call that is carried out takes one step of the editing state; one that is refused leaves it, and the disk
abbrev pub EncodesOn : {D M : Type 0} {ghosts : Ghosts D} {mode : ModeGhosts M} → Outcome → (D → State) → File D M ghosts mode → File D M ghosts mode → (Editing → Editing) → Type 0
EncodesOn Done state old new step = StandsAfter state old new step
EncodesOn Refused state old new step = StandsAfter state old new (λ e. e) × (disk_of new ≡ disk_of old)
EncodesOn Faulted state old new step = Unit {0}
