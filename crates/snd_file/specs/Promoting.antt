-- What a call leaves of a handle whose file it turns into RF64. The first argument is the meaning of the disk.
use Rattle.std.specs.Prelude.{ℕ, List}
use Rattle.snd_disk.specs.State.{State}
use Rattle.snd_disk.specs.declared.disk.Disk.{Ghosts}
use Rattle.snd_promote.specs.Images.{KeepsBesideFront}
use Rattle.snd_edits.specs.Editing.{Editing}
use Rattle.snd_edits.specs.Outcomes.{Done, Faulted, Outcome, Refused}
use Rattle.snd_edits.specs.declared.mode.Mode.{Ghosts as ModeGhosts}
use Rattle.snd_reservations.specs.States.{promoted_to}
use Rattle.snd_file.specs.Handle.{disk_of, known_of}
use Rattle.snd_file.specs.Rest.{IsAtRest}
use Rattle.snd_file.specs.declared.handle.File.{File}

-- From rest, a call whose disk does not fail leaves the file at rest. A promoted file is one of its own: it came to its state from the
-- bytes that it has then.
abbrev pub RestsPromoted : {D M : Type 0} {mode : ModeGhosts M} (d : Ghosts D) → Outcome → File D M d mode → File D M d mode → Type 0
RestsPromoted d Done old new = (opened : List ℕ) (e : Editing) → IsAtRest d opened old e → IsAtRest d (promoted_to e).bytes new (promoted_to e)
RestsPromoted d Refused old new = (opened : List ℕ) (e : Editing) → IsAtRest d opened old e → IsAtRest d opened new e
RestsPromoted d Faulted old new = Unit {0}

-- before the end of the data every byte is as it was, beside the fields, the first 48 and the four before the data, and the first 48
-- are new or were so
abbrev pub KeepsTurned : {D M : Type 0} {ghosts : Ghosts D} {mode : ModeGhosts M} → (D → State) → File D M ghosts mode → File D M ghosts mode → Type 0
KeepsTurned state old new = KeepsBesideFront state (known_of old).shape (known_of old).shape.frames (disk_of old) (disk_of new)
