-- What became of a call that may write, and the state to which it leads.
use Rattle.std.specs.Prelude.{◌≡◌, ℕ, ◌≤◌, Result, Ok, Err}
use Rattle.snd_disk.specs.State.{Rises}
use Rattle.snd_edits.specs.declared.error.AutoError.{AutoError}
use Rattle.snd_edits.specs.declared.error.AutoError.TheVariants as auto_error
use Rattle.snd_edits.specs.declared.error.ShrinkError.{ShrinkError}
use Rattle.snd_edits.specs.declared.error.ShrinkError.TheVariants as shrink
use Rattle.snd_edits.specs.declared.error.UpdateError.{UpdateError}
use Rattle.snd_edits.specs.declared.error.UpdateError.TheVariants as update
use Rattle.snd_edits.specs.declared.error.WriteError.{WriteError}
use Rattle.snd_edits.specs.declared.error.WriteError.TheVariants as write
use Rattle.snd_edits.specs.Editing.{Editing}

-- a call was carried out, was refused, or failed with its disk
pub data Outcome : Type 0 where
  Done : Outcome
  Refused : Outcome
  Faulted : Outcome

abbrev pub write_outcome : {T : Type 0} → Result T WriteError → Outcome
write_outcome (Ok value) = Done
write_outcome (Err (write.DiskFault step)) = Faulted
write_outcome (Err refusal) = Refused

abbrev pub update_outcome : {T : Type 0} → Result T UpdateError → Outcome
update_outcome (Ok value) = Done
update_outcome (Err (update.DiskFault step)) = Faulted
update_outcome (Err refusal) = Refused

abbrev pub auto_outcome : {T : Type 0} → Result T AutoError → Outcome
auto_outcome (Ok value) = Done
auto_outcome (Err (auto_error.DiskFault step)) = Faulted
auto_outcome (Err refusal) = Refused

abbrev pub shrink_outcome : {T : Type 0} → Result T ShrinkError → Outcome
shrink_outcome (Ok value) = Done
shrink_outcome (Err (shrink.DiskFault step)) = Faulted
shrink_outcome (Err refusal) = Refused

-- the count of faults rises where the disk failed, and there alone
abbrev pub CountsOutcome : Outcome → ℕ → ℕ → Type 0
CountsOutcome Done old new = new ≡ old
CountsOutcome Refused old new = new ≡ old
CountsOutcome Faulted old new = (old ≤ new) × Rises old new

-- the state to which a call leads, also where its disk fails; a refused call leads nowhere
abbrev pub aimed : Outcome → (Editing → Editing) → Editing → Editing
aimed Refused step e = e
aimed outcome step e = step e
