-- How a file that is made begins and ends.
use Rattle.std.specs.Prelude.{◌≡◌, ◌⊎◌, ℕ, ◌≤◌, List, [], ℤ, None, Result, Ok, Err, IfOk, is_some, true}
use Rattle.std.specs.Borrow.{MutBor}
use Rattle.snd_chunks.specs.Written.{NewChunk}
use Rattle.snd_disk.specs.declared.disk.Disk.{Ghosts}
use Rattle.snd_disk.specs.Device.{Tells}
use Rattle.snd_disk.specs.State.{Rises, State}
use Rattle.snd_layout.specs.Params.{Parameters}
use Rattle.snd_layout.specs.declared.error.OpenError.{OpenError}
use Rattle.snd_layout.specs.declared.error.OpenError.TheVariants as open_error
use Rattle.snd_layout.specs.declared.kind.Kind.{Kind}
use Rattle.snd_file.specs.declared.handle.File.{File}
use Rattle.snd_edits.specs.declared.mode.Mode.{Ghosts as ModeGhosts}
use Rattle.snd_edits.specs.Editing.{Editing}
use Rattle.snd_edits.specs.Known.{Known}
use Rattle.snd_file.specs.Handle.{Stands, disk_of, known_of}
use Rattle.snd_edits.specs.Making.{making_of}
use Rattle.snd_output.specs.declared.stop.Stop.{Stop}
use Rattle.snd_output.specs.declared.stop.Stop.TheVariants.{Changed, Fault, Memory}
use Rattle.snd_output.specs.Made.{IsMaking, made_file}

-- the count of faults rises where the answer is a fault, and there alone
abbrev pub IsStopCause : ℕ → ℕ → Stop → Type 0
IsStopCause old new Fault = (old ≤ new) × Rises old new
IsStopCause old new Memory = new ≡ old
IsStopCause old new Changed = new ≡ old

abbrev pub CountsStop : {T : Type 0} → ℕ → ℕ → Result T Stop → Type 0
CountsStop old new (Ok done) = new ≡ old
CountsStop old new (Err stop) = IsStopCause old new stop

-- of two counts one rises so
abbrev pub CountsOneOf : {T : Type 0} → ℕ → ℕ → ℕ → ℕ → Result T Stop → Type 0
CountsOneOf old new old' new' (Ok done) = (new ≡ old) × (new' ≡ old')
CountsOneOf old new old' new' (Err Fault) = (old ≤ new) × (old' ≤ new') × (Rises old new ⊎ Rises old' new')
CountsOneOf old new old' new' (Err Memory) = (new ≡ old) × (new' ≡ old')
CountsOneOf old new old' new' (Err Changed) = (new ≡ old) × (new' ≡ old')

-- no file that is read is said to have changed
abbrev pub IsUnchanged : {T : Type 0} → Result T Stop → Type 0
IsUnchanged (Err Changed) = ⊥
IsUnchanged other = Unit {0}

-- .. or something is so where one is
abbrev pub IfChanged : {T : Type 0} → Type 0 → Result T Stop → Type 0
IfChanged P (Err Changed) = P
IfChanged P other = Unit {0}

-- a fault alone may break a file
abbrev pub BreaksByFault : {T : Type 0} → Known → Result T Stop → Type 0
BreaksByFault file (Err Fault) = Unit {0}
BreaksByFault file result = file.broken ≡ None

-- what stops a tool whose file is not made
abbrev pub stop_of : OpenError → Stop
stop_of open_error.Memory = Memory
stop_of error = Fault

-- what was begun is a file as it is made, and one that is being made, without chunks and numbers, where the disk tells what it holds
abbrev pub BeginsFile : {D M E : Type 0} {ghosts : Ghosts D} {mode : ModeGhosts M} → (D → State) → Kind → Parameters → D → Result (File D M ghosts mode) E → Type 0
BeginsFile state kind p disk result =
    IfOk result (λ file. (b : List ℕ) → Tells state disk b → (e : Editing) × Stands state file e × IsMaking kind p [] [] e × (making_of kind p ≡ Ok e))

-- what comes back is the file that was made
abbrev pub MakesWhole : {D M E : Type 0} {ghosts : Ghosts D} {mode : ModeGhosts M} → (D → State) → File D M ghosts mode → Result (MutBor D) E → Type 0
MakesWhole state file result =
    IfOk result (λ disk. (kind : Kind) (p : Parameters) (pieces : List NewChunk) (xs : List ℤ) (e : Editing)
    → Stands state file e → IsMaking kind p pieces xs e → Tells state disk.now (made_file kind p pieces xs))

-- A file is not finished where a call of its disk had failed, and then the disk is as it was, or where one fails now.
abbrev pub IsFinishCause : {D M : Type 0} {ghosts : Ghosts D} {mode : ModeGhosts M} → (D → State) → File D M ghosts mode → Result (MutBor D) (Stop × MutBor D) → Type 0
IsFinishCause state file (Ok disk) = ((known_of file).broken ≡ None) × ((state disk.now).faults ≡ (state (disk_of file)).faults)
IsFinishCause state file (Err error) =
    (error.0 ≡ Fault)
    × (((is_some (known_of file).broken ≡ true) × (error.1.now ≡ disk_of file))
    ⊎ (((known_of file).broken ≡ None) × ((state (disk_of file)).faults ≤ (state error.1.now).faults) × Rises (state (disk_of file)).faults (state error.1.now).faults))
