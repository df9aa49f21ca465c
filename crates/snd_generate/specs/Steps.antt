-- The calls of which the parts are made: on a file that is made, on one that is updated, and on one that is read.
use Rattle.std.specs.Prelude.{◌≡◌, ℕ, ℤ, pos, Bool, false, true, List, [], ◌++◌, Option, None, Result, Ok, Err, length}
use Rattle.snd_disk.specs.declared.disk.Disk.{Ghosts}
use Rattle.snd_disk.specs.declared.disk.Step.{Step}
use Rattle.snd_disk.specs.Device.{GoesOnFrom}
use Rattle.snd_disk.specs.State.{State}
use Rattle.snd_layout.specs.Shape.{Shape}
use Rattle.snd_layout.specs.declared.error.OpenError.{OpenError}
use Rattle.snd_layout.specs.declared.error.OpenError.TheVariants.{DiskFault}
use Rattle.snd_layout.specs.declared.kind.Kind.TheVariants.{Wave}
use Rattle.snd_file.specs.declared.handle.File.{File}
use Rattle.snd_edits.specs.declared.mode.Mode.{Ghosts as ModeGhosts}
use Rattle.snd_edits.specs.Calls.{count_read}
use Rattle.snd_edits.specs.Editing.{Editing, frames_read}
use Rattle.snd_edits.specs.Known.{Known}
use Rattle.snd_file.specs.Handle.{Stands, disk_of, known_of}
use Rattle.snd_file.specs.Outcomes.{TellsOn}
use Rattle.snd_edits.specs.Relaid.{shape_with}
use Rattle.snd_edits.specs.WriteCalls.{MayWrite}
use Rattle.snd_output.specs.Appended.{read_on}
use Rattle.snd_output.specs.declared.stop.Stop.{Stop}
use Rattle.snd_output.specs.declared.stop.Stop.TheVariants.{Changed, Fault, Memory}
use Rattle.snd_output.specs.Ends.{CountsStop}
use Rattle.snd_output.specs.Made.{IsMaking}
use Rattle.snd_patch.specs.Sealed.{counted}
use Rattle.snd_taps.specs.declared.tap.TapKind.TheVariants.{Energy, Peak}
use Rattle.snd_taps.specs.Meter.{after_frames, fed}
use Rattle.snd_taps.specs.Meters.{energy_meter, peak_meter}
use Rattle.snd_generate.specs.declared.generating.Summary.{Summary}
use Rattle.snd_generate.specs.declared.summing.Meters.{Meters}
use Rattle.snd_generate.specs.Edited.{edited, file_of, frames_kept, params, with_frame}
use Rattle.snd_generate.specs.Generating.{AreNumbers}
use Rattle.snd_generate.specs.Numbers.{numbers_from}

-- a file is broken where a call stopped with a fault, and there alone
abbrev pub IsBrokenBy : {T : Type 0} → Result T Stop → Option Step → Type 0
IsBrokenBy (Ok done) broken = broken ≡ None
IsBrokenBy (Err Fault) broken = Unit {0}
IsBrokenBy (Err Memory) broken = broken ≡ None
IsBrokenBy (Err Changed) broken = broken ≡ None

-- a call on an open file, whose disk it changes or reads
pub record Calls {D M T : Type 0} {ghosts : Ghosts D} {mode : ModeGhosts M} (state : D → State) (left_between : D → ℕ → ℕ → List ℕ → Type 0) (old new : File D M ghosts mode) (result : Result T Stop) : Type 0 where
  pub broken : IsBrokenBy result (known_of new).broken
  pub faults : CountsStop (state (disk_of old)).faults (state (disk_of new)).faults result
  pub tells : TellsOn state old new
  pub time : GoesOnFrom state left_between (disk_of old) (disk_of new)

-- so many numbers may be written, from the frame to write next on
abbrev pub MayWriteTo : {D M : Type 0} {ghosts : Ghosts D} {mode : ModeGhosts M} → File D M ghosts mode → List ℤ → Type 0
MayWriteTo file numbers = MayWrite numbers (known_of file).shape (known_of file).write_place

-- what stops a part whose file does not open: one that is refused is not what was made, which is no fault
abbrev pub stop_of : OpenError → Stop
stop_of (DiskFault step) = Fault
stop_of error = Memory

-- ---- a file that is made

-- where it held some numbers, it holds more behind them
abbrev pub Lengthens : {D M : Type 0} {ghosts : Ghosts D} {mode : ModeGhosts M} → (D → State) → List ℤ → File D M ghosts mode → File D M ghosts mode → Type 0
Lengthens state ys old new = (xs : List ℤ) (e : Editing) → Stands state old e → IsMaking Wave params [] xs e →
    (e' : Editing) × Stands state new e' × IsMaking Wave params [] (xs ++ ys) e'

-- .. as many as a block has, behind a state
abbrev pub LengthensBy : {D M : Type 0} {ghosts : Ghosts D} {mode : ModeGhosts M} → (D → State) → ℕ → ℕ → File D M ghosts mode → File D M ghosts mode → Type 0
LengthensBy state count seed old new = Lengthens state (numbers_from count seed) old new

-- ---- a file that is updated

-- what the file of so many frames says of itself
abbrev pub shape_of : ℕ → Shape
shape_of n = counted (record (shape_with Wave params []) { frames = n }) n

-- an editing state of the file of some numbers, whose updates are automatic, or not
pub record Holds (automatic : Bool) (n : ℕ) (xs : List ℤ) (e : Editing) : Type 0 where
  pub numbers : AreNumbers n xs
  pub bytes : e.bytes ≡ file_of xs
  pub shape : e.shape ≡ shape_of n
  pub kept_up : e.automatic ≡ automatic

-- where it held some of n frames, it holds what becomes of these, m frames
abbrev pub Becomes : {D M : Type 0} {ghosts : Ghosts D} {mode : ModeGhosts M} → (D → State) → Bool → ℕ → ℕ → (List ℤ → List ℤ) → File D M ghosts mode → File D M ghosts mode → Type 0
Becomes state automatic n m change old new = (xs : List ℤ) (e : Editing) → Stands state old e → Holds automatic n xs e →
    (e' : Editing) × Stands state new e' × Holds true m (change xs) e'

-- .. once one of its frames is overwritten, and once it is edited
abbrev pub Overwrites : {D M : Type 0} {ghosts : Ghosts D} {mode : ModeGhosts M} → (D → State) → ℕ → ℕ → File D M ghosts mode → File D M ghosts mode → Type 0
Overwrites state n i old new = Becomes state true n n (with_frame n i) old new

abbrev pub EditsFile : {D M : Type 0} {ghosts : Ghosts D} {mode : ModeGhosts M} → (D → State) → ℕ → File D M ghosts mode → File D M ghosts mode → Type 0
EditsFile state n old new = Becomes state false n (frames_kept n) (edited n) old new

-- ---- a file that is read

-- what meters that were not started say of frames
abbrev pub summed : List (List ℤ) → Summary
summed frames = record { frames = length frames; peak = (fed Peak (pos 0) (pos 0) frames).value; energy = (fed Energy (pos 0) (pos 0) frames).value }

-- both meters were fed frames
pub record FedOn (frames : List (List ℤ)) (old new : Meters) : Type 0 where
  pub peak : peak_meter new.peak ≡ after_frames frames (peak_meter old.peak)
  pub energy : energy_meter new.energy ≡ after_frames frames (energy_meter old.energy)

-- .. the next k frames of a file, where the disk tells what it holds
abbrev pub FeedsNext : {D M : Type 0} {ghosts : Ghosts D} {mode : ModeGhosts M} → (D → State) → ℕ → File D M ghosts mode → Meters → Meters → Type 0
FeedsNext state k file old new = (e : Editing) → Stands state file e → FedOn (frames_read e k) old new

-- k frames were read, as many as there are places for, fewer only at the end
pub record IsReadBy (places : ℕ) (old new : Known) (k : ℕ) : Type 0 where
  pub count : k ≡ count_read places old
  pub on : new ≡ read_on k old

abbrev pub SumsFrames : {D M : Type 0} {ghosts : Ghosts D} {mode : ModeGhosts M} → (D → State) → File D M ghosts mode → Summary → Type 0
SumsFrames state file summary = (e : Editing) → Stands state file e → e.place ≡ 0 → summary ≡ summed e.frames
