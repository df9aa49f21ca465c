-- What is seen of an open file in whichever mode.
use Rattle.std.specs.Prelude.{◌≡◌, ◌⊎◌, ℕ, List, All, Bool, true, false, Option, None, Some, Result, Ok, Err, IfErr, IsErrOf}
use Rattle.std.specs.Borrow.{GName, MutBor}
use Rattle.snd_command.specs.Said.{Said}
use Rattle.snd_disk.specs.Device.{AsksAtMost, GoesOnFrom, IsStable, OnlyReadsOn, Tells, WritesAtMost}
use Rattle.snd_disk.specs.declared.disk.Disk.{Ghosts}
use Rattle.snd_disk.specs.declared.disk.Step.{Step}
use Rattle.snd_disk.specs.declared.streams.Sink.{Ghosts as SinkMeaning}
use Rattle.snd_disk.specs.State.{State}
use Rattle.snd_fields.specs.Laws.{IsByte}
use Rattle.snd_layout.specs.Params.{Parameters}
use Rattle.snd_meters.specs.Gauge.{Gauge}
use Rattle.snd_edits.specs.Closing.{most_closed}
use Rattle.snd_edits.specs.Editing.{Editing}
use Rattle.snd_edits.specs.Known.{Known}
use Rattle.snd_edits.specs.Laws.{IsStateOf}
use Rattle.snd_file.specs.Handle.{Stands, disk_of, known_of, loan_of}
use Rattle.snd_file.specs.Rest.{IsAtRest}
use Rattle.snd_file.specs.declared.handle.File.{File}
use Rattle.snd_edits.specs.declared.mode.Mode.{Ghosts as ModeGhosts}
use Rattle.snd_edits.specs.Safe.{IsSafe}
use Rattle.snd_patch.specs.Images.{LeavesEach}
use Rattle.snd_patch.specs.Steps.{StillTells}
use Rattle.snd_rules.specs.Desk.{Mode, closed_as, encodes, encoding, all_put, frames_told, reading, updating, writes, writing}
use Rattle.snd_rules.specs.Edit.{edit_file}
use Rattle.snd_rules.specs.Rules.{Rule, rule_of}
use Rattle.snd_rules.specs.Stepped.{IsAutomatic, IsSaid, IsSilent, IsStepCause, Knows, LeavesFile, LeavesTaps, Rose, changes_by}
use Rattle.snd_session.specs.Replied.{SaysKnown}
use Rattle.snd_session.specs.declared.handle.Handle.{Handle}
use Rattle.snd_session.specs.declared.handle.Handle.TheVariants.{R, W, B, U}
use Rattle.snd_rules.specs.declared.reply.Reply.{Reply}
use Rattle.snd_rules.specs.declared.reply.StepFault.{StepFault}
use Rattle.snd_rules.specs.declared.reply.StepFault.TheVariants.{Memory}
use Rattle.snd_rules.specs.SmallBlocks.{IsSmallIn}

abbrev pub mode_of : {D : Type 0} {ghosts : Ghosts D} → Handle D ghosts → Mode
mode_of (R file) = reading
mode_of (W file) = writing
mode_of (B file) = encoding
mode_of (U file) = updating

-- the rule of a command on it, with these taps
abbrev pub rule_for : {D : Type 0} {ghosts : Ghosts D} → List Gauge → Handle D ghosts → Said → Rule
rule_for taps handle said = rule_of (mode_of handle) taps said

-- the disk that it holds, and the loan by which it holds it
abbrev pub handle_disk : {D : Type 0} {ghosts : Ghosts D} → Handle D ghosts → D
handle_disk (R file) = disk_of file
handle_disk (W file) = disk_of file
handle_disk (B file) = disk_of file
handle_disk (U file) = disk_of file

abbrev pub handle_loan : {D : Type 0} {ghosts : Ghosts D} → Handle D ghosts → GName
handle_loan (R file) = loan_of file
handle_loan (W file) = loan_of file
handle_loan (B file) = loan_of file
handle_loan (U file) = loan_of file

-- what it knows over every disk
abbrev pub handle_known : {D : Type 0} {ghosts : Ghosts D} → Handle D ghosts → Known
handle_known (R file) = known_of file
handle_known (W file) = known_of file
handle_known (B file) = known_of file
handle_known (U file) = known_of file

-- it stands for an editing state
abbrev pub HandleStands : {D : Type 0} {ghosts : Ghosts D} → (D → State) → Handle D ghosts → Editing → Type 0
HandleStands state (R file) e = Stands state file e
HandleStands state (W file) e = Stands state file e
HandleStands state (B file) e = Stands state file e
HandleStands state (U file) e = Stands state file e

-- A file is at rest in a state to which commands led from some bytes: those that were opened or made, or those that it had once it
-- was promoted
abbrev pub IsResting : {D M : Type 0} {mode : ModeGhosts M} (d : Ghosts D) → File D M d mode → Editing → Type 0
IsResting d file e = (opened : List ℕ) × IsAtRest d opened file e

abbrev pub HandleAtRest : {D : Type 0} (d : Ghosts D) → Handle D d → Editing → Type 0
HandleAtRest d (R file) e = IsResting d file e
HandleAtRest d (W file) e = IsResting d file e
HandleAtRest d (B file) e = IsResting d file e
HandleAtRest d (U file) e = IsResting d file e

-- its parameters
abbrev pub handle_params : {D : Type 0} {ghosts : Ghosts D} → Handle D ghosts → Parameters
handle_params handle = (handle_known handle).shape.params

abbrev pub IsSmall : {D : Type 0} {ghosts : Ghosts D} → Handle D ghosts → Type 0
IsSmall handle = IsSmallIn (mode_of handle) (handle_params handle)

-- Commands leave it in its mode, with its parameters, and with the same disk by the same loan: the disk has its name, tells what it
-- told, and time has gone on for it. In a mode that does not write it was only read.
pub record LeavesHandle {D : Type 0} {ghosts : Ghosts D} (state : D → State) (may_leave : D → List ℕ → Type 0) (left_between : D → ℕ → ℕ → List ℕ → Type 0) (old new : Handle D ghosts) : Type 0 where
  pub mode : mode_of new ≡ mode_of old
  pub params : handle_params new ≡ handle_params old
  pub loan : handle_loan new ≡ handle_loan old
  pub tells : StillTells (state (handle_disk old)) (state (handle_disk new))
  pub time : GoesOnFrom state left_between (handle_disk old) (handle_disk new)
  pub reads : writes (mode_of old) ≡ false → OnlyReadsOn state may_leave left_between (handle_disk old) (handle_disk new)

-- a command that changes no file only reads the disk
abbrev pub OnlyChanges : {D : Type 0} (d : Ghosts D) → List Gauge → Said → Handle D d → Handle D d → Type 0
OnlyChanges d taps said old new =
    changes_by (rule_for taps old said) (handle_known old) ≡ false → OnlyReadsOn d.state d.may_leave d.left_between (handle_disk old) (handle_disk new)

-- at most so many bytes are asked of its disk, and written
abbrev pub HandleAsks : {D : Type 0} {ghosts : Ghosts D} → (D → State) → ℕ → Handle D ghosts → Handle D ghosts → Type 0
HandleAsks state n old new = AsksAtMost state n (handle_disk old) (handle_disk new)

abbrev pub HandleWrites : {D : Type 0} {ghosts : Ghosts D} → (D → State) → ℕ → Handle D ghosts → Handle D ghosts → Type 0
HandleWrites state n old new = WritesAtMost state n (handle_disk old) (handle_disk new)

-- .. as many as the rule of a command says
abbrev pub AsksByRule : {D : Type 0} (d : Ghosts D) → List Gauge → Said → Handle D d → Handle D d → Type 0
AsksByRule d taps said old new = HandleAsks d.state (rule_for taps old said).asked old new

abbrev pub WritesByRule : {D : Type 0} (d : Ghosts D) → List Gauge → Said → Handle D d → Handle D d → Type 0
WritesByRule d taps said old new = HandleWrites d.state ((rule_for taps old said).written (handle_params old)) old new

-- there is no memory only for a command that takes some
abbrev pub LacksMemory : {D : Type 0} {ghosts : Ghosts D} → List Gauge → Result Reply StepFault → Said → Handle D ghosts → Type 0
LacksMemory taps result said handle = IsErrOf result Memory → (rule_for taps handle said).takes_memory ≡ true

-- One command on it: the reply and what it knows afterwards, over every disk
abbrev pub KnowsAfter : {D : Type 0} {ghosts : Ghosts D} → List Gauge → Result Reply StepFault → Said → Handle D ghosts → Handle D ghosts → Type 0
KnowsAfter taps result said old new = Knows result (rule_for taps old said) (handle_known old) (handle_known new)

-- .. the file that it stands for, and what is appended, where the disk tells the file
abbrev pub LeavesOpen : {D : Type 0} {ghosts : Ghosts D} → (D → State) → List Gauge → Result Reply StepFault → Said → Handle D ghosts → Handle D ghosts → Type 0
LeavesOpen state taps result said old new =
    (e : Editing) → HandleStands state old e → LeavesFile result (edit_file (mode_of old) taps said e) e (HandleStands state new)

abbrev pub SaysReply : {D O : Type 0} {ghosts : Ghosts D} → (D → State) → (O → Option (List ℕ)) → List Gauge → Result Reply StepFault → Said → Handle D ghosts → O → O → Type 0
SaysReply state told taps result said handle out out' =
    (e : Editing) → HandleStands state handle e → IsSaid result (edit_file (mode_of handle) taps said e).answer (told out) (told out')

-- .. and what is appended over every disk, where no content decides it
abbrev pub RepliesKnown : {D O : Type 0} {ghosts : Ghosts D} → (O → Option (List ℕ)) → List Gauge → Result Reply StepFault → Said → Handle D ghosts → O → O → Type 0
RepliesKnown told taps result said handle out out' = SaysKnown (rule_for taps handle said) result (handle_known handle) (told out) (told out')

-- .. and the counts of faults
abbrev pub CountsStep : {D O : Type 0} {ghosts : Ghosts D} → (D → State) → (O → ℕ) → Result Reply StepFault → Handle D ghosts → O → Handle D ghosts → O → Type 0
CountsStep state faults result old out new out' =
    IsStepCause result (state (handle_disk old)).faults (state (handle_disk new)).faults (faults out) (faults out')

-- .. and from rest, where updates are automatic before the command or once it is carried out: what it leaves at any moment is safe
-- between the state before the command and the one to which that leads; and unless the disk fails, it is at rest then
abbrev pub StepsSafely : {D : Type 0} (d : Ghosts D) → List Gauge → Said → Handle D d → Handle D d → Type 0
StepsSafely d taps said old new = IsAutomatic (rule_for taps old said) (handle_known old) → (e : Editing) → HandleAtRest d old e
    → LeavesEach d (handle_disk old) (handle_disk new) (IsSafe e (edit_file (mode_of old) taps said e).editing)

abbrev pub StepsToRest : {D : Type 0} (d : Ghosts D) → List Gauge → Result Reply StepFault → Said → Handle D d → Handle D d → Type 0
StepsToRest d taps result said old new = IsAutomatic (rule_for taps old said) (handle_known old) → (e : Editing) → HandleAtRest d old e
    → LeavesFile result (edit_file (mode_of old) taps said e) e (HandleAtRest d new)

-- .. and an accepted `auto on` brings it to rest, whatever a crash could leave of it before, unless the disk fails
abbrev pub BeginsAtRest : {D : Type 0} (d : Ghosts D) → List Gauge → Result Reply StepFault → Said → Handle D d → Handle D d → Type 0
BeginsAtRest d taps result said old new = said ≡ Said.auto true → changes_by (rule_for taps old said) (handle_known old) ≡ true → (opened : List ℕ) (e : Editing)
    → IsStateOf (encodes (mode_of old)) opened e → All IsByte e.bytes → HandleStands d.state old e → LeavesFile result (edit_file (mode_of old) taps said e) e (HandleAtRest d new)

-- .. and the taps, over every disk: the frames that are fed to those that are on are the ones that are said, where it tells them
abbrev pub FeedsTaps : {D : Type 0} {ghosts : Ghosts D} → (D → State) → Result Reply StepFault → Said → Handle D ghosts → List Gauge → List Gauge → Type 0
FeedsTaps state result said handle taps taps' =
    let rule = rule_for taps handle said in
    LeavesTaps result (rule.taps (handle_known handle).shape.params.codec) (λ frames. (e : Editing) → HandleStands state handle e → frames ≡ rule.feeds e) taps taps'

-- .. all but the taps, by the meanings of the disk and of the sink
pub record Steps {D O : Type 0} (d : Ghosts D) (o : SinkMeaning O) (taps : List Gauge) (command : Said) (result : Result Reply StepFault) (old : Handle D d) (out : O) (new : Handle D d) (out' : O) : Type 0 where
  pub stands : LeavesOpen d.state taps result command old new
  pub said : SaysReply d.state o.told taps result command old out out'
  pub replies : RepliesKnown o.told taps result command old out out'
  pub silent : IfErr result (λ fault. IsSilent fault (o.told out) (o.told out'))
  pub cause : CountsStep d.state o.faults result old out new out'
  pub memory : LacksMemory taps result command old
  pub knows : KnowsAfter taps result command old new
  pub leaves : LeavesHandle d.state d.may_leave d.left_between old new
  pub reads : OnlyChanges d taps command old new
  pub safe : StepsSafely d taps command old new
  pub rests : StepsToRest d taps result command old new
  pub begins : BeginsAtRest d taps result command old new
  pub asked : AsksByRule d taps command old new
  pub written : WritesByRule d taps command old new

-- ---- a handle that is closed

-- with how many frames and which disk, or where it failed and which disk
abbrev pub back_of : {D : Type 0} → Result (ℕ × MutBor D) (Step × MutBor D) → MutBor D
back_of (Ok r) = r.1
back_of (Err e) = e.1

-- the disk comes back as it was, where the mode does not write; else it holds the file closed, where that succeeds
abbrev pub FinishesAs : {D : Type 0} {ghosts : Ghosts D} → Bool → (D → State) → (D → List ℕ → Type 0) → Handle D ghosts → Result (ℕ × MutBor D) (Step × MutBor D) → Type 0
FinishesAs false state may_leave handle result = (back_of result).now ≡ handle_disk handle
FinishesAs true state may_leave handle (Ok r) =
    ((e : Editing) → HandleStands state handle e → Tells state r.1.now (closed_as (mode_of handle) e).bytes) × IsStable state may_leave r.1.now
FinishesAs true state may_leave handle (Err e) = Unit {0}

-- the frames of a file that is closed, also those that waited, and how many bytes that writes at most
abbrev pub frames_closed : {D : Type 0} {ghosts : Ghosts D} → Handle D ghosts → ℕ
frames_closed handle = frames_told (mode_of handle) (handle_known handle).shape (handle_known handle).write_place

abbrev pub most_finished : {D : Type 0} {ghosts : Ghosts D} → Handle D ghosts → ℕ
most_finished handle = most_closed (encodes (mode_of handle)) (handle_params handle)

-- so many frames has the file; it fails where the disk failed before, and then all is as it was; or, in a mode that writes,
-- where it fails now
abbrev pub IsFinishCause : {D : Type 0} {ghosts : Ghosts D} → (D → State) → Handle D ghosts → Result (ℕ × MutBor D) (Step × MutBor D) → Type 0
IsFinishCause state handle (Ok r) =
    ((handle_known handle).broken ≡ None) × (r.0 ≡ frames_closed handle) × ((state r.1.now).faults ≡ (state (handle_disk handle)).faults)
IsFinishCause state handle (Err e) =
    (((handle_known handle).broken ≡ Some e.0) × (e.1.now ≡ handle_disk handle))
    ⊎ (((handle_known handle).broken ≡ None) × (writes (mode_of handle) ≡ true) × Rose (state (handle_disk handle)).faults (state e.1.now).faults)

-- a handle's disk, while it is held and when it has come back
pub record LeavesDisk {D : Type 0} {ghosts : Ghosts D} (state : D → State) (may_leave : D → List ℕ → Type 0) (left_between : D → ℕ → ℕ → List ℕ → Type 0) (handle : Handle D ghosts) (disk : D) : Type 0 where
  pub tells : StillTells (state (handle_disk handle)) (state disk)
  pub time : GoesOnFrom state left_between (handle_disk handle) disk
  pub reads : writes (mode_of handle) ≡ false → OnlyReadsOn state may_leave left_between (handle_disk handle) disk

-- .. and from rest, what closing it leaves at any moment is safe in its state; in ADPCM between that and the one with all frames
abbrev pub FinishesSafely : {D : Type 0} (d : Ghosts D) → Handle D d → D → Type 0
FinishesSafely d handle disk = (e : Editing) → HandleAtRest d handle e → LeavesEach d (handle_disk handle) disk (IsSafe e (all_put (encodes (mode_of handle)) e))
