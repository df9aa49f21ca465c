-- How what is done for a command leaves a file.
use Rattle.std.specs.Prelude.{◌≡◌, ◌⊎◌, ℕ, ℤ, List, All, Bool, true, false, Option, None, Some, Result, IfErr, IfOk, IsErrOf, MatchResult}
use Rattle.std.specs.Borrow.{MutBor}
use Rattle.snd_disk.specs.Device.{AsksAtMost, GoesOnFrom, IsStable, OnlyReadsOn, Tells, WritesAtMost}
use Rattle.snd_disk.specs.State.{State}
use Rattle.snd_disk.specs.declared.disk.Disk.{Ghosts}
use Rattle.snd_disk.specs.declared.disk.Step.{Step}
use Rattle.snd_disk.specs.declared.streams.Sink.{Ghosts as SinkMeaning}
use Rattle.snd_blocks.specs.Frames.{has_bad}
use Rattle.snd_fields.specs.Laws.{IsByte}
use Rattle.snd_layout.specs.Blocks.{is_adpcm}
use Rattle.snd_meters.specs.Gauge.{Gauge}
use Rattle.snd_edits.specs.Closing.{closed_to, most_closed}
use Rattle.snd_edits.specs.Editing.{Editing, frames_left, moved_by}
use Rattle.snd_edits.specs.Known.{Known}
use Rattle.snd_edits.specs.Laws.{IsStateOf}
use Rattle.snd_file.specs.Handle.{Stands, channels_of, disk_of, known_of, loan_of}
use Rattle.snd_file.specs.declared.handle.File.{File}
use Rattle.snd_edits.specs.declared.mode.Mode.{Ghosts as ModeGhosts}
use Rattle.snd_edits.specs.Reading.{GivesFrames}
use Rattle.snd_file.specs.Rest.{IsAtRest}
use Rattle.snd_edits.specs.Safe.{IsSafe}
use Rattle.snd_patch.specs.Images.{LeavesEach}
use Rattle.snd_patch.specs.Steps.{StillTells}
use Rattle.snd_rules.specs.Desk.{Mode, all_put}
use Rattle.snd_rules.specs.Edit.{edit_by}
use Rattle.snd_rules.specs.Rules.{Rule, frames_wanted, read_known}
use Rattle.snd_session.specs.Handled.{IsResting, back_of}
use Rattle.snd_session.specs.Replied.{SaysKnown}
use Rattle.snd_rules.specs.Stepped.{IsAutomatic, IsSaid, IsSilent, IsStepCause, Knows, LeavesFile, LeavesTaps, Rose, changes_by}
use Rattle.snd_rules.specs.declared.reply.Reply.{Reply}
use Rattle.snd_rules.specs.declared.reply.StepFault.{StepFault}
use Rattle.snd_rules.specs.declared.reply.StepFault.TheVariants.{Disk, Out, Memory}
use Rattle.snd_rules.specs.declared.work.Work.{Work}
use Rattle.snd_rules.specs.Work.{work_rule}

-- ---- WHOLE FILES. The first arguments are the meanings of the disk and of the sink.

-- From rest, where updates are automatic before a command or once it is carried out: what one that changes the file leaves at any
-- moment is safe between the state before it and the one to which it leads; and unless the disk fails, the file is at rest then.
abbrev pub ChangesSafely : {D M : Type 0} {mode : ModeGhosts M} (d : Ghosts D) → Rule → File D M d mode → File D M d mode → Type 0
ChangesSafely d rule old new =
    changes_by rule (known_of old) ≡ true → IsAutomatic rule (known_of old) → (opened : List ℕ) (e : Editing) → IsAtRest d opened old e
    → LeavesEach d (disk_of old) (disk_of new) (IsSafe e (edit_by rule e).editing)

abbrev pub ChangesToRest : {D M : Type 0} {mode : ModeGhosts M} (d : Ghosts D) → Rule → Result Reply StepFault → File D M d mode → File D M d mode → Type 0
ChangesToRest d rule result old new =
    changes_by rule (known_of old) ≡ true → IsAutomatic rule (known_of old) → (opened : List ℕ) (e : Editing) → IsAtRest d opened old e
    → LeavesFile result (edit_by rule e) e (IsResting d new)

-- whether updates are automatic once a command is carried out, though they were not so before
abbrev pub switches_on : Rule → Known → Bool
switches_on rule h = (rule.known (record h { automatic = false })).automatic

-- .. and then it brings a file to rest, whatever a crash could leave of that before, unless the disk fails
abbrev pub BringsToRest : {D M : Type 0} {mode : ModeGhosts M} (d : Ghosts D) → Rule → Result Reply StepFault → File D M d mode → File D M d mode → Type 0
BringsToRest {mode = mode} d rule result old new =
    changes_by rule (known_of old) ≡ true → switches_on rule (known_of old) ≡ true → (opened : List ℕ) (e : Editing) → IsStateOf mode.ENCODES opened e → All IsByte e.bytes
    → Stands d.state old e → LeavesFile result (edit_by rule e) e (IsAtRest d opened new)

-- A rule is followed on a file, which keeps its loan: what it stands for afterwards, what is said, and which counts rise; what
-- the handle knows over every disk; and what the disk is asked for.
pub record Follows {D M O : Type 0} {mode : ModeGhosts M} (d : Ghosts D) (o : SinkMeaning O) (rule : Rule) (result : Result Reply StepFault) (old : File D M d mode) (out : O) (new : File D M d mode) (out' : O) : Type 0 where
  pub loan : loan_of new ≡ loan_of old
  pub stands : (e : Editing) → Stands d.state old e → LeavesFile result (edit_by rule e) e (Stands d.state new)
  pub said : (e : Editing) → Stands d.state old e → IsSaid result (edit_by rule e).answer (o.told out) (o.told out')
  pub replies : SaysKnown rule result (known_of old) (o.told out) (o.told out')
  pub silent : IfErr result (λ fault. IsSilent fault (o.told out) (o.told out'))
  pub cause : IsStepCause result (d.state (disk_of old)).faults (d.state (disk_of new)).faults (o.faults out) (o.faults out')
  pub memory : IsErrOf result Memory → rule.takes_memory ≡ true
  pub knows : Knows result rule (known_of old) (known_of new)
  pub tells : StillTells (d.state (disk_of old)) (d.state (disk_of new))
  pub time : GoesOnFrom d.state d.left_between (disk_of old) (disk_of new)
  pub reads : changes_by rule (known_of old) ≡ false → OnlyReadsOn d.state d.may_leave d.left_between (disk_of old) (disk_of new)
  pub leaves : ChangesSafely d rule old new
  pub rests : ChangesToRest d rule result old new
  pub begins : BringsToRest d rule result old new
  pub asked : AsksAtMost d.state rule.asked (disk_of old) (disk_of new)
  pub written : WritesAtMost d.state (rule.written (known_of old).shape.params) (disk_of old) (disk_of new)

-- .. the rule of what is done
abbrev pub FollowsWork : {D M O : Type 0} {mode : ModeGhosts M} (d : Ghosts D) → SinkMeaning O → Mode → List Gauge → Work → Result Reply StepFault → File D M d mode → O → File D M d mode → O → Type 0
FollowsWork d o open_as taps work result old out new out' = Follows d o (work_rule open_as taps work) result old out new out'

-- .. and what becomes of the taps
abbrev pub FeedsFile : {D M : Type 0} {ghosts : Ghosts D} {mode : ModeGhosts M} → (D → State) → Rule → Result Reply StepFault → File D M ghosts mode → List Gauge → List Gauge → Type 0
FeedsFile state rule result file taps taps' =
    LeavesTaps result (rule.taps (known_of file).shape.params.codec) (λ frames. (e : Editing) → Stands state file e → frames ≡ rule.feeds e) taps taps'

abbrev pub FeedsWork : {D M : Type 0} {ghosts : Ghosts D} {mode : ModeGhosts M} → (D → State) → Mode → Work → Result Reply StepFault → File D M ghosts mode → List Gauge → List Gauge → Type 0
FeedsWork state open_as work result file taps taps' = FeedsFile state (work_rule open_as taps work) result file taps taps'

-- why no frames are read: what the handle knew before and after, with the counts of the disk's faults
abbrev pub IsReadFault : Known → Known → ℕ → ℕ → StepFault → Type 0
IsReadFault old new faults faults' Disk = ((step : Step) × (new ≡ record old { broken = Some step })) × Rose faults faults'
IsReadFault old new faults faults' Memory = (new ≡ old) × (faults' ≡ faults)
IsReadFault old new faults faults' Out = ⊥

abbrev pub FileReads : {D M : Type 0} {ghosts : Ghosts D} {mode : ModeGhosts M} → (D → State) → (D → List ℕ → Type 0) → (D → ℕ → ℕ → List ℕ → Type 0) → File D M ghosts mode → File D M ghosts mode → Type 0
FileReads state may_leave left_between old new = OnlyReadsOn state may_leave left_between (disk_of old) (disk_of new)

abbrev pub FileAsks : {D M : Type 0} {ghosts : Ghosts D} {mode : ModeGhosts M} → (D → State) → ℕ → File D M ghosts mode → File D M ghosts mode → Type 0
FileAsks state n old new = AsksAtMost state n (disk_of old) (disk_of new)

abbrev pub FileFault : {D M : Type 0} {ghosts : Ghosts D} {mode : ModeGhosts M} → (D → State) → File D M ghosts mode → File D M ghosts mode → StepFault → Type 0
FileFault state old new fault = IsReadFault (known_of old) (known_of new) (state (disk_of old)).faults (state (disk_of new)).faults fault

-- what the handle knows once frames were read, or none, since the block of one of them is bad
abbrev pub KnowsRead : ℕ → Known → Known → Option ℕ → Type 0
KnowsRead wanted old new (Some k) = new ≡ read_known wanted old
KnowsRead wanted old new None = (is_adpcm old.shape.params.codec ≡ true) × (new ≡ old)

-- so many of the wanted frames were left, and these are they, of which none is bad, where the disk tells the file
abbrev pub CountsLeft : {D M : Type 0} {ghosts : Ghosts D} {mode : ModeGhosts M} → (D → State) → ℕ → File D M ghosts mode → ℕ → Type 0
CountsLeft state wanted file k = (e : Editing) → Stands state file e → k ≡ frames_left e wanted

abbrev pub ReadsFrames : {D M : Type 0} {ghosts : Ghosts D} {mode : ModeGhosts M} → (D → State) → ℕ → File D M ghosts mode → List ℤ → Type 0
ReadsFrames state k file samples = (e : Editing) → Stands state file e → GivesFrames (channels_of file) samples e k

-- .. or one of them is bad
abbrev pub HasBadFrame : {D M : Type 0} {ghosts : Ghosts D} {mode : ModeGhosts M} → (D → State) → ℕ → File D M ghosts mode → Type 0
HasBadFrame state wanted file = (e : Editing) → Stands state file e → has_bad (frames_wanted wanted e) ≡ true

abbrev pub moved_on : Option ℕ → Editing → Editing
moved_on (Some k) e = moved_by k e
moved_on None e = e

abbrev pub MovesOn : {D M : Type 0} {ghosts : Ghosts D} {mode : ModeGhosts M} → (D → State) → Result (Option ℕ) StepFault → File D M ghosts mode → File D M ghosts mode → Type 0
MovesOn state result old new =
    (e : Editing) → Stands state old e → MatchResult result (λ k. Stands state new (moved_on k e)) (λ fault. Stands state new e)

abbrev pub FileCalm : {D M : Type 0} {ghosts : Ghosts D} {mode : ModeGhosts M} → (D → State) → File D M ghosts mode → File D M ghosts mode → Type 0
FileCalm state old new = (state (disk_of new)).faults ≡ (state (disk_of old)).faults

-- A file of so many frames is closed: with its disk, by their number or by the step that failed. The flag is whether its mode writes.
pub record ClosesAs {D M : Type 0} {mode : ModeGhosts M} (d : Ghosts D) (writing : Bool) (frames : ℕ) (file : File D M d mode) (result : Result (ℕ × MutBor D) (Step × MutBor D)) : Type 0 where
  pub same : writing ≡ false → (back_of result).now ≡ disk_of file
  pub sealed : writing ≡ true → IfOk result (λ r. (e : Editing) → Stands d.state file e → Tells d.state r.1.now (closed_to mode.ENCODES e).bytes)
  pub stable : writing ≡ true → IfOk result (λ r. IsStable d.state d.may_leave r.1.now)
  pub told : IfOk result (λ r. ((known_of file).broken ≡ None) × (r.0 ≡ frames) × ((d.state r.1.now).faults ≡ (d.state (disk_of file)).faults))
  pub cause : IfErr result (λ e. (((known_of file).broken ≡ Some e.0) × (e.1.now ≡ disk_of file))
      ⊎ (((known_of file).broken ≡ None) × (writing ≡ true) × Rose (d.state (disk_of file)).faults (d.state e.1.now).faults))
  pub tells : StillTells (d.state (disk_of file)) (d.state (back_of result).now)
  pub time : GoesOnFrom d.state d.left_between (disk_of file) (back_of result).now
  pub leaves : writing ≡ true → (opened : List ℕ) (e : Editing) → IsAtRest d opened file e → LeavesEach d (disk_of file) (back_of result).now (IsSafe e (all_put mode.ENCODES e))
  pub written : WritesAtMost d.state (most_closed mode.ENCODES (known_of file).shape.params) (disk_of file) (back_of result).now
  pub asked : (d.state (back_of result).now).asked ≡ (d.state (disk_of file)).asked
