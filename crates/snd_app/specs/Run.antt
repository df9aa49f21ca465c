-- How a run leaves the shelf and the streams. Relations over these take their meanings first, and then the shelf, the
-- script, `out` and `err`, before and after.
use Rattle.std.specs.Prelude.{◌≡◌, ◌⊎◌, ℕ, List, ◌++◌, Option, Some}
use Rattle.snd_disk.specs.State.{Rises}
use Rattle.snd_disk.specs.Shelf.{Files, ShelfState}
use Rattle.snd_disk.specs.Shelves.{KeepsFileImages, TellsFiles}
use Rattle.snd_disk.specs.Streams.{AppendsFront}
use Rattle.snd_disk.specs.declared.shelf.Shelf.{Ghosts as ShelfMeaning}
use Rattle.snd_disk.specs.declared.streams.Sink.{Ghosts as SinkMeaning}
use Rattle.snd_disk.specs.declared.streams.Source.{Ghosts as SourceMeaning}
use Rattle.snd_rack.specs.declared.setting.StageKind.{StageKind}
use Rattle.snd_rules.specs.Desk.{Store, stored}
use Rattle.snd_rules.specs.Edit.{Edited}
use Rattle.snd_rules.specs.Pinned.{run_steps}
use Rattle.snd_script.specs.Served.{FaultCounts, HasFiles, IsDone, IsFault, StopsAtMemory}
use Rattle.snd_taps.specs.declared.tap.TapKind.{TapKind}
use Rattle.snd_words.specs.Asked.{Work}
use Rattle.snd_app.specs.Outcome.{files_of_script, outcome_of_script}
use Rattle.snd_app.specs.Printed.{Outcome}
use Rattle.snd_app.specs.Tools.{after_work, outcome_of_work}

-- the counts of faults of the shelf, of the script and of the two sinks
pub record Faults : Type 0 where
  pub shelf : ℕ
  pub script : ℕ
  pub out : ℕ
  pub err : ℕ

abbrev pub AnyRises : Faults → Faults → Type 0
AnyRises old new = Rises old.shelf new.shelf ⊎ (Rises old.script new.script ⊎ (Rises old.out new.out ⊎ Rises old.err new.err))

pub record SameFaults (old new : Faults) : Type 0 where
  pub shelf : new.shelf ≡ old.shelf
  pub script : new.script ≡ old.script
  pub out : new.out ≡ old.out
  pub err : new.err ≡ old.err

-- those that serving a script sees
abbrev pub counts_of : Faults → FaultCounts
counts_of f = record { shelf = f.shelf; script = f.script; out = f.out }

-- what a sink tells before and after
pub record Told : Type 0 where
  pub before : Option (List ℕ)
  pub after : Option (List ℕ)

abbrev pub Appends : Told → List ℕ → Type 0
Appends sink text = (t : List ℕ) → sink.before ≡ Some t → sink.after ≡ Some (t ++ text)

-- the texts were appended, or some front of each
pub record Prints (o : Outcome) (out err : Told) : Type 0 where
  pub on_out : Appends out o.out
  pub on_err : Appends err o.err

pub record PrintsFront (o : Outcome) (out err : Told) : Type 0 where
  pub on_out : AppendsFront out.before out.after o.out
  pub on_err : AppendsFront err.before err.after o.err

-- A run answers and prints exactly what the outcome says, with no fault; or 3, where a count of faults rose; or 4,
-- for want of memory. On 3 and 4 it printed a front.
abbrev pub IsOutcome : ℕ → Outcome → Faults → Faults → Told → Told → Type 0
IsOutcome status o old new out err =
    ((status ≡ o.status) × SameFaults old new × Prints o out err)
    ⊎ (((status ≡ 3) × AnyRises old new × PrintsFront o out err) ⊎ ((status ≡ 4) × PrintsFront o out err))

-- .. and where it does so, the shelf has these files
abbrev pub IsRun : ℕ → Outcome → Faults → Faults → Told → Told → Type 0 → Type 0
IsRun status o old new out err leaves =
    ((status ≡ o.status) × SameFaults old new × Prints o out err × leaves)
    ⊎ (((status ≡ 3) × AnyRises old new × PrintsFront o out err) ⊎ ((status ≡ 4) × PrintsFront o out err))

-- the counts at a moment, with the script's given, or with the script itself
abbrev pub faults_with : {S D O E : Type 0} → ShelfMeaning S D → SinkMeaning O → SinkMeaning E → ℕ → S → O → E → Faults
faults_with s o e script shelf out err = record { shelf = (s.state shelf).faults; script = script; out = o.faults out; err = e.faults err }

abbrev pub faults_of : {S D R O E : Type 0} → ShelfMeaning S D → SourceMeaning R → SinkMeaning O → SinkMeaning E → S → R → O → E → Faults
faults_of s r o e shelf script out err = faults_with s o e (r.faults script) shelf out err

-- the text on a sink before and after
abbrev pub told_by : {O : Type 0} → SinkMeaning O → O → O → Told
told_by o out out' = record { before = o.told out; after = o.told out' }

-- the run is this outcome
abbrev pub EndsAs : {S D R O E : Type 0} → ShelfMeaning S D → SourceMeaning R → SinkMeaning O → SinkMeaning E → Outcome → S → R → O → E → S → R → O → E → ℕ → Type 0
EndsAs s r o e given shelf script out err shelf' script' out' err' status =
    IsOutcome status given (faults_of s r o e shelf script out err) (faults_of s r o e shelf' script' out' err') (told_by o out out') (told_by e err err')

-- over files and a script that are told, it is the outcome of these, and leaves the files that they give
abbrev pub RunsAs : {S D R O E : Type 0} → ShelfMeaning S D → SourceMeaning R → SinkMeaning O → SinkMeaning E → (Files → List ℕ → Outcome) → (Files → List ℕ → Files) → S → R → O → E → S → R → O → E → ℕ → Type 0
RunsAs s r o e given after shelf script out err shelf' script' out' err' status =
    (files : Files) (text : List ℕ) → TellsFiles s.state shelf files → r.left script ≡ Some text →
    IsRun status (given files text) (faults_of s r o e shelf script out err) (faults_of s r o e shelf' script' out' err') (told_by o out out') (told_by e err err')
    (HasFiles s.state shelf' (after files text))

-- .. of a script, in which the file of a name is pinned where there is one
abbrev pub RunsScript : {S D R O E : Type 0} → ShelfMeaning S D → SourceMeaning R → SinkMeaning O → SinkMeaning E → List TapKind → Option (List ℕ) → S → R → O → E → S → R → O → E → ℕ → Type 0
RunsScript s r o e kinds name shelf script out err shelf' script' out' err' status =
    RunsAs s r o e (outcome_of_script name kinds) (files_of_script name kinds) shelf script out err shelf' script' out' err' status

-- a script that ends with 3 was served up to a fault; or it was served, and the message that it is too long did not get out. One
-- that ends with 4 was served up to want of memory.
abbrev pub IsScriptStop : {S : Type 0} → (S → ShelfState) → Store → List Edited → ℕ → Faults → Faults → Told → Option (List ℕ) → S → Type 0
IsScriptStop state store all status old new out more shelf' =
    (status ≡ 3 → IsFault state store all (counts_of old) (counts_of new) out.before out.after more shelf' ⊎ (Rises old.err new.err × IsDone state store all out.before out.after shelf'))
    × (status ≡ 4 → StopsAtMemory state store all out.before out.after shelf')

abbrev pub StopsAs : {S D R O E : Type 0} → ShelfMeaning S D → SourceMeaning R → SinkMeaning O → SinkMeaning E → List TapKind → Option (List ℕ) → S → R → O → E → S → R → O → E → ℕ → Type 0
StopsAs s r o e kinds name shelf script out err shelf' script' out' err' status =
    (files : Files) (text : List ℕ) → TellsFiles s.state shelf files → r.left script ≡ Some text →
    IsScriptStop s.state (stored files kinds) (run_steps name (stored files kinds) text) status (faults_of s r o e shelf script out err) (faults_of s r o e shelf' script' out' err') (told_by o out out') (r.left script') shelf'

-- a count of faults rises
abbrev pub FaultRises : {S D R O E : Type 0} → ShelfMeaning S D → SourceMeaning R → SinkMeaning O → SinkMeaning E → S → R → O → E → S → R → O → E → Type 0
FaultRises s r o e shelf script out err shelf' script' out' err' = AnyRises (faults_of s r o e shelf script out err) (faults_of s r o e shelf' script' out' err')

-- the same without a script, whose count stays, whatever it is
abbrev pub DescribesAs : {S D O E : Type 0} → ShelfMeaning S D → SinkMeaning O → SinkMeaning E → (Files → Outcome) → S → O → E → S → O → E → ℕ → Type 0
DescribesAs s o e given shelf out err shelf' out' err' status =
    (files : Files) (script : ℕ) → TellsFiles s.state shelf files
    → IsRun status (given files) (faults_with s o e script shelf out err) (faults_with s o e script shelf' out' err') (told_by o out out') (told_by e err err') (HasFiles s.state shelf' files)

abbrev pub DescribingFaultRises : {S D O E : Type 0} → ShelfMeaning S D → SinkMeaning O → SinkMeaning E → S → O → E → S → O → E → Type 0
DescribingFaultRises s o e shelf out err shelf' out' err' = (script : ℕ) → AnyRises (faults_with s o e script shelf out err) (faults_with s o e script shelf' out' err')

-- .. and no count of faults changes
abbrev pub IsCalm : {S D O E : Type 0} → ShelfMeaning S D → SinkMeaning O → SinkMeaning E → S → O → E → S → O → E → Type 0
IsCalm s o e shelf out err shelf' out' err' = (script : ℕ) → SameFaults (faults_with s o e script shelf out err) (faults_with s o e script shelf' out' err')

-- a text was appended to one sink, and the status is the given one; or 3, where the sink's count of faults rose
abbrev pub IsPut : ℕ → ℕ → List ℕ → ℕ → ℕ → Told → Type 0
IsPut status given text old new sink =
    ((status ≡ given) × (new ≡ old) × Appends sink text) ⊎ ((status ≡ 3) × Rises old new × AppendsFront sink.before sink.after text)

abbrev pub PutsText : {O : Type 0} → SinkMeaning O → ℕ → List ℕ → O → O → ℕ → Type 0
PutsText o given text old new status = IsPut status given text (o.faults old) (o.faults new) (told_by o old new)

-- what a crash may leave of each file is as it was
abbrev pub KeepsAllImages : {S D : Type 0} → ShelfMeaning S D → S → S → Type 0
KeepsAllImages s shelf shelf' = KeepsFileImages s.state s.may_leave s.left_between shelf shelf'

-- a tool does its work with the files that the shelf tells and stages of these kinds, and says so
abbrev pub ToolsAs : {S D O E : Type 0} → ShelfMeaning S D → SinkMeaning O → SinkMeaning E → Work → List StageKind → S → O → E → S → O → E → ℕ → Type 0
ToolsAs s o e work stages shelf out err shelf' out' err' status =
    (files : Files) (script : ℕ) → TellsFiles s.state shelf files
    → IsRun status (outcome_of_work work stages files) (faults_with s o e script shelf out err) (faults_with s o e script shelf' out' err') (told_by o out out') (told_by e err err')
    (HasFiles s.state shelf' (after_work work stages files))

-- Where a stream failed and no file did, all is done that was to be done with the files.
abbrev pub DoneAtStream : {S : Type 0} → (S → ShelfState) → (Files → Files) → S → S → ℕ → Type 0
DoneAtStream state after shelf shelf' status =
    (files : Files) → TellsFiles state shelf files → status ≡ 3 → (Rises (state shelf).faults (state shelf').faults → ⊥) → HasFiles state shelf' (after files)
