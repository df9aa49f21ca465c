-- How a script is served.
use Rattle.std.specs.Prelude.{◌≡◌, ◌⊎◌, ◌≤◌, ℕ, List, [], ◌∷◌, ◌++◌, Bool, true, false, ◌&&◌, ◌||◌, Option, Some, is_none, length, take}
use Rattle.snd_disk.specs.Shelf.{Files, ShelfState}
use Rattle.snd_disk.specs.Shelves.{KeepsImagesOf, TellsFiles}
use Rattle.snd_disk.specs.State.{AtMost, GoesOn, Rises}
use Rattle.snd_meters.specs.Gauge.{Gauge}
use Rattle.snd_rules.specs.Desk.{Desk, Store, closed_desk, files_closed, has_name, makes_name, stored}
use Rattle.snd_rules.specs.Edit.{Edited}
use Rattle.snd_script.specs.Lines.{HasNoFeed}
use Rattle.snd_rules.specs.Pinned.{pinned_opening, pins, run_asks, run_puts, run_steps, run_too_long, run_writes}
use Rattle.snd_rules.specs.Replies.{text_of}
use Rattle.snd_rules.specs.Script.{any_refused, last_desk, lines_within, most_bytes, steps, texts}
use Rattle.snd_script.specs.declared.serving.ScriptEnd.{ScriptEnd}
use Rattle.snd_script.specs.declared.serving.ScriptEnd.TheVariants.{Done, TooLong, Fault, Memory}
use Rattle.snd_script.specs.declared.stop.Stop.{Stop}
use Rattle.snd_script.specs.declared.stop.Stop.TheVariants as stop
use Rattle.snd_taps.specs.declared.tap.TapKind.{TapKind}

-- ---- the counts of faults of the shelf, the script and the sink

pub record FaultCounts : Type 0 where
  pub shelf : ℕ
  pub script : ℕ
  pub out : ℕ

abbrev pub faults_of : {S R O : Type 0} → (S → ShelfState) → (R → ℕ) → (O → ℕ) → S → R → O → FaultCounts
faults_of state script_faults out_faults shelf script out =
    record { shelf = (state shelf).faults; script = script_faults script; out = out_faults out }

pub record SameCounts (old new : FaultCounts) : Type 0 where
  pub shelf : new.shelf ≡ old.shelf
  pub script : new.script ≡ old.script
  pub out : new.out ≡ old.out

abbrev pub AnyCountRises : FaultCounts → FaultCounts → Type 0
AnyCountRises old new = Rises old.shelf new.shelf ⊎ (Rises old.script new.script ⊎ Rises old.out new.out)

-- ---- files

-- a shelf has these files, whatever tells them; but for names that are not meant
abbrev pub HasFiles : {S : Type 0} → (S → ShelfState) → S → Files → Type 0
HasFiles state shelf files = (f : Files) × TellsFiles state shelf f × ((n : List ℕ) → f n ≡ files n)

abbrev pub HasFilesBut : {S : Type 0} → (S → ShelfState) → S → (List ℕ → Bool) → Files → Type 0
HasFilesBut state shelf lost files = (f : Files) × TellsFiles state shelf f × ((n : List ℕ) → lost n ≡ false → f n ≡ files n)

-- .. and a run has these taps
abbrev pub HasStore : {S : Type 0} → (S → ShelfState) → S → List Gauge → Store → Type 0
HasStore state shelf taps store = (f : Files) × TellsFiles state shelf f × ((n : List ℕ) → f n ≡ store.files n) × (store.taps ≡ taps)

abbrev pub none_lost : List ℕ → Bool
none_lost n = false

-- the file that the first of these steps makes, where none is open
abbrev pub made_next : Desk → List Edited → List ℕ → Bool
made_next desk [] n = false
made_next desk (step ∷ left) n = is_none desk.open_file && makes_name step.desk.open_file n

-- .. and the file that is open
abbrev pub lost_at : Desk → List Edited → List ℕ → Bool
lost_at desk left n = has_name desk.open_file n || made_next desk left n

-- ---- a script that is served in part

abbrev pub Appends : Option (List ℕ) → Option (List ℕ) → List ℕ → Type 0
Appends before after text = (t : List ℕ) → before ≡ Some t → after ≡ Some (t ++ text)

-- a text was appended, and a front of another one
abbrev pub AppendsPart : Option (List ℕ) → Option (List ℕ) → List ℕ → List ℕ → Type 0
AppendsPart before after text more = (t : List ℕ) → before ≡ Some t → (n : ℕ) × (n ≤ length more) × (after ≡ Some (t ++ text ++ take n more))

abbrev pub first_text : List Edited → List ℕ
first_text [] = []
first_text (step ∷ left) = text_of step.answer

-- the first steps were taken, and answered; these are left, from this state on
pub record Takes (all left : List Edited) (desk desk' : Desk) (before after : Option (List ℕ)) : Type 0 where
  pub done : List Edited
  pub whole : all ≡ done ++ left
  pub last : last_desk desk done ≡ desk'
  pub appended : Appends before after (texts done)

-- .. and of the answer of the next one a front
pub record TakesPart (all left : List Edited) (desk desk' : Desk) (before after : Option (List ℕ)) : Type 0 where
  pub done : List Edited
  pub whole : all ≡ done ++ left
  pub last : last_desk desk done ≡ desk'
  pub appended : AppendsPart before after (texts done) (first_text left)

-- what is left is cut off in the midst of a line: a part of it came, without its line feed, and the source has these bytes
abbrev pub IsCutOff : List Edited → Desk → Option (List ℕ) → Type 0
IsCutOff left desk more =
    (room : ℕ) × (c : List ℕ) × (b : List ℕ) × (more ≡ Some b) × HasNoFeed c × (left ≡ steps desk (lines_within room (c ++ b)))

-- ---- how serving ends

-- all steps are taken
pub record IsDone {S : Type 0} (state : S → ShelfState) (start : Store) (all : List Edited) (before after : Option (List ℕ)) (shelf : S) : Type 0 where
  pub appended : Appends before after (texts all)
  pub files : HasFiles state shelf (last_desk (closed_desk start) all).store.files

-- the script failed: the whole lines that came are done, and the open file is closed
abbrev pub StopsAtScript : {S : Type 0} → (S → ShelfState) → Store → List Edited → Option (List ℕ) → Option (List ℕ) → Option (List ℕ) → S → Type 0
StopsAtScript state start all before after more shelf =
    (left : List Edited) × (desk : Desk) × Takes all left (closed_desk start) desk before after × IsCutOff left desk more × HasFiles state shelf (files_closed desk)

-- the sink failed in the answer of a step: that step is taken, and the open file is closed
abbrev pub StopsAtSink : {S : Type 0} → (S → ShelfState) → Store → List Edited → Option (List ℕ) → Option (List ℕ) → S → Type 0
StopsAtSink state start all before after shelf =
    (step : Edited) × (left : List Edited) × (desk : Desk) × TakesPart all (step ∷ left) (closed_desk start) desk before after × HasFiles state shelf (files_closed step.desk)

-- a file failed: the open one is not meant, nor one that was to be made; or it failed when it was closed behind a step in
-- whose answer the sink failed
abbrev pub StopsAtFile : {S : Type 0} → (S → ShelfState) → Store → List Edited → Option (List ℕ) → Option (List ℕ) → S → Type 0
StopsAtFile state start all before after shelf =
    ((left : List Edited) × (desk : Desk) × TakesPart all left (closed_desk start) desk before after × HasFilesBut state shelf (lost_at desk left) (files_closed desk))
    ⊎ ((step : Edited) × (left : List Edited) × (desk : Desk) × TakesPart all (step ∷ left) (closed_desk start) desk before after × HasFilesBut state shelf (lost_at step.desk left) (files_closed step.desk))

-- there was no memory for a step: it is not taken, and the open file is closed
abbrev pub StopsAtMemory : {S : Type 0} → (S → ShelfState) → Store → List Edited → Option (List ℕ) → Option (List ℕ) → S → Type 0
StopsAtMemory state start all before after shelf =
    (left : List Edited) × (desk : Desk) × Takes all left (closed_desk start) desk before after × HasFilesBut state shelf (made_next desk left) (files_closed desk)

abbrev pub IsFault : {S : Type 0} → (S → ShelfState) → Store → List Edited → FaultCounts → FaultCounts → Option (List ℕ) → Option (List ℕ) → Option (List ℕ) → S → Type 0
IsFault state start all old new before after more shelf =
    ((new.shelf ≡ old.shelf) × Rises old.script new.script × (new.out ≡ old.out) × StopsAtScript state start all before after more shelf)
    ⊎ (((new.shelf ≡ old.shelf) × (new.script ≡ old.script) × Rises old.out new.out × StopsAtSink state start all before after shelf)
    ⊎ (Rises old.shelf new.shelf × StopsAtFile state start all before after shelf))

-- A script is served to its end with exactly its answers and no fault, and the files are those that it leaves; or up to a
-- fault, or up to want of memory.
abbrev pub IsServed : {S : Type 0} → (S → ShelfState) → Store → Bool → List Edited → ScriptEnd → FaultCounts → FaultCounts → Option (List ℕ) → Option (List ℕ) → Option (List ℕ) → S → Type 0
IsServed state start too_long all (Done refused) old new before after more shelf =
    (too_long ≡ false) × (refused ≡ any_refused all) × SameCounts old new × IsDone state start all before after shelf
IsServed state start too_long all TooLong old new before after more shelf =
    (too_long ≡ true) × SameCounts old new × IsDone state start all before after shelf
IsServed state start too_long all Fault old new before after more shelf = IsFault state start all old new before after more shelf
IsServed state start too_long all Memory old new before after more shelf = SameCounts old new × StopsAtMemory state start all before after shelf

-- how it ends where its run stops so
abbrev pub end_at : Bool → Stop → ScriptEnd
end_at refused stop.Ended = Done refused
end_at refused stop.TooLong = TooLong
end_at refused stop.Script = Fault
end_at refused stop.Sink = Fault
end_at refused stop.File = Fault
end_at refused stop.Memory = Memory

-- the script that the source has is served so, from the files that the shelf tells, with a tap of each of these kinds; behind the
-- opening of the file of a name, where there is one
abbrev pub ServesScript : {S R O : Type 0} → (S → ShelfState) → (R → Option (List ℕ)) → (R → ℕ) → (O → Option (List ℕ)) → (O → ℕ) → List TapKind → Option (List ℕ) → ScriptEnd → S → R → O → S → R → O → Type 0
ServesScript state left script_faults told out_faults kinds name ended shelf script out shelf' script' out' =
    (files : Files) (s : List ℕ) → TellsFiles state shelf files → left script ≡ Some s →
    let store = stored files kinds in
    IsServed state store (run_too_long name store s) (run_steps name store s) ended
    (faults_of state script_faults out_faults shelf script out) (faults_of state script_faults out_faults shelf' script' out') (told out) (told out') (left script') shelf'

-- a fault is answered only where a count rose
abbrev pub RisesAtFault : {S R O : Type 0} → (S → ShelfState) → (R → ℕ) → (O → ℕ) → ScriptEnd → S → R → O → S → R → O → Type 0
RisesAtFault state script_faults out_faults ended shelf script out shelf' script' out' =
    ended ≡ Fault → AnyCountRises (faults_of state script_faults out_faults shelf script out) (faults_of state script_faults out_faults shelf' script' out')

-- nothing is taken of the script where the opening is refused, or `auto on`
abbrev pub LeavesScript : {S R : Type 0} → (S → ShelfState) → Option (List ℕ) → S → R → R → Type 0
LeavesScript state name shelf script script' =
    (store : Store) (n : List ℕ) → TellsFiles state shelf store.files → name ≡ Some n → pins (pinned_opening store n) ≡ false → script' ≡ script

-- ---- how it leaves the shelf

-- Each disk is back. What the shelf told it tells, no file is gone, and time has gone on for each.
pub record LeavesShelf {S : Type 0} (state : S → ShelfState) (left_between : S → List ℕ → ℕ → ℕ → List ℕ → Type 0) (old new : S) : Type 0 where
  pub back : (n : List ℕ) → (state new).out n ≡ (state old).out n
  pub files : (f : Files) → TellsFiles state old f → (f' : Files) × TellsFiles state new f' × ((n : List ℕ) → is_none (f n) ≡ false → is_none (f' n) ≡ false)
  pub time : (f : Files) (n : List ℕ) → TellsFiles state old f → is_none (f n) ≡ false → GoesOn ((state old).clock n) ((state new).clock n) (left_between old n) (left_between new n)

-- a file that no line opens to be written keeps its images, but for the pinned one
abbrev pub KeepsUnnamed : {S R : Type 0} → (S → ShelfState) → (S → List ℕ → List ℕ → Type 0) → (S → List ℕ → ℕ → ℕ → List ℕ → Type 0) → (R → Option (List ℕ)) → Option (List ℕ) → S → R → S → Type 0
KeepsUnnamed state may_leave left_between left name shelf script shelf' =
    (f : Files) (s n : List ℕ) → TellsFiles state shelf f → left script ≡ Some s → is_none (f n) ≡ false →
    run_writes name (lines_within most_bytes s) n ≡ false → KeepsImagesOf state may_leave left_between n shelf shelf'

-- the bytes that are asked of its disks, and written, have a bound for each line
abbrev pub BoundsScript : {S R : Type 0} → (S → ShelfState) → (R → Option (List ℕ)) → Option (List ℕ) → S → R → S → Type 0
BoundsScript state left name shelf script shelf' =
    (s : List ℕ) → left script ≡ Some s →
    AtMost (state shelf).asked (run_asks name (lines_within most_bytes s)) (state shelf').asked
    × AtMost (state shelf).written (run_puts name (lines_within most_bytes s)) (state shelf').written
