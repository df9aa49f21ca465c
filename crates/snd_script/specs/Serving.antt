-- How a run goes on from one moment to a later one.
use Rattle.std.specs.Prelude.{◌≡◌, ◌⊎◌, ℕ, List, [], ◌∷◌, ◌++◌, Bool, true, false, ◌||◌, Option, None, Some, Result, Ok, Err, is_none}
use Rattle.std.specs.Str.{bytes_eq}
use Rattle.snd_command.specs.Line.{command_of}
use Rattle.snd_command.specs.Said.{Said}
use Rattle.snd_disk.specs.Shelf.{Files, ShelfState}
use Rattle.snd_disk.specs.Shelves.{TellsFiles}
use Rattle.snd_disk.specs.declared.disk.Disk.{Ghosts}
use Rattle.snd_disk.specs.Device.{Tells}
use Rattle.snd_disk.specs.State.{Rises, State}
use Rattle.snd_disk.specs.Streams.{AppendsFront}
use Rattle.snd_disk.specs.declared.disk.Step.{Step}
use Rattle.snd_layout.specs.declared.error.OpenError.{OpenError}
use Rattle.snd_layout.specs.declared.error.OpenError.TheVariants as cause
use Rattle.snd_layout.specs.Shape.{Shape}
use Rattle.snd_meters.specs.Gauge.{Gauge}
use Rattle.snd_edits.specs.Editing.{Editing}
use Rattle.snd_rules.specs.Desk.{Desk, OpenFile, Store, closed_desk, files_closed, open_desk, taps_closed, open_as}
use Rattle.snd_rules.specs.Edit.{Edited, close_edit, edit_line, edit_open, keep_open, open_refusal, opened_edit}
use Rattle.snd_session.specs.Handled.{HandleStands, handle_disk, mode_of}
use Rattle.snd_script.specs.Lines.{CutsOff, Reading, TakesUp}
use Rattle.snd_script.specs.Opened.{is_making, opens_bytes}
use Rattle.snd_rules.specs.Replies.{Answer, file_line, ok_line, refuses, says, text_of, is_refusal}
use Rattle.snd_rules.specs.Rules.{rule_of}
use Rattle.snd_rules.specs.Script.{any_refused, ending, is_too_long, last_desk, lines_within, steps, texts}
use Rattle.snd_script.specs.Served.{Appends, AppendsPart, FaultCounts, HasStore, IsCutOff, SameCounts, faults_of, first_text, lost_at, made_next, none_lost}
use Rattle.snd_session.specs.Tapped.{TapMeter}
use Rattle.snd_script.specs.Tapped.{taps_of}
use Rattle.snd_session.specs.declared.handle.Handle.{Handle}
use Rattle.snd_script.specs.declared.open.OpenAs.{OpenAs}
use Rattle.snd_script.specs.declared.run.Run.{Run}
use Rattle.snd_script.specs.declared.stop.Next.{Next}
use Rattle.snd_script.specs.declared.stop.Next.TheVariants as next
use Rattle.snd_script.specs.declared.stop.Stop.{Stop}
use Rattle.snd_script.specs.declared.stop.Stop.TheVariants.{Ended, TooLong, Script, Sink, File, Memory}

-- a moment of a run: the script's bytes in hand and in the source, how many may be served, whether a line was refused so
-- far, and what was appended
pub record Moment : Type 0 where
  pub room : ℕ
  pub rest : List ℕ
  pub left : Option (List ℕ)
  pub refused : Bool
  pub told : Option (List ℕ)

abbrev pub moment : Reading → Option (List ℕ) → Bool → Option (List ℕ) → Moment
moment reading left refused told = record { room = reading.room; rest = reading.rest; left = left; refused = refused; told = told }

-- .. of a run over a source and a sink
abbrev pub moment_of : {V : Type 0} {Z : V → Type 0} {R O : Type 0} → (R → Option (List ℕ)) → (O → Option (List ℕ)) → Run V Z → R → O → Moment
moment_of left told run script out = moment run.lines (left script) run.refused (told out)

-- where the source has the bytes s left: the lines that are not served yet, and whether the script is too long
abbrev pub lines_left : Moment → List ℕ → List (List ℕ)
lines_left m s = lines_within m.room (m.rest ++ s)

abbrev pub is_longer : Moment → List ℕ → Bool
is_longer m s = is_too_long m.room (m.rest ++ s)

-- the steps that they are; and those behind a step that is still to be answered
abbrev pub steps_left : Desk → Moment → List ℕ → List Edited
steps_left desk m s = steps desk (lines_left m s)

abbrev pub steps_from : Edited → Moment → List ℕ → List Edited
steps_from edited m s = edited ∷ steps_left edited.desk m s

-- the first steps were taken, and answered; these are left, from this state on
pub record Serves (all left : List Edited) (desk desk' : Desk) (m m' : Moment) : Type 0 where
  pub done : List Edited
  pub whole : all ≡ done ++ left
  pub last : last_desk desk done ≡ desk'
  pub appended : Appends m.told m'.told (texts done)
  pub noted : m'.refused ≡ (m.refused || any_refused done)

-- .. and of a text a front
pub record ServesPart (all left : List Edited) (front : List ℕ) (desk desk' : Desk) (m m' : Moment) : Type 0 where
  pub done : List Edited
  pub whole : all ≡ done ++ left
  pub last : last_desk desk done ≡ desk'
  pub appended : AppendsPart m.told m'.told (texts done) front

-- How a run stops, with the state at which it stands then. What stands is told of names that are not lost: a file that failed
-- is, and one that was to be made. A file may also fail when it is closed behind a step in whose answer the sink failed.
abbrev pub IsStopped : Stop → Bool → List Edited → Desk → Moment → Moment → ((List ℕ → Bool) → Desk → Type 0) → Type 0
IsStopped Ended too_long all desk m m' stands = (too_long ≡ false) × ((at : Desk) × Serves all (ending at) desk at m m' × stands none_lost at)
IsStopped TooLong too_long all desk m m' stands = (too_long ≡ true) × ((at : Desk) × Serves all (ending at) desk at m m' × stands none_lost at)
IsStopped Script too_long all desk m m' stands = (left : List Edited) × (at : Desk) × ServesPart all left [] desk at m m' × IsCutOff left at m'.left × stands none_lost at
IsStopped Sink too_long all desk m m' stands = (step : Edited) × (left : List Edited) × (at : Desk) × ServesPart all (step ∷ left) (text_of step.answer) desk at m m' × stands none_lost step.desk
IsStopped File too_long all desk m m' stands =
    ((left : List Edited) × (at : Desk) × ServesPart all left (first_text left) desk at m m' × stands (lost_at at left) at)
    ⊎ ((step : Edited) × (left : List Edited) × (at : Desk) × ServesPart all (step ∷ left) (text_of step.answer) desk at m m' × stands (lost_at step.desk left) step.desk)
IsStopped Memory too_long all desk m m' stands = (left : List Edited) × (at : Desk) × ServesPart all left [] desk at m m' × stands (made_next at left) at

-- it stops, or goes on with no file open
abbrev pub IsServedOn : {T : Type 0} → Result T Stop → Bool → List Edited → Desk → Moment → Moment → ((List ℕ → Bool) → Desk → Type 0) → Type 0
IsServedOn (Ok x) too_long all desk m m' stands =
    (store : Store) × (s : List ℕ) × (m'.left ≡ Some s) × Serves all (steps_left (closed_desk store) m' s) desk (closed_desk store) m m' × stands none_lost (closed_desk store)
    × (is_longer m' s ≡ too_long)
IsServedOn (Err stop) too_long all desk m m' stands = IsStopped stop too_long all desk m m' stands

-- it stops, or the open file is to be closed
abbrev pub IsServedOpen : {T : Type 0} → Result T Stop → Bool → List Edited → Store → Desk → Moment → Moment → ((List ℕ → Bool) → Desk → Type 0) → Type 0
IsServedOpen (Ok x) too_long all store desk m m' stands =
    (file : OpenFile) × (s : List ℕ) × (m'.left ≡ Some s) × Serves all (steps_from (close_edit store file) m' s) desk (open_desk store file) m m'
    × stands none_lost (open_desk store file) × (is_longer m' s ≡ too_long)
IsServedOpen (Err stop) too_long all store desk m m' stands = IsStopped stop too_long all desk m m' stands

-- ---- what stands at a state

-- the shelf has its files and a run its taps, once the open file is closed
abbrev pub ShelfStands : {S : Type 0} → (S → ShelfState) → S → List Gauge → (List ℕ → Bool) → Desk → Type 0
ShelfStands state shelf taps lost desk =
    (f : Files) × TellsFiles state shelf f × ((n : List ℕ) → lost n ≡ false → f n ≡ files_closed desk n) × (taps_closed desk ≡ taps)

-- with the file of a name taken out: the others are these files, and the disk holds that one
pub record DiskStands {D : Type 0} (state : D → State) (store : Store) (name : List ℕ) (taps : List Gauge) (disk : D) (lost : List ℕ → Bool) (desk : Desk) : Type 0 where
  pub others : (n : List ℕ) → bytes_eq n name ≡ false → files_closed desk n ≡ store.files n
  pub holds : lost name ≡ false → (b : List ℕ) × Tells state disk b × (files_closed desk name ≡ Some b)
  pub are : taps_closed desk ≡ taps

-- while it is open: the handle stands for it, and these are the taps. The flag is whether it is to stay open.
pub record OpenStands {D : Type 0} {ghosts : Ghosts D} (state : D → State) (store : Store) (name : List ℕ) (stays : Bool) (taps : List Gauge) (handle : Handle D ghosts) (lost : List ℕ → Bool) (desk : Desk) : Type 0 where
  pub editing : Editing
  pub is : desk ≡ open_desk store (record { name = name; mode = open_as stays (mode_of handle); editing = editing; taps = taps })
  pub stands : lost name ≡ false → HandleStands state handle editing

-- ---- counts of faults

-- The counts stay, unless there was a fault; then the one rises that failed. Behind the fault of a file others may have.
abbrev pub CountsAt : Stop → FaultCounts → FaultCounts → Type 0
CountsAt Script old new = (new.shelf ≡ old.shelf) × Rises old.script new.script × (new.out ≡ old.out)
CountsAt Sink old new = (new.shelf ≡ old.shelf) × (new.script ≡ old.script) × Rises old.out new.out
CountsAt File old new = Rises old.shelf new.shelf
CountsAt stop old new = SameCounts old new

abbrev pub IsCounted : {T : Type 0} → Result T Stop → FaultCounts → FaultCounts → Type 0
IsCounted (Ok x) old new = SameCounts old new
IsCounted (Err stop) old new = CountsAt stop old new

-- .. of a source alone, and of a sink alone
abbrev pub IsScriptCounted : {T : Type 0} → Result T Stop → ℕ → ℕ → Type 0
IsScriptCounted (Err Script) old new = Rises old new
IsScriptCounted (Err Ended) old new = new ≡ old
IsScriptCounted (Err TooLong) old new = new ≡ old
IsScriptCounted (Err stop) old new = ⊥
IsScriptCounted (Ok x) old new = new ≡ old

abbrev pub IsSinkCounted : {T : Type 0} → Result T Stop → ℕ → ℕ → Type 0
IsSinkCounted (Err Sink) old new = Rises old new
IsSinkCounted (Err stop) old new = ⊥
IsSinkCounted (Ok x) old new = new ≡ old

-- a handle is broken where its file failed, and there alone
abbrev pub WholeAt : Stop → Option Step → Type 0
WholeAt File broken = is_none broken ≡ false
WholeAt stop broken = broken ≡ None

abbrev pub IsWhole : {T : Type 0} → Result T Stop → Option Step → Type 0
IsWhole (Ok x) broken = broken ≡ None
IsWhole (Err stop) broken = WholeAt stop broken

-- ---- one answer

-- an answer was appended, and noted where it is a refusal; or a front of it, where the sink failed
abbrev pub IsAnswered : {T : Type 0} → Result T Stop → Answer → Bool → Bool → Option (List ℕ) → Option (List ℕ) → Type 0
IsAnswered (Ok x) answer refused refused' before after = (refused' ≡ (refused || is_refusal answer)) × Appends before after (text_of answer)
IsAnswered (Err Sink) answer refused refused' before after = AppendsFront before after (text_of answer)
IsAnswered (Err stop) answer refused refused' before after = ⊥

-- how one line stops a run: in the answer, at the file, or for want of memory
abbrev pub StopsLine : Stop → Edited → Desk → Option (List ℕ) → Option (List ℕ) → ((List ℕ → Bool) → Desk → Type 0) → Type 0
StopsLine Sink edited desk before after stands = AppendsFront before after (text_of edited.answer) × stands none_lost edited.desk
StopsLine File edited desk before after stands = (after ≡ before) × stands (lost_at desk (edited ∷ [])) desk
StopsLine Memory edited desk before after stands = (after ≡ before) × stands (made_next desk (edited ∷ [])) desk
StopsLine stop edited desk before after stands = ⊥

-- A line while a file is open: it was answered, and the file that it leaves is open; or the file is to be closed, and all is
-- as it was; or it stops the run.
abbrev pub IsLineServed : Result Next Stop → Edited → Store → OpenFile → Bool → Bool → Option (List ℕ) → Option (List ℕ) → ((List ℕ → Bool) → Desk → Type 0) → Type 0
IsLineServed (Ok next.Open) edited store file refused refused' before after stands =
    (refused' ≡ (refused || is_refusal edited.answer)) × Appends before after (text_of edited.answer) × stands none_lost edited.desk
IsLineServed (Ok next.Close) edited store file refused refused' before after stands =
    (edited ≡ close_edit store file) × (refused' ≡ refused) × (after ≡ before) × stands none_lost (open_desk store file)
IsLineServed (Err stop) edited store file refused refused' before after stands = StopsLine stop edited (open_desk store file) before after stands

-- a line came, of which this is kept
pub record Brings (room : ℕ) (s kept : List ℕ) (room' : ℕ) (s' : List ℕ) : Type 0 where
  pub line : List ℕ
  pub lines : lines_within room s ≡ line ∷ lines_within room' s'
  pub too_long : is_too_long room s ≡ is_too_long room' s'
  pub same : command_of kept ≡ command_of line

-- .. or none is left; or the script failed in the midst of one
abbrev pub BringsNone : Stop → ℕ → List ℕ → Option (List ℕ) → Type 0
BringsNone Ended room s left = (lines_within room s ≡ []) × (is_too_long room s ≡ false)
BringsNone TooLong room s left = (lines_within room s ≡ []) × (is_too_long room s ≡ true)
BringsNone Script room s left = CutsOff s left
BringsNone stop room s left = ⊥

abbrev pub IsBrought : {T : Type 0} → Result T Stop → ℕ → List ℕ → List ℕ → Reading → Option (List ℕ) → Type 0
IsBrought (Ok x) room s kept reading left = (b : List ℕ) × (left ≡ Some b) × Brings room s kept reading.room (reading.rest ++ b)
IsBrought (Err stop) room s kept reading left = BringsNone stop room s left

-- a file was not opened: it is refused, or it failed, or there was no memory
abbrev pub IsNotOpened : {T : Type 0} → OpenError → Result T Stop → Bool → Bool → Option (List ℕ) → Option (List ℕ) → ℕ → ℕ → Type 0
IsNotOpened (cause.DiskFault step) result refused refused' before after faults faults' = (result ≡ Err File) × (after ≡ before) × (faults' ≡ faults)
IsNotOpened cause.Memory result refused refused' before after faults faults' = (result ≡ Err Memory) × (after ≡ before) × (faults' ≡ faults)
IsNotOpened error result refused refused' before after faults faults' =
    IsAnswered result (refuses (open_refusal error)) refused refused' before after × IsSinkCounted result faults faults'

-- ---- WHOLE OBJECTS. The first arguments are the meanings of the shelf or the disk, of the source and of the sink.

-- the lines that are left are served on, where the shelf has these files, the run these taps, and the source tells its bytes
abbrev pub ServesLines : {V : Type 0} {Z : V → Type 0} {S R O T : Type 0} → TapMeter V Z → (S → ShelfState) → (R → Option (List ℕ)) → (O → Option (List ℕ)) → Result T Stop → S → Run V Z → R → O → S → Run V Z → R → O → Type 0
ServesLines meter state left told result shelf run script out shelf' run' script' out' =
    (store : Store) (s : List ℕ) → HasStore state shelf (taps_of meter run) store → left script ≡ Some s →
    let m = moment_of left told run script out in
    IsServedOn result (is_longer m s) (steps_left (closed_desk store) m s) (closed_desk store) m (moment_of left told run' script' out') (ShelfStands state shelf' (taps_of meter run'))

-- .. up to where the run stops
abbrev pub ServesAll : {V : Type 0} {Z : V → Type 0} {S R O : Type 0} → TapMeter V Z → (S → ShelfState) → (R → Option (List ℕ)) → (O → Option (List ℕ)) → Stop → S → Run V Z → R → O → S → Run V Z → R → O → Type 0
ServesAll meter state left told stop shelf run script out shelf' run' script' out' =
    (store : Store) (s : List ℕ) → HasStore state shelf (taps_of meter run) store → left script ≡ Some s →
    let m = moment_of left told run script out in
    IsStopped stop (is_longer m s) (steps_left (closed_desk store) m s) (closed_desk store) m (moment_of left told run' script' out') (ShelfStands state shelf' (taps_of meter run'))

-- .. behind a line that is still to be answered, by the files
abbrev pub ServesLine : {V : Type 0} {Z : V → Type 0} {S R O T : Type 0} → TapMeter V Z → (S → ShelfState) → (R → Option (List ℕ)) → (O → Option (List ℕ)) → (Store → Edited) → Result T Stop → S → Run V Z → R → O → S → Run V Z → R → O → Type 0
ServesLine meter state left told edited result shelf run script out shelf' run' script' out' =
    (store : Store) (s : List ℕ) → HasStore state shelf (taps_of meter run) store → left script ≡ Some s →
    let m = moment_of left told run script out in
    IsServedOn result (is_longer m s) (steps_from (edited store) m s) (closed_desk store) m (moment_of left told run' script' out') (ShelfStands state shelf' (taps_of meter run'))

-- .. of the file of a name, that is taken out, behind its opening. A file that is not made is there.
abbrev pub ServesDisk : {V : Type 0} {Z : V → Type 0} {D R O T : Type 0} → TapMeter V Z → (D → State) → (R → Option (List ℕ)) → (O → Option (List ℕ)) → OpenAs → List ℕ → Result T Stop → D → Run V Z → R → O → D → Run V Z → R → O → Type 0
ServesDisk meter state left told how name result disk run script out disk' run' script' out' =
    (store : Store) (b s : List ℕ) → Tells state disk b → (is_making how ≡ false → store.files name ≡ Some b) → store.taps ≡ taps_of meter run → left script ≡ Some s →
    let m = moment_of left told run script out in
    IsServedOn result (is_longer m s) (steps_from (opens_bytes how name store b) m s) (closed_desk store) m (moment_of left told run' script' out') (DiskStands state store name (taps_of meter run') disk')

-- .. with it open, behind the answer of its opening, up to its close
abbrev pub ServesHandle : {V : Type 0} {Z : V → Type 0} {D R O T : Type 0} {ghosts : Ghosts D} → TapMeter V Z → (D → State) → (R → Option (List ℕ)) → (O → Option (List ℕ)) → List ℕ → Result T Stop → Handle D ghosts → Run V Z → R → O → D → Run V Z → R → O → Type 0
ServesHandle meter state left told name result handle run script out disk' run' script' out' =
    (store : Store) (e : Editing) (s : List ℕ) → HandleStands state handle e → left script ≡ Some s →
    let m = moment_of left told run script out in
    let opened = opened_edit store (record { name = name; mode = mode_of handle; editing = e; taps = taps_of meter run }) in
    IsServedOn result (is_longer m s) (steps_from opened m s) (closed_desk store) m (moment_of left told run' script' out') (DiskStands state store name (taps_of meter run') disk')

-- .. up to where it is to be closed
abbrev pub ServesToClose : {V : Type 0} {Z : V → Type 0} {D R O T : Type 0} {ghosts : Ghosts D} → TapMeter V Z → (D → State) → (R → Option (List ℕ)) → (O → Option (List ℕ)) → List ℕ → Result T Stop → Handle D ghosts → Run V Z → R → O → Handle D ghosts → Run V Z → R → O → Type 0
ServesToClose meter state left told name result handle run script out handle' run' script' out' =
    (store : Store) (e : Editing) (s : List ℕ) → HandleStands state handle e → left script ≡ Some s →
    let m = moment_of left told run script out in
    let opened = opened_edit store (record { name = name; mode = mode_of handle; editing = e; taps = taps_of meter run }) in
    IsServedOpen result (is_longer m s) (steps_from opened m s) store (closed_desk store) m (moment_of left told run' script' out') (OpenStands state store name false (taps_of meter run') handle')

-- .. and behind no line; the flag is whether it is to stay open
abbrev pub ServesOpen : {V : Type 0} {Z : V → Type 0} {D R O T : Type 0} {ghosts : Ghosts D} → TapMeter V Z → (D → State) → (R → Option (List ℕ)) → (O → Option (List ℕ)) → List ℕ → Bool → Result T Stop → Handle D ghosts → Run V Z → R → O → Handle D ghosts → Run V Z → R → O → Type 0
ServesOpen meter state left told name stays result handle run script out handle' run' script' out' =
    (store : Store) (e : Editing) (s : List ℕ) → HandleStands state handle e → left script ≡ Some s →
    let m = moment_of left told run script out in
    let desk = open_desk store (record { name = name; mode = open_as stays (mode_of handle); editing = e; taps = taps_of meter run }) in
    IsServedOpen result (is_longer m s) (steps_left desk m s) store desk m (moment_of left told run' script' out') (OpenStands state store name stays (taps_of meter run') handle')

-- one line on an open file is served, by what it says of it
abbrev pub AnswersOpen : {V : Type 0} {Z : V → Type 0} {D O : Type 0} {ghosts : Ghosts D} → TapMeter V Z → (D → State) → (O → Option (List ℕ)) → List ℕ → Bool → (Store → OpenFile → Edited) → Result Next Stop → Handle D ghosts → Run V Z → O → Handle D ghosts → Run V Z → O → Type 0
AnswersOpen meter state told name stays edited result handle run out handle' run' out' =
    (store : Store) (e : Editing) → HandleStands state handle e →
    let file : OpenFile = record { name = name; mode = open_as stays (mode_of handle); editing = e; taps = taps_of meter run } in
    IsLineServed result (edited store file) store file run.refused run'.refused (told out) (told out') (OpenStands state store name stays (taps_of meter run') handle')

abbrev pub edit_open_said : Said → Store → OpenFile → Edited
edit_open_said said store file = edit_open store file said

abbrev pub edit_open_line : List ℕ → Store → OpenFile → Edited
edit_open_line line store file = edit_line (open_desk store file) line

-- an answer is appended, and noted where it is a refusal
abbrev pub Answers : {V : Type 0} {Z : V → Type 0} {O T : Type 0} → (O → Option (List ℕ)) → Answer → Result T Stop → Run V Z → O → Run V Z → O → Type 0
Answers told answer result run out run' out' = IsAnswered result answer run.refused run'.refused (told out) (told out')

-- a command on an open file is answered, or stops the run
abbrev pub IsStepAnswered : {T : Type 0} → Result T Stop → Edited → Desk → Bool → Bool → Option (List ℕ) → Option (List ℕ) → ((List ℕ → Bool) → Desk → Type 0) → Type 0
IsStepAnswered (Ok x) edited desk refused refused' before after stands =
    (refused' ≡ (refused || is_refusal edited.answer)) × Appends before after (text_of edited.answer) × stands none_lost edited.desk
IsStepAnswered (Err stop) edited desk refused refused' before after stands = StopsLine stop edited desk before after stands

abbrev pub AnswersStep : {V : Type 0} {Z : V → Type 0} {D O T : Type 0} {ghosts : Ghosts D} → TapMeter V Z → (D → State) → (O → Option (List ℕ)) → List ℕ → Bool → Said → Result T Stop → Handle D ghosts → Run V Z → O → Handle D ghosts → Run V Z → O → Type 0
AnswersStep meter state told name stays said result handle run out handle' run' out' =
    (store : Store) (e : Editing) → HandleStands state handle e →
    let file : OpenFile = record { name = name; mode = open_as stays (mode_of handle); editing = e; taps = taps_of meter run } in
    IsStepAnswered result (keep_open store file (rule_of (mode_of handle) file.taps said)) (open_desk store file) run.refused run'.refused (told out) (told out') (OpenStands state store name stays (taps_of meter run') handle')

-- the counts of faults, by how the run goes on
abbrev pub CountsRun : {S R O T : Type 0} → (S → ShelfState) → (R → ℕ) → (O → ℕ) → Result T Stop → S → R → O → S → R → O → Type 0
CountsRun state script_faults out_faults result shelf script out shelf' script' out' =
    IsCounted result (faults_of state script_faults out_faults shelf script out) (faults_of state script_faults out_faults shelf' script' out')

abbrev pub CountsStop : {S R O : Type 0} → (S → ShelfState) → (R → ℕ) → (O → ℕ) → Stop → S → R → O → S → R → O → Type 0
CountsStop state script_faults out_faults stop shelf script out shelf' script' out' =
    CountsAt stop (faults_of state script_faults out_faults shelf script out) (faults_of state script_faults out_faults shelf' script' out')

-- .. while a disk is taken out
abbrev pub disk_faults_of : {D R O : Type 0} → (D → State) → (R → ℕ) → (O → ℕ) → D → R → O → FaultCounts
disk_faults_of state script_faults out_faults disk script out =
    record { shelf = (state disk).faults; script = script_faults script; out = out_faults out }

abbrev pub CountsDisk : {D R O T : Type 0} → (D → State) → (R → ℕ) → (O → ℕ) → Result T Stop → D → R → O → D → R → O → Type 0
CountsDisk state script_faults out_faults result disk script out disk' script' out' =
    IsCounted result (disk_faults_of state script_faults out_faults disk script out) (disk_faults_of state script_faults out_faults disk' script' out')

abbrev pub CountsHandle : {D R O T : Type 0} {ghosts : Ghosts D} → (D → State) → (R → ℕ) → (O → ℕ) → Result T Stop → Handle D ghosts → R → O → Handle D ghosts → R → O → Type 0
CountsHandle state script_faults out_faults result handle script out handle' script' out' =
    CountsDisk state script_faults out_faults result (handle_disk handle) script out (handle_disk handle') script' out'

-- .. and given back
abbrev pub CountsClosed : {D R O T : Type 0} {ghosts : Ghosts D} → (D → State) → (R → ℕ) → (O → ℕ) → Result T Stop → Handle D ghosts → R → O → D → R → O → Type 0
CountsClosed state script_faults out_faults result handle script out disk script' out' =
    CountsDisk state script_faults out_faults result (handle_disk handle) script out disk script' out'

-- .. and the script is not asked
abbrev pub CountsLine : {D O T : Type 0} {ghosts : Ghosts D} → (D → State) → (O → ℕ) → Result T Stop → Handle D ghosts → O → Handle D ghosts → O → Type 0
CountsLine state out_faults result handle out handle' out' =
    (script : ℕ) → IsCounted result (disk_faults_of state (λ (n : ℕ). n) out_faults (handle_disk handle) script out) (disk_faults_of state (λ (n : ℕ). n) out_faults (handle_disk handle') script out')

-- what is taken of the script is what may still be taken
abbrev pub TakesLines : {V : Type 0} {Z : V → Type 0} {R : Type 0} → (R → ℕ) → Run V Z → R → Run V Z → R → Type 0
TakesLines given run script run' script' = TakesUp given run.lines script run'.lines script'

-- the next line comes, where the source tells its bytes
abbrev pub BringsLine : {V : Type 0} {Z : V → Type 0} {R T : Type 0} → (R → Option (List ℕ)) → Result T Stop → List ℕ → Run V Z → R → Run V Z → R → Type 0
BringsLine left result kept run script run' script' =
    (s : List ℕ) → left script ≡ Some s → IsBrought result run.lines.room (run.lines.rest ++ s) kept run'.lines (left script')

-- the closing of a file of so many frames is answered; or that one was opened, or was not
abbrev pub AnswersClose : {O T : Type 0} → (O → Option (List ℕ)) → ℕ → Result T Stop → O → O → Type 0
AnswersClose told frames result out out' = IsAnswered result (says (ok_line frames)) false false (told out) (told out')

abbrev pub AnswersFile : {O T : Type 0} → (O → Option (List ℕ)) → Shape → Result T Stop → O → O → Type 0
AnswersFile told shape result out out' = IsAnswered result (says (file_line shape)) false false (told out) (told out')

abbrev pub AnswersError : {V : Type 0} {Z : V → Type 0} {O T : Type 0} → (O → Option (List ℕ)) → (O → ℕ) → OpenError → Result T Stop → Run V Z → O → Run V Z → O → Type 0
AnswersError told faults error result run out run' out' = IsNotOpened error result run.refused run'.refused (told out) (told out') (faults out) (faults out')
