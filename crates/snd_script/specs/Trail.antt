-- The moments of a run in the order of its states. safe e e' x says that a crash may leave x on the way from e to e'; between s t x
-- that one may have left x between two values of a clock.
use Rattle.std.specs.Prelude.{◌≡◌, ℕ, ◌-◌, ◌≤◌, ◌==◌, List, [], ◌∷◌, ◌++◌, Bool, true, Option, None, Some, Result, Ok, Err, length, nat_le, reverse, if◌then◌else◌}
use Rattle.snd_command.specs.Line.{command_of}
use Rattle.snd_command.specs.Said.{Said}
use Rattle.snd_disk.specs.Device.{IsStable, Tells}
use Rattle.snd_disk.specs.Shelf.{Files}
use Rattle.snd_disk.specs.Shelves.{TellsFiles}
use Rattle.snd_disk.specs.declared.disk.Disk.{Ghosts}
use Rattle.snd_disk.specs.declared.shelf.Shelf.{Ghosts as ShelfMeaning}
use Rattle.snd_disk.specs.declared.streams.Sink.{Ghosts as SinkMeaning}
use Rattle.snd_disk.specs.declared.streams.Source.{Ghosts as SourceMeaning}
use Rattle.snd_meters.specs.Gauge.{Gauge}
use Rattle.snd_edits.specs.Editing.{Editing}
use Rattle.snd_edits.specs.Safe.{IsFit, IsSafe}
use Rattle.snd_edits.specs.Updating.{updating_of}
use Rattle.snd_patch.specs.Images.{LeavesEach}
use Rattle.snd_rules.specs.Desk.{OpenFile, Store, open_desk, pinned, stored}
use Rattle.snd_rules.specs.Edit.{Edited, edit_file}
use Rattle.snd_session.specs.Handled.{HandleAtRest, handle_disk, handle_known, handle_params, mode_of, rule_for}
use Rattle.snd_rules.specs.Pinned.{auto_steps, pinned_steps}
use Rattle.snd_script.specs.PinnedRun.{opened_pinned}
use Rattle.snd_rules.specs.Replies.{text_of}
use Rattle.snd_script.specs.Serving.{edit_open_line, lines_left, moment_of, steps_left}
use Rattle.snd_rules.specs.Stepped.{IsAutomatic}
use Rattle.snd_session.specs.Tapped.{TapMeter}
use Rattle.snd_script.specs.Tapped.{taps_of}
use Rattle.snd_session.specs.declared.handle.Handle.{Handle}
use Rattle.snd_script.specs.declared.run.Run.{Run}
use Rattle.snd_script.specs.declared.stop.Next.{Next}
use Rattle.snd_script.specs.declared.stop.Next.TheVariants as next
use Rattle.snd_script.specs.declared.stop.Stop.{Stop}
use Rattle.snd_script.specs.declared.stop.Stop.TheVariants as stop
use Rattle.snd_taps.specs.declared.tap.TapKind.{TapKind}

-- what was left between two clock values has P
abbrev pub EachBetween : (ℕ → ℕ → List ℕ → Type 0) → ℕ → ℕ → (List ℕ → Type 0) → Type 0
EachBetween between s t P = (x : List ℕ) → between s t x → P x

-- the states before e, the last of them first: from t0 to t1 what was left is safe from each of them to the next, and at last to e
abbrev pub TrailTo : {E : Type 0} → (E → E → List ℕ → Type 0) → (ℕ → ℕ → List ℕ → Type 0) → ℕ → ℕ → E → List E → Type 0
TrailTo safe between t0 t1 e [] = (t0 ≤ t1) × EachBetween between t0 t1 (safe e e)
TrailTo safe between t0 t1 e (d ∷ before) = (t : ℕ) × (t0 ≤ t) × (t ≤ t1) × TrailTo safe between t0 t d before × EachBetween between t t1 (safe d e)

-- .. of one state or more, the last of them first
abbrev pub TrailBack : {E : Type 0} → (E → E → List ℕ → Type 0) → (ℕ → ℕ → List ℕ → Type 0) → ℕ → ℕ → List E → Type 0
TrailBack safe between t0 t1 [] = ⊥
TrailBack safe between t0 t1 (e ∷ before) = TrailTo safe between t0 t1 e before

-- .. and the first of them first
pub record Trail {E : Type 0} (safe : E → E → List ℕ → Type 0) (between : ℕ → ℕ → List ℕ → Type 0) (t0 t1 : ℕ) (states : List E) : Type 0 where
  pub back : TrailBack safe between t0 t1 (reverse states)

-- A trail of two states or more that goes on: what may be left now, and may have been left since the last but one was reached,
-- also past the clock, is safe from that one to the last.
pub record Going {E : Type 0} (safe : E → E → List ℕ → Type 0) (between : ℕ → ℕ → List ℕ → Type 0) (images : List ℕ → Type 0) (t0 now : ℕ) (states : List E) : Type 0 where
  pub e : E
  pub next : E
  pub past : List E
  pub states_are : reverse states ≡ next ∷ e ∷ past
  pub begun : ℕ
  pub later : begun ≤ now
  pub before : TrailTo safe between t0 begun e past
  pub each : (t : ℕ) → EachBetween between begun t (safe e next)
  pub left : (x : List ℕ) → images x → safe e next x

-- ---- the states of a script's run

-- the state of the open file behind a step; the one before it where none is open
abbrev pub state_of : Editing → Option OpenFile → Editing
state_of e None = e
state_of e (Some file) = file.editing

abbrev pub state_behind : Editing → Edited → Editing
state_behind e step = state_of e step.desk.open_file

-- The states that n bytes of the answers show: those up to the one behind the last whole answer, and then the one to which the
-- next step leads, or the last one again where none is left. A step that says nothing shows none.
abbrev pub reached : ℕ → Editing → List Edited → List Editing
reached n e [] = e ∷ e ∷ []
reached n e (step ∷ left) =
    let size = length (text_of step.answer) in
    if size == 0 then reached n e left
    else if nat_le size n then e ∷ reached (n - size) (state_behind e step) left
    else e ∷ state_behind e step ∷ []

-- ---- a run over an open file

-- The trail of a run from t0 on, which goes on. Unless a fault of the disk broke the handle, this is at rest in a state in which
-- nothing is safe but what is so from the last state but one to the last.
pub record TrailsOn {D : Type 0} (d : Ghosts D) (t0 : ℕ) (handle : Handle D d) (states : List Editing) : Type 0 where
  pub going : Going IsSafe (d.left_between (handle_disk handle)) (d.may_leave (handle_disk handle)) t0 (d.state (handle_disk handle)).clock states
  pub rests : (handle_known handle).broken ≡ None → (e : Editing) × HandleAtRest d handle e × ((x : List ℕ) → IsSafe e e x → IsSafe going.e going.next x)

-- ---- one command, and a run of them

-- Unless its disk fails, the handle is at rest behind a command; and as before it where there is no memory.
abbrev pub RestsAt : {D T : Type 0} (d : Ghosts D) → Result T Stop → Editing → Editing → Handle D d → Type 0
RestsAt d (Ok x) e e' handle = HandleAtRest d handle e'
RestsAt d (Err stop.Sink) e e' handle = HandleAtRest d handle e'
RestsAt d (Err stop.Memory) e e' handle = HandleAtRest d handle e
RestsAt d (Err stopped) e e' handle = Unit {0}

-- from e to e', which has the parameters of e
pub record MovesSafely {D T : Type 0} (d : Ghosts D) (result : Result T Stop) (e e' : Editing) (old new : Handle D d) : Type 0 where
  pub leaves : LeavesEach d (handle_disk old) (handle_disk new) (IsSafe e e')
  pub rests : RestsAt d result e e' new
  pub params : handle_params new ≡ handle_params old

-- a command on an open file at rest, where updates are automatic before it or once it is carried out
abbrev pub StepMoves : {D T : Type 0} (d : Ghosts D) → List Gauge → Said → Result T Stop → Handle D d → Handle D d → Type 0
StepMoves d taps said result old new = IsAutomatic (rule_for taps old said) (handle_known old) → (e : Editing) → HandleAtRest d old e
    → MovesSafely d result e (edit_file (mode_of old) taps said e).editing old new

-- .. on one that is to stay open, where they are
abbrev pub CommandMoves : {D T : Type 0} (d : Ghosts D) → List Gauge → Bool → Said → Result T Stop → Handle D d → Handle D d → Type 0
CommandMoves d taps stays said result old new = stays ≡ true → (e : Editing) → e.automatic ≡ true → HandleAtRest d old e
    → MovesSafely d result e (edit_file pinned taps said e).editing old new

-- a file that stays open, by its name
abbrev pub pinned_file : List ℕ → List Gauge → Editing → OpenFile
pinned_file name taps e = record { name = name; mode = pinned; editing = e; taps = taps }

-- a whole line
abbrev pub LineMoves : {D T : Type 0} (d : Ghosts D) → List Gauge → Bool → List ℕ → Result T Stop → Handle D d → Handle D d → Type 0
LineMoves d taps stays line result old new = stays ≡ true → (store : Store) (name : List ℕ) (e : Editing) → e.automatic ≡ true → HandleAtRest d old e
    → MovesSafely d result e (state_behind e (edit_open_line line store (pinned_file name taps e))) old new

-- .. that says nothing leaves all as it was
abbrev pub IsIdle : {D : Type 0} {ghosts : Ghosts D} → List ℕ → Result Next Stop → Handle D ghosts → Handle D ghosts → Type 0
IsIdle line result old new = command_of line ≡ Ok None → (result ≡ Ok next.Open) × (new ≡ old)

-- lines up to where the run stops, behind a trail so far
abbrev pub TrailsOpen : {V : Type 0} {Z : V → Type 0} {D R O : Type 0} → TapMeter V Z → (d : Ghosts D) → SourceMeaning R → SinkMeaning O → Bool → Handle D d → Run V Z → R → O → Handle D d → O → Type 0
TrailsOpen meter d r o stays handle run script out handle' out' =
    stays ≡ true → (store : Store) (name : List ℕ) (e : Editing) (t0 : ℕ) (past : List Editing) (s t : List ℕ) → HandleAtRest d handle e → e.automatic ≡ true →
    TrailTo IsSafe (d.left_between (handle_disk handle)) t0 (d.state (handle_disk handle)).clock e past → r.left script ≡ Some s → o.told out ≡ Some t →
    let all = steps_left (open_desk store (pinned_file name (taps_of meter run) e)) (moment_of r.left o.told run script out) s in
    (sent : List ℕ) × (o.told out' ≡ Some (t ++ sent)) × TrailsOn d t0 handle' (reverse past ++ reached (length sent) e all)

-- .. behind the answer that a file was opened, and behind `auto on`
abbrev pub TrailsPinned : {V : Type 0} {Z : V → Type 0} {D R O : Type 0} → TapMeter V Z → (d : Ghosts D) → SourceMeaning R → SinkMeaning O → Handle D d → Run V Z → R → O → Handle D d → O → Type 0
TrailsPinned meter d r o handle run script out handle' out' =
    (store : Store) (name : List ℕ) (e : Editing) (s t : List ℕ) → HandleAtRest d handle e → r.left script ≡ Some s → o.told out ≡ Some t →
    let all = pinned_steps (opened_pinned store name (taps_of meter run) e) (lines_left (moment_of r.left o.told run script out) s) in
    (sent : List ℕ) × (o.told out' ≡ Some (t ++ sent)) × TrailsOn d (d.state (handle_disk handle)).clock handle' (reached (length sent) e all)

-- .. and the file is closed
abbrev pub TrailsClosed : {V : Type 0} {Z : V → Type 0} {D R O : Type 0} → TapMeter V Z → (d : Ghosts D) → SourceMeaning R → SinkMeaning O → Handle D d → Run V Z → R → O → D → O → Type 0
TrailsClosed meter d r o handle run script out disk out' =
    (store : Store) (name : List ℕ) (e : Editing) (s t : List ℕ) → HandleAtRest d handle e → r.left script ≡ Some s → o.told out ≡ Some t →
    let all = pinned_steps (opened_pinned store name (taps_of meter run) e) (lines_left (moment_of r.left o.told run script out) s) in
    (sent : List ℕ) × (o.told out' ≡ Some (t ++ sent)) × Trail IsSafe (d.left_between disk) (d.state (handle_disk handle)).clock (d.state disk).clock (reached (length sent) e all)

-- .. with its disk taken out, where a crash leaves its bytes alone and these are fit
abbrev pub TrailsDisk : {V : Type 0} {Z : V → Type 0} {D R O : Type 0} → TapMeter V Z → (d : Ghosts D) → SourceMeaning R → SinkMeaning O → D → Run V Z → R → O → D → O → Type 0
TrailsDisk meter d r o disk run script out disk' out' =
    (store : Store) (name b : List ℕ) (e : Editing) (s t : List ℕ) → Tells d.state disk b → IsStable d.state d.may_leave disk → updating_of b ≡ Ok e → IsFit e →
    r.left script ≡ Some s → o.told out ≡ Some t →
    let all = pinned_steps (opened_pinned store name (taps_of meter run) e) (lines_left (moment_of r.left o.told run script out) s) in
    (sent : List ℕ) × (o.told out' ≡ Some (t ++ sent)) × Trail IsSafe (d.left_between disk') (d.state disk).clock (d.state disk').clock (reached (length sent) e all)

-- .. on a shelf, where a crash leaves the bytes of the file alone
abbrev pub TrailsPinnedFile : {V : Type 0} {Z : V → Type 0} {S D R O : Type 0} → TapMeter V Z → ShelfMeaning S D → SourceMeaning R → SinkMeaning O → List ℕ → S → Run V Z → R → O → S → O → Type 0
TrailsPinnedFile meter s r o name shelf run script out shelf' out' =
    (store : Store) (b : List ℕ) (e : Editing) (text t : List ℕ) → TellsFiles s.state shelf store.files → store.files name ≡ Some b → ((x : List ℕ) → s.may_leave shelf name x → x ≡ b) →
    updating_of b ≡ Ok e → IsFit e → r.left script ≡ Some text → o.told out ≡ Some t →
    let all = pinned_steps (opened_pinned store name (taps_of meter run) e) (lines_left (moment_of r.left o.told run script out) text) in
    (sent : List ℕ) × (o.told out' ≡ Some (t ++ sent))
    × Trail IsSafe (s.left_between shelf' name) ((s.state shelf).clock name) ((s.state shelf').clock name) (reached (length sent) e all)

-- .. where there is such a file
abbrev pub TrailsRun : {V : Type 0} {Z : V → Type 0} {S D R O : Type 0} → TapMeter V Z → ShelfMeaning S D → SourceMeaning R → SinkMeaning O → Option (List ℕ) → S → Run V Z → R → O → S → O → Type 0
TrailsRun meter s r o (Some name) shelf run script out shelf' out' = TrailsPinnedFile meter s r o name shelf run script out shelf' out'
TrailsRun meter s r o None shelf run script out shelf' out' = Unit {0}

-- The whole script with a file that is updated automatically from the start: at each moment since then a crash leaves what is safe
-- between two states that follow each other, in their order; and by the bytes that were appended, the last of them are known.
abbrev pub TrailsScript : {S D R O : Type 0} → ShelfMeaning S D → SourceMeaning R → SinkMeaning O → List TapKind → Option (List ℕ) → S → R → O → S → O → Type 0
TrailsScript s r o kinds named shelf script out shelf' out' =
    (name : List ℕ) (files : Files) (b : List ℕ) (e : Editing) (text t : List ℕ) → named ≡ Some name → TellsFiles s.state shelf files → files name ≡ Some b →
    ((x : List ℕ) → s.may_leave shelf name x → x ≡ b) → updating_of b ≡ Ok e → IsFit e → r.left script ≡ Some text → o.told out ≡ Some t →
    (sent : List ℕ) × (o.told out' ≡ Some (t ++ sent))
    × Trail IsSafe (s.left_between shelf' name) ((s.state shelf).clock name) ((s.state shelf').clock name) (reached (length sent) e (auto_steps (stored files kinds) name text))
