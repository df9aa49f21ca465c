-- How a run with one file that is updated automatically and stays open gets there.
use Rattle.std.specs.Prelude.{◌≡◌, ◌+◌, ℕ, List, Bool, true, false, ◌&&◌, Option, None, Some, Result, Err, option_map}
use Rattle.std.specs.Borrow.{Bor}
use Rattle.snd_command.specs.Said.{Said}
use Rattle.snd_disk.specs.Device.{Tells}
use Rattle.snd_disk.specs.Shelf.{ShelfState}
use Rattle.snd_disk.specs.State.{AtMost, State}
use Rattle.snd_disk.specs.declared.disk.Disk.{Ghosts}
use Rattle.snd_disk.specs.declared.shelf.Shelf.{Ghosts as ShelfMeaning}
use Rattle.snd_disk.specs.declared.streams.Source.{Ghosts as SourceMeaning}
use Rattle.snd_meters.specs.Gauge.{Gauge}
use Rattle.snd_edits.specs.Editing.{Editing}
use Rattle.snd_rules.specs.Desk.{Desk, Store, closed_desk, pinned}
use Rattle.snd_rules.specs.Edit.{Edited, Opening, open_edit_of, opened_as, opened_edit}
use Rattle.snd_session.specs.Handled.{HandleStands, handle_disk}
use Rattle.snd_script.specs.Kept.{KeepsUnless, lines_to_serve}
use Rattle.snd_rules.specs.Pinned.{pinned_opening, pinned_steps, pins, run_asks, run_puts, run_writes}
use Rattle.snd_rules.specs.Script.{asked_by, most_in, written_in}
use Rattle.snd_script.specs.Served.{HasFiles, HasStore}
use Rattle.snd_script.specs.Serving.{DiskStands, IsStopped, Moment, OpenStands, ShelfStands, is_longer, lines_left, moment_of, steps_left}
use Rattle.snd_session.specs.Tapped.{TapMeter}
use Rattle.snd_script.specs.Tapped.{taps_of}
use Rattle.snd_script.specs.Used.{use_left}
use Rattle.snd_session.specs.declared.handle.Handle.{Handle}
use Rattle.snd_script.specs.declared.run.Run.{Run}
use Rattle.snd_script.specs.declared.stop.Stop.{Stop}

-- the run stops in this way, behind an opening that is still to be answered
abbrev pub IsPinnedStop : Stop → Edited → Store → Moment → List ℕ → Moment → ((List ℕ → Bool) → Desk → Type 0) → Type 0
IsPinnedStop stop opened store m s m' stands = IsStopped stop (pins opened && is_longer m s) (pinned_steps opened (lines_left m s)) (closed_desk store) m m' stands

-- ---- WHOLE OBJECTS. The first arguments are the meanings of the shelf or the disk, of the source and of the sink.

-- with the file of a name on the shelf, where the shelf has these files and the source tells its bytes
abbrev pub StopsPinned : {V : Type 0} {Z : V → Type 0} {S R O : Type 0} → TapMeter V Z → (S → ShelfState) → (R → Option (List ℕ)) → (O → Option (List ℕ)) → List ℕ → Stop → S → Run V Z → R → O → S → Run V Z → R → O → Type 0
StopsPinned meter state left told name stop shelf run script out shelf' run' script' out' =
    (store : Store) (s : List ℕ) → HasStore state shelf (taps_of meter run) store → left script ≡ Some s →
    IsPinnedStop stop (pinned_opening store name) store (moment_of left told run script out) s (moment_of left told run' script' out') (ShelfStands state shelf' (taps_of meter run'))

-- .. with its disk taken out
abbrev pub StopsDisk : {V : Type 0} {Z : V → Type 0} {D R O : Type 0} → TapMeter V Z → (D → State) → (R → Option (List ℕ)) → (O → Option (List ℕ)) → List ℕ → Stop → D → Run V Z → R → O → D → Run V Z → R → O → Type 0
StopsDisk meter state left told name stop disk run script out disk' run' script' out' =
    (store : Store) (b s : List ℕ) → Tells state disk b → store.files name ≡ Some b → store.taps ≡ taps_of meter run → left script ≡ Some s →
    IsPinnedStop stop (open_edit_of store name Opening.for_pinning (opened_as Opening.for_pinning b)) store (moment_of left told run script out) s
    (moment_of left told run' script' out') (DiskStands state store name (taps_of meter run') disk')

-- .. with it open, and closed at the end
abbrev pub opened_pinned : Store → List ℕ → List Gauge → Editing → Edited
opened_pinned store name taps e = opened_edit store (record { name = name; mode = pinned; editing = e; taps = taps })

abbrev pub StopsClosed : {V : Type 0} {Z : V → Type 0} {D R O : Type 0} {ghosts : Ghosts D} → TapMeter V Z → (D → State) → (R → Option (List ℕ)) → (O → Option (List ℕ)) → List ℕ → Stop → Handle D ghosts → Run V Z → R → O → D → Run V Z → R → O → Type 0
StopsClosed meter state left told name stop handle run script out disk' run' script' out' =
    (store : Store) (e : Editing) (s : List ℕ) → HandleStands state handle e → left script ≡ Some s →
    IsPinnedStop stop (opened_pinned store name (taps_of meter run) e) store (moment_of left told run script out) s (moment_of left told run' script' out') (DiskStands state store name (taps_of meter run') disk')

-- .. or still open
abbrev pub StopsOpen : {V : Type 0} {Z : V → Type 0} {D R O : Type 0} {ghosts : Ghosts D} → TapMeter V Z → (D → State) → (R → Option (List ℕ)) → (O → Option (List ℕ)) → List ℕ → Stop → Handle D ghosts → Run V Z → R → O → Handle D ghosts → Run V Z → R → O → Type 0
StopsOpen meter state left told name stop handle run script out handle' run' script' out' =
    (store : Store) (e : Editing) (s : List ℕ) → HandleStands state handle e → left script ≡ Some s →
    IsPinnedStop stop (opened_pinned store name (taps_of meter run) e) store (moment_of left told run script out) s (moment_of left told run' script' out') (OpenStands state store name true (taps_of meter run') handle')

-- the run stops, as a result
abbrev pub stopped : Stop → Result (Unit {0}) Stop
stopped stop = Err stop

-- at most so many bytes are used, and what the lines that are left may
abbrev pub UsesPinned : {V : Type 0} {Z : V → Type 0} {X R : Type 0} → (X → ℕ) → (R → Option (List ℕ)) → (Said → ℕ) → ℕ → X → Run V Z → R → X → Type 0
UsesPinned count left most hand x run script x' = (s : List ℕ) → left script ≡ Some s → AtMost (count x) (hand + use_left most run.lines s) (count x')

-- .. of a disk, of one that a handle holds, up to when it has come back, and of a shelf
abbrev pub PinnedAsks : {V : Type 0} {Z : V → Type 0} {D R : Type 0} (d : Ghosts D) → SourceMeaning R → ℕ → D → Run V Z → R → D → Type 0
PinnedAsks d r hand disk run script disk' = UsesPinned (λ x. (d.state x).asked) r.left (most_in true asked_by) hand disk run script disk'

abbrev pub PinnedWrites : {V : Type 0} {Z : V → Type 0} {D R : Type 0} (d : Ghosts D) → SourceMeaning R → ℕ → D → Run V Z → R → D → Type 0
PinnedWrites d r hand disk run script disk' = UsesPinned (λ x. (d.state x).written) r.left (written_in true) hand disk run script disk'

abbrev pub ClosedAsks : {V : Type 0} {Z : V → Type 0} {D R : Type 0} (d : Ghosts D) → SourceMeaning R → ℕ → Handle D d → Run V Z → R → D → Type 0
ClosedAsks d r hand handle run script disk = PinnedAsks d r hand (handle_disk handle) run script disk

abbrev pub ClosedWrites : {V : Type 0} {Z : V → Type 0} {D R : Type 0} (d : Ghosts D) → SourceMeaning R → ℕ → Handle D d → Run V Z → R → D → Type 0
ClosedWrites d r hand handle run script disk = PinnedWrites d r hand (handle_disk handle) run script disk

abbrev pub OpenAsks : {V : Type 0} {Z : V → Type 0} {D R : Type 0} (d : Ghosts D) → SourceMeaning R → ℕ → Handle D d → Run V Z → R → Handle D d → Type 0
OpenAsks d r hand handle run script handle' = ClosedAsks d r hand handle run script (handle_disk handle')

abbrev pub OpenWrites : {V : Type 0} {Z : V → Type 0} {D R : Type 0} (d : Ghosts D) → SourceMeaning R → ℕ → Handle D d → Run V Z → R → Handle D d → Type 0
OpenWrites d r hand handle run script handle' = ClosedWrites d r hand handle run script (handle_disk handle')

abbrev pub ShelfAsks : {V : Type 0} {Z : V → Type 0} {S D R : Type 0} → ShelfMeaning S D → SourceMeaning R → ℕ → S → Run V Z → R → S → Type 0
ShelfAsks s r hand shelf run script shelf' = UsesPinned (λ x. (s.state x).asked) r.left (most_in true asked_by) hand shelf run script shelf'

abbrev pub ShelfWrites : {V : Type 0} {Z : V → Type 0} {S D R : Type 0} → ShelfMeaning S D → SourceMeaning R → ℕ → S → Run V Z → R → S → Type 0
ShelfWrites s r hand shelf run script shelf' = UsesPinned (λ x. (s.state x).written) r.left (written_in true) hand shelf run script shelf'

-- nothing is taken of the script where one of the two commands is refused
abbrev pub UnreadPinned : {S R : Type 0} → (S → ShelfState) → List ℕ → S → R → R → Type 0
UnreadPinned state name shelf script script' = (store : Store) → HasFiles state shelf store.files → pins (pinned_opening store name) ≡ false → script' ≡ script

abbrev pub UnreadDisk : {D R : Type 0} → (D → State) → D → R → R → Type 0
UnreadDisk state disk script script' =
    (store : Store) (name b : List ℕ) → Tells state disk b → pins (open_edit_of store name Opening.for_pinning (opened_as Opening.for_pinning b)) ≡ false → script' ≡ script

abbrev pub UnreadOpen : {D R : Type 0} {ghosts : Ghosts D} → (D → State) → Handle D ghosts → R → R → Type 0
UnreadOpen state handle script script' =
    (store : Store) (name : List ℕ) (taps : List Gauge) (e : Editing) → HandleStands state handle e → pins (opened_pinned store name taps e) ≡ false → script' ≡ script

-- ---- a run with such a file, or without one

-- its name
abbrev pub named : Option (Bor (List ℕ)) → Option (List ℕ)
named name = option_map (λ n. n.now) name

-- the steps that the lines left make, and whether the script is too long
abbrev pub run_left : Option (List ℕ) → Store → Moment → List ℕ → List Edited
run_left None store m s = steps_left (closed_desk store) m s
run_left (Some name) store m s = pinned_steps (pinned_opening store name) (lines_left m s)

abbrev pub run_longer : Option (List ℕ) → Store → Moment → List ℕ → Bool
run_longer None store m s = is_longer m s
run_longer (Some name) store m s = pins (pinned_opening store name) && is_longer m s

abbrev pub StopsRun : {V : Type 0} {Z : V → Type 0} {S R O : Type 0} → TapMeter V Z → (S → ShelfState) → (R → Option (List ℕ)) → (O → Option (List ℕ)) → Option (List ℕ) → Stop → S → Run V Z → R → O → S → Run V Z → R → O → Type 0
StopsRun meter state left told name stop shelf run script out shelf' run' script' out' =
    (store : Store) (s : List ℕ) → HasStore state shelf (taps_of meter run) store → left script ≡ Some s →
    let m = moment_of left told run script out in
    IsStopped stop (run_longer name store m s) (run_left name store m s) (closed_desk store) m (moment_of left told run' script' out') (ShelfStands state shelf' (taps_of meter run'))

-- a file that may not be written keeps its images
abbrev pub KeepsInRun : {V : Type 0} {Z : V → Type 0} {S D R : Type 0} → ShelfMeaning S D → SourceMeaning R → Option (List ℕ) → S → Run V Z → R → S → Type 0
KeepsInRun s r name shelf run script shelf' =
    (b : List ℕ) → r.left script ≡ Some b → KeepsUnless s (run_writes name (lines_to_serve run.lines b)) shelf shelf'

-- the bytes that are asked of the disks, and written
abbrev pub BoundsRun : {V : Type 0} {Z : V → Type 0} {S D R : Type 0} → ShelfMeaning S D → SourceMeaning R → Option (List ℕ) → S → Run V Z → R → S → Type 0
BoundsRun s r name shelf run script shelf' =
    (b : List ℕ) → r.left script ≡ Some b →
    AtMost (s.state shelf).asked (run_asks name (lines_to_serve run.lines b)) (s.state shelf').asked
    × AtMost (s.state shelf).written (run_puts name (lines_to_serve run.lines b)) (s.state shelf').written
