-- How many bytes a run uses of the disks: asks of them, or writes on them.
use Rattle.std.specs.Prelude.{◌≡◌, ℕ, ◌+◌, ◌≤◌, List, ◌++◌, Bool, Option, Some, Result, Ok, Err}
use Rattle.snd_command.specs.Said.{Said}
use Rattle.snd_command.specs.declared.refusal.ScriptRefusal.{ScriptRefusal}
use Rattle.snd_disk.specs.State.{AtMost}
use Rattle.snd_disk.specs.declared.disk.Disk.{Ghosts}
use Rattle.snd_disk.specs.declared.shelf.Shelf.{Ghosts as ShelfMeaning}
use Rattle.snd_disk.specs.declared.streams.Source.{Ghosts as SourceMeaning}
use Rattle.snd_session.specs.Handled.{handle_disk}
use Rattle.snd_script.specs.Lines.{Reading}
use Rattle.snd_rules.specs.Script.{asked_by, by_command, by_lines, lines_within, most_in, written_by, written_in}
use Rattle.snd_session.specs.declared.handle.Handle.{Handle}
use Rattle.snd_script.specs.declared.open.OpenAs.{OpenAs}
use Rattle.snd_script.specs.declared.open.OpenAs.TheVariants as how
use Rattle.snd_script.specs.declared.run.Run.{Run}
use Rattle.snd_script.specs.declared.stop.Next.{Next}
use Rattle.snd_script.specs.declared.stop.Next.TheVariants as next
use Rattle.snd_script.specs.declared.stop.Stop.{Stop}

-- bytes asked to open a file, and written to make one
abbrev pub most_asked : OpenAs → ℕ
most_asked (how.Make kind params) = 0
most_asked opening = 16384

-- what the lines that are left may use, where the source has the bytes s left
abbrev pub use_left : (Said → ℕ) → Reading → List ℕ → ℕ
use_left most reading s = by_lines most (lines_within reading.room (reading.rest ++ s))

-- Where a run goes on, what it has used, what it owes and what the lines that are left may use stay within what there was;
-- where it stops, it may use so many more.
abbrev pub IsWithin : {T : Type 0} → Result T Stop → (Said → ℕ) → ℕ → ℕ → ℕ → Reading → Option (List ℕ) → ℕ → Type 0
IsWithin (Ok x) most owed over all reading left new = (s : List ℕ) × (left ≡ Some s) × (new + owed + use_left most reading s ≤ all)
IsWithin (Err stop) most owed over all reading left new = new ≤ all + over

-- .. with so many in hand for a line that came
pub record Uses {T : Type 0} (result : Result T Stop) (most : Said → ℕ) (hand owed over : ℕ) (before : Reading) (s : List ℕ) (after : Reading) (left : Option (List ℕ)) (old new : ℕ) : Type 0 where
  pub later : old ≤ new
  pub within : IsWithin result most owed over (old + hand + use_left most before s) after left new

-- one line while a file is open: where the file is to be closed, that is owed
abbrev pub IsLineWithin : Result Next Stop → ℕ → ℕ → ℕ → Type 0
IsLineWithin (Ok next.Close) owed all new = new + owed ≤ all
IsLineWithin result owed all new = new ≤ all

pub record LineUses (result : Result Next Stop) (owed hand old new : ℕ) : Type 0 where
  pub later : old ≤ new
  pub within : IsLineWithin result owed (old + hand) new

-- ---- WHOLE OBJECTS. The first argument is what is counted of a shelf or a disk, and the second what a source has left; or
-- these are their meanings.

-- lines are served with no file open, behind one for which so much is in hand; the open file is closed where the run stops
abbrev pub UsesOn : {V : Type 0} {Z : V → Type 0} {X R T : Type 0} → (X → ℕ) → (R → Option (List ℕ)) → Result T Stop → (Said → ℕ) → ℕ → X → Run V Z → R → X → Run V Z → R → Type 0
UsesOn count left result most hand x run script x' run' script' =
    (s : List ℕ) → left script ≡ Some s → Uses result most hand 0 (most Said.close) run.lines s run'.lines (left script') (count x) (count x')

-- .. with a file open, which is closed
abbrev pub UsesClosed : {V : Type 0} {Z : V → Type 0} {D R T : Type 0} {ghosts : Ghosts D} → (D → ℕ) → (R → Option (List ℕ)) → Result T Stop → (Said → ℕ) → Handle D ghosts → Run V Z → R → D → Run V Z → R → Type 0
UsesClosed count left result most handle run script disk run' script' = UsesOn count left result most 0 (handle_disk handle) run script disk run' script'

-- .. or is still to be closed
abbrev pub UsesOpen : {V : Type 0} {Z : V → Type 0} {D R T : Type 0} {ghosts : Ghosts D} → (D → ℕ) → (R → Option (List ℕ)) → Result T Stop → (Said → ℕ) → Handle D ghosts → Run V Z → R → Handle D ghosts → Run V Z → R → Type 0
UsesOpen count left result most handle run script handle' run' script' =
    (s : List ℕ) → left script ≡ Some s → Uses result most 0 (most Said.close) 0 run.lines s run'.lines (left script') (count (handle_disk handle)) (count (handle_disk handle'))

-- .. for one line
abbrev pub HandleUses : {D : Type 0} {ghosts : Ghosts D} → (D → ℕ) → Result Next Stop → (Said → ℕ) → ℕ → Handle D ghosts → Handle D ghosts → Type 0
HandleUses count result most hand handle handle' = LineUses result (most Said.close) hand (count (handle_disk handle)) (count (handle_disk handle'))

-- .. which says this command; the flag is whether the file is to stay open
abbrev pub CommandAsks : {D : Type 0} (d : Ghosts D) → Bool → Result Next Stop → Said → Handle D d → Handle D d → Type 0
CommandAsks d stays result said handle handle' = HandleUses (λ x. (d.state x).asked) result (most_in stays asked_by) (most_in stays asked_by said) handle handle'

abbrev pub CommandWrites : {D : Type 0} (d : Ghosts D) → Bool → Result Next Stop → Said → Handle D d → Handle D d → Type 0
CommandWrites d stays result said handle handle' = HandleUses (λ x. (d.state x).written) result (written_in stays) (written_in stays said) handle handle'

-- .. or is answered so
abbrev pub LineAsks : {D : Type 0} (d : Ghosts D) → Bool → Result Next Stop → Result (Option Said) ScriptRefusal → Handle D d → Handle D d → Type 0
LineAsks d stays result answer handle handle' = HandleUses (λ x. (d.state x).asked) result (most_in stays asked_by) (by_command (most_in stays asked_by) answer) handle handle'

abbrev pub LineWrites : {D : Type 0} (d : Ghosts D) → Bool → Result Next Stop → Result (Option Said) ScriptRefusal → Handle D d → Handle D d → Type 0
LineWrites d stays result answer handle handle' = HandleUses (λ x. (d.state x).written) result (written_in stays) (by_command (written_in stays) answer) handle handle'

-- .. up to where the run stops: the bytes that are asked of the disks, and written, have a bound for each line that is left
abbrev pub BoundsLines : {V : Type 0} {Z : V → Type 0} {S D R : Type 0} → ShelfMeaning S D → SourceMeaning R → S → Run V Z → R → S → Type 0
BoundsLines s r shelf run script shelf' =
    (b : List ℕ) → r.left script ≡ Some b →
    AtMost (s.state shelf).asked (use_left asked_by run.lines b) (s.state shelf').asked
    × AtMost (s.state shelf).written (use_left written_by run.lines b + 2112) (s.state shelf').written
