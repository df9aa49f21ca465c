-- Which lines are left as a run goes on, and which files keep their images.
use Rattle.std.specs.Prelude.{◌≡◌, ℕ, List, ◌++◌, Bool, false, Option, Some, Result, Ok, Err, is_none}
use Rattle.std.specs.Str.{bytes_eq}
use Rattle.snd_disk.specs.Shelf.{Files}
use Rattle.snd_disk.specs.Shelves.{KeepsImagesOf, TellsFiles}
use Rattle.snd_disk.specs.declared.shelf.Shelf.{Ghosts as ShelfMeaning}
use Rattle.snd_disk.specs.declared.streams.Source.{Ghosts as SourceMeaning}
use Rattle.snd_script.specs.Lines.{Reading}
use Rattle.snd_rules.specs.Script.{any_writes, lines_within}
use Rattle.snd_script.specs.declared.open.OpenAs.{OpenAs}
use Rattle.snd_script.specs.declared.open.OpenAs.TheVariants as how
use Rattle.snd_script.specs.declared.run.Run.{Run}
use Rattle.snd_script.specs.declared.stop.Stop.{Stop}

-- the file of this name is opened to be written, or made
abbrev pub how_writes : OpenAs → List ℕ → List ℕ → Bool
how_writes how.Read name n = false
how_writes opening name n = bytes_eq n name

-- the lines that are left, where the source has the bytes s left
abbrev pub lines_to_serve : Reading → List ℕ → List (List ℕ)
lines_to_serve reading s = lines_within reading.room (reading.rest ++ s)

-- these are the last of all
abbrev pub IsTail : List (List ℕ) → List (List ℕ) → Type 0
IsTail all lines = (done : List (List ℕ)) × (all ≡ done ++ lines)

-- where a run goes on, the last lines are left
abbrev pub LeavesTail : {T : Type 0} → Result T Stop → List (List ℕ) → Reading → Option (List ℕ) → Type 0
LeavesTail (Ok x) all reading left = (s : List ℕ) × (left ≡ Some s) × IsTail all (lines_to_serve reading s)
LeavesTail (Err stop) all reading left = Unit {0}

-- ---- WHOLE OBJECTS. The arguments are the meanings of the shelf and of the source.

abbrev pub LeavesLines : {V : Type 0} {Z : V → Type 0} {R T : Type 0} → (R → Option (List ℕ)) → Result T Stop → Run V Z → R → Run V Z → R → Type 0
LeavesLines left result run script run' script' =
    (s : List ℕ) → left script ≡ Some s → LeavesTail result (lines_to_serve run.lines s) run'.lines (left script')

-- a file that is there and is not opened to be written keeps its images
abbrev pub KeepsUnless : {S D : Type 0} → ShelfMeaning S D → (List ℕ → Bool) → S → S → Type 0
KeepsUnless s writes shelf shelf' =
    (f : Files) (n : List ℕ) → TellsFiles s.state shelf f → is_none (f n) ≡ false → writes n ≡ false → KeepsImagesOf s.state s.may_leave s.left_between n shelf shelf'

-- .. by the lines that are left
abbrev pub KeepsByLines : {V : Type 0} {Z : V → Type 0} {S D R : Type 0} → ShelfMeaning S D → SourceMeaning R → S → Run V Z → R → S → Type 0
KeepsByLines s r shelf run script shelf' =
    (b : List ℕ) → r.left script ≡ Some b → KeepsUnless s (any_writes (lines_to_serve run.lines b)) shelf shelf'
