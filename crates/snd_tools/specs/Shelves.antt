-- How a tool leaves a shelf. The first argument is what is known of the shelf, or its whole meaning.
use Rattle.std.specs.Prelude.{◌≡◌, ◌⊎◌, ℕ, ◌≤◌, List, false, Result, Ok, Err, is_none}
use Rattle.std.specs.Str.{bytes_eq}
use Rattle.snd_disk.specs.State.{GoesOn, Rises}
use Rattle.snd_disk.specs.Shelf.{Files, ShelfState}
use Rattle.snd_disk.specs.Shelves.{KeepsImagesOf, TellsFiles}
use Rattle.snd_disk.specs.declared.shelf.Shelf.{Ghosts as ShelfMeaning}
use Rattle.snd_output.specs.Ends.{IfChanged}
use Rattle.snd_output.specs.declared.stop.Stop.{Stop}
use Rattle.snd_output.specs.declared.stop.Stop.TheVariants.{Changed, Fault, Memory}
use Rattle.snd_tools.specs.declared.answer.Answer.{Answer}
use Rattle.snd_tools.specs.Done.{Done, files_after, said_by, said_of}

-- no name is taken out
abbrev pub IsAllIn : ShelfState → Type 0
IsAllIn shelf = (n : List ℕ) → shelf.out n ≡ false

-- a shelf tells these files, whatever function tells them
abbrev pub HasFiles : {S : Type 0} → (S → ShelfState) → S → Files → Type 0
HasFiles state shelf files = (f : Files) × TellsFiles state shelf f × ((n : List ℕ) → f n ≡ files n)

-- The answer says what is to be done with some files, and a shelf has what that leaves.
abbrev pub IsDone : {S : Type 0} → (S → ShelfState) → S → Answer → Done → Files → Type 0
IsDone state shelf answer todo files = (said_by answer ≡ said_of todo) × HasFiles state shelf (files_after todo files)

-- So it is with the files that the shelf told.
abbrev pub Does : {S : Type 0} → (S → ShelfState) → (Files → Done) → S → S → Result Answer Stop → Type 0
Does state todo old new (Ok answer) = (files : Files) → TellsFiles state old files → IsDone state new answer (todo files) files
Does state todo old new (Err stop) = Unit {0}

-- No file is said to have changed where the shelf tells its files.
abbrev pub NeverChanged : {S T : Type 0} → (S → ShelfState) → S → Result T Stop → Type 0
NeverChanged state old result = IfChanged ((files : Files) → TellsFiles state old files → ⊥) result

-- Whatever came of it, each disk is back, and only the file of one name has changed: time has gone on for it, and it is not gone.
pub record ChangesOne {S D : Type 0} (s : ShelfMeaning S D) (name : List ℕ) (old new : S) : Type 0 where
  pub back : (n : List ℕ) → (s.state new).out n ≡ (s.state old).out n
  pub files : (f : Files) → TellsFiles s.state old f → (f' : Files) × TellsFiles s.state new f' × ((n : List ℕ) → bytes_eq n name ≡ false → f' n ≡ f n)
      × (is_none (f name) ≡ false → is_none (f' name) ≡ false)
  pub time : (f : Files) → TellsFiles s.state old f → is_none (f name) ≡ false
      → GoesOn ((s.state old).clock name) ((s.state new).clock name) (s.left_between old name) (s.left_between new name)
  pub others : (f : Files) (n : List ℕ) → TellsFiles s.state old f → is_none (f n) ≡ false → bytes_eq n name ≡ false
      → KeepsImagesOf s.state s.may_leave s.left_between n old new

-- Of two counts of faults one rises where the answer is a fault, and there alone.
abbrev pub CountsOneOf : {T : Type 0} → ℕ → ℕ → ℕ → ℕ → Result T Stop → Type 0
CountsOneOf old new old' new' (Ok done) = (new ≡ old) × (new' ≡ old')
CountsOneOf old new old' new' (Err Fault) = (old ≤ new) × (old' ≤ new') × (Rises old new ⊎ Rises old' new')
CountsOneOf old new old' new' (Err Memory) = (new ≡ old) × (new' ≡ old')
CountsOneOf old new old' new' (Err Changed) = (new ≡ old) × (new' ≡ old')
