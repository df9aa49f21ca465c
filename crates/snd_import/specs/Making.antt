-- How the output is made of what a disk holds, and how that is judged. The first argument is what is known of a disk, or of a shelf.
use Rattle.std.specs.Prelude.{◌≡◌, ℕ, ◌+◌, List, Option, None, Some, Result, Ok, Err, IfOk, OnOk, false, length}
use Rattle.snd_disk.specs.declared.disk.Disk.{Ghosts}
use Rattle.snd_disk.specs.declared.shelf.Shelf.{Ghosts as ShelfMeaning}
use Rattle.snd_disk.specs.Device.{Tells}
use Rattle.snd_inputs.specs.Looking.{ReadsFiles}
use Rattle.snd_inputs.specs.Opening.{IsHandedOut}
use Rattle.snd_output.specs.declared.stop.Stop.{Stop}
use Rattle.snd_disk.specs.Shelf.{Files, ShelfState, put}
use Rattle.snd_disk.specs.Shelves.{TellsFiles}
use Rattle.snd_disk.specs.State.{AtMost, State}
use Rattle.snd_layout.specs.Params.{Parameters}
use Rattle.snd_layout.specs.declared.kind.Kind.{Kind}
use Rattle.snd_tools.specs.Shelves.{HasFiles, IsDone}
use Rattle.snd_tools.specs.declared.answer.Answer.{Answer}
use Rattle.snd_words.specs.declared.raw.Importation.{Importation}
use Rattle.snd_import.specs.Import.{file_made, made_from, made_in, params_for, source_in}
use Rattle.snd_import.specs.declared.source.Source.{Source}

-- how many bytes a file has, where there is one
abbrev pub size_there : Option (List ℕ) → ℕ
size_there None = 0
size_there (Some b) = length b

-- Where the shelf tells its files, no more bytes are asked than the file of a name has, and 64.
abbrev pub AsksOnce : {S : Type 0} → (S → ShelfState) → List ℕ → S → S → Type 0
AsksOnce state name old new = (files : Files) → TellsFiles state old files → AtMost (state old).asked (size_there (files name) + 64) (state new).asked

-- The file of a name was handed out, or it is missing and nothing has changed; or a call has failed, and nothing has either.
abbrev pub TakesInput : {S D : Type 0} (s : ShelfMeaning S D) (d : Ghosts D) → List ℕ → S → S → Result (Option D) Stop → Type 0
TakesInput s d name old new (Ok (Some disk)) = IsHandedOut s d name false old new disk
TakesInput s d name old new (Ok None) = ReadsFiles s old new × ((files : Files) → TellsFiles s.state old files → files name ≡ None)
TakesInput s d name old new (Err stop) = ReadsFiles s old new

-- Where both disks tell what they hold, one becomes what is made of the other; or the file of a name does.
abbrev pub Makes : {D E : Type 0} → (D → State) → (E → State) → Kind → Parameters → Source → D → E → E → Type 0
Makes state state' kind p s disk old new = (b c : List ℕ) → Tells state disk b → Tells state' old c → Tells state' new (file_made kind p s b)

abbrev pub MakesUnder : {D S T R : Type 0} → (D → State) → (S → ShelfState) → List ℕ → Kind → Parameters → Source → D → S → S → Result T R → Type 0
MakesUnder state shelf_state output kind p s disk old new result =
    OnOk result ((files : Files) (b : List ℕ) → TellsFiles shelf_state old files → Tells state disk b → HasFiles shelf_state new (put files output (Some (file_made kind p s b))))

-- What is to be done with a source is done; or with the file on a disk.
abbrev pub DoesSource : {D S R : Type 0} → (D → State) → (S → ShelfState) → Importation → Kind → Source → D → S → S → Result Answer R → Type 0
DoesSource state shelf_state importation kind s disk old new result =
    IfOk result (λ answer. (files : Files) (b : List ℕ) → TellsFiles shelf_state old files → Tells state disk b
    → IsDone shelf_state new answer (made_in importation.output.now kind s b (params_for kind s.params)) files)

abbrev pub DoesFile : {D S R : Type 0} → (D → State) → (S → ShelfState) → Importation → Kind → D → S → S → Result Answer R → Type 0
DoesFile state shelf_state importation kind disk old new result =
    IfOk result (λ answer. (files : Files) (b : List ℕ) → TellsFiles shelf_state old files → Tells state disk b
    → IsDone shelf_state new answer (made_from importation.input.now importation.output.now kind b (source_in importation.form b)) files)
