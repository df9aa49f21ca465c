-- How the output is made of an open file, or of what lies on a disk, and how that is judged. It is said for the proofs alone. The
-- first arguments are what is known of disks, or of a shelf.
use Rattle.std.specs.Prelude.{ℕ, ◌+◌, ◌*◌, List, [], Option, None, Some, Result, IfOk, OnOk, length}
use Rattle.snd_disk.specs.declared.disk.Disk.{Ghosts}
use Rattle.snd_disk.specs.Device.{Tells}
use Rattle.snd_disk.specs.Shelf.{Files, ShelfState, put}
use Rattle.snd_disk.specs.Shelves.{TellsFiles}
use Rattle.snd_disk.specs.State.{AtMost, State}
use Rattle.snd_blocks.specs.Sound.{frames_in}
use Rattle.snd_layout.specs.Params.{Parameters}
use Rattle.snd_layout.specs.Shape.{Shape}
use Rattle.snd_layout.specs.declared.kind.Kind.TheVariants.{Wave}
use Rattle.snd_file.specs.declared.handle.File.{File}
use Rattle.snd_edits.specs.declared.mode.Mode.{Ghosts as ModeGhosts}
use Rattle.snd_edits.specs.Editing.{Editing}
use Rattle.snd_file.specs.Handle.{Stands}
use Rattle.snd_output.specs.Made.{IsMaking, made_file}
use Rattle.snd_output.specs.Widths.{joined}
use Rattle.snd_tools.specs.Shelves.{HasFiles, IsDone}
use Rattle.snd_tools.specs.declared.answer.Answer.{Answer}
use Rattle.snd_search.specs.Sought.{counted, sought_in}
use Rattle.snd_salvage.specs.Salvage.{made_from, made_with}

-- a WAVE file of the frames of an open file, and without further chunks
abbrev pub file_made : Editing → List ℕ
file_made e = made_file Wave e.shape.params [] (joined e.frames)

-- Where both disks tell what they hold, a file that was begun then holds all numbers of the other.
abbrev pub Fills : {D E M N : Type 0} {d : Ghosts D} {t : Ghosts E} {m : ModeGhosts M} {n : ModeGhosts N}
    → (D → State) → (E → State) → File D M d m → File E N t n → File E N t n → Type 0
Fills state state' from old new =
    (p : Parameters) (r e : Editing) → Stands state from r → Stands state' old e → IsMaking Wave p [] [] e
    → (e' : Editing) × Stands state' new e' × IsMaking Wave p [] (joined r.frames) e'

-- Where both disks tell what they hold, one becomes that; or the file of a name does.
abbrev pub Makes : {D M E : Type 0} {d : Ghosts D} {m : ModeGhosts M} → (D → State) → (E → State) → File D M d m → E → E → Type 0
Makes state state' file old new = (b : List ℕ) (e : Editing) → Tells state' old b → Stands state file e → Tells state' new (file_made e)

abbrev pub MakesUnder : {D M S T E : Type 0} {d : Ghosts D} {m : ModeGhosts M}
    → (D → State) → (S → ShelfState) → List ℕ → File D M d m → S → S → Result T E → Type 0
MakesUnder state shelf_state output file old new result =
    OnOk result ((files : Files) (e : Editing) → TellsFiles shelf_state old files → Stands state file e
    → HasFiles shelf_state new (put files output (Some (file_made e))))

-- What is answered is what is to be done with an open file, or with the file on a disk by its layout, and that is done.
abbrev pub DoesFile : {D M S E : Type 0} {d : Ghosts D} {m : ModeGhosts M}
    → (D → State) → (S → ShelfState) → List ℕ → File D M d m → S → S → Result Answer E → Type 0
DoesFile state shelf_state output file old new result =
    IfOk result (λ answer. (files : Files) (e : Editing) → TellsFiles shelf_state old files → Stands state file e
    → IsDone shelf_state new answer (made_with output e.shape.params e.shape.frames (joined e.frames)) files)

abbrev pub DoesLaid : {D S E : Type 0} → (D → State) → (S → ShelfState) → List ℕ → D → Shape → S → S → Result Answer E → Type 0
DoesLaid state shelf_state output disk h old new result =
    IfOk result (λ answer. (files : Files) (b : List ℕ) → TellsFiles shelf_state old files → Tells state disk b
    → IsDone shelf_state new answer (made_with output h.params h.frames (joined (frames_in b h))) files)

-- .. with what is found on it
abbrev pub DoesDisk : {D S E : Type 0} → (D → State) → (S → ShelfState) → List ℕ → List ℕ → D → S → S → Result Answer E → Type 0
DoesDisk state shelf_state input output disk old new result =
    IfOk result (λ answer. (files : Files) (b : List ℕ) → TellsFiles shelf_state old files → Tells state disk b
    → IsDone shelf_state new answer (made_from input output (sought_in (counted b))) files)

-- how many bytes a file has, where there is one
abbrev pub size_there : Option (List ℕ) → ℕ
size_there None = 0
size_there (Some b) = length b

-- Where the shelf tells its files, no more bytes are asked than twenty times those of the file of a name, and 16384.
abbrev pub AsksToSalvage : {S : Type 0} → (S → ShelfState) → List ℕ → S → S → Type 0
AsksToSalvage state name old new =
    (files : Files) → TellsFiles state old files → AtMost (state old).asked (20 * size_there (files name) + 16384) (state new).asked
