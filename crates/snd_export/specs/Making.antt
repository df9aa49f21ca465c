-- How the file is made, and what is judged before, as the code does it. It is said for the proofs alone.
use Rattle.std.specs.Prelude.{◌≡◌, ℕ, ◌+◌, List, [], ◌++◌, Some, Result, IfOk, length}
use Rattle.snd_disk.specs.Device.{AsksAtMost, Tells}
use Rattle.snd_disk.specs.Shelf.{Files, ShelfState, put}
use Rattle.snd_disk.specs.Shelves.{TellsFiles}
use Rattle.snd_disk.specs.State.{State}
use Rattle.snd_vox.specs.Vox.{vox_start}
use Rattle.snd_inputs.specs.Copying.{bytes_checked, bytes_to_copy}
use Rattle.snd_layout.specs.Shape.{Shape}
use Rattle.snd_edits.specs.Editing.{first_editing}
use Rattle.snd_output.specs.Ends.{CountsOneOf, IfChanged}
use Rattle.snd_output.specs.declared.stop.Stop.{Stop}
use Rattle.snd_tools.specs.Shelves.{HasFiles, IsDone}
use Rattle.snd_tools.specs.declared.answer.Answer.{Answer}
use Rattle.snd_words.specs.declared.raw.ExportForm.{ExportForm}
use Rattle.snd_words.specs.declared.raw.Exportation.{Exportation}
use Rattle.snd_export.specs.Coding.{bytes_by, numbers_at}
use Rattle.snd_export.specs.Export.{bytes_made, exported_file, exported_good}
use Rattle.snd_export.specs.declared.target.Target.{Target}

-- ---- two disks

-- of their counts of faults one rises where the answer is a fault
abbrev pub CountsDisks : {D E T : Type 0} → (D → State) → (E → State) → D → D → E → E → Result T Stop → Type 0
CountsDisks state state' from from' to to' result = CountsOneOf (state from).faults (state from').faults (state' to).faults (state' to').faults result

-- no more is asked of the one than for all its frames, or than for these and to see that its blocks are good
abbrev pub AsksFrames : {D : Type 0} → (D → State) → Shape → D → D → Type 0
AsksFrames state h old new = AsksAtMost state (bytes_to_copy h.params h.frames) old new

abbrev pub AsksWhole : {D : Type 0} → (D → State) → Shape → D → D → Type 0
AsksWhole state h old new = AsksAtMost state (bytes_checked h + bytes_to_copy h.params h.frames) old new

-- ---- a disk that is made

-- bytes stand behind those that a disk holds
pub record Gains {E : Type 0} (state : E → State) (bytes : List ℕ) (old new : E) : Type 0 where
  pub size : (state new).size ≡ (state old).size + length bytes
  pub told : (x : List ℕ) → Tells state old x → Tells state new (x ++ bytes)

-- it has none left
pub record IsEmptied {E : Type 0} (state : E → State) (old new : E) : Type 0 where
  pub size : (state new).size ≡ 0
  pub told : (x : List ℕ) → Tells state old x → Tells state new []

-- it tells what it told
abbrev pub KeepsTold : {E : Type 0} → (E → State) → E → E → Type 0
KeepsTold state old new = (x : List ℕ) → Tells state old x → Tells state new x

-- Where both disks tell what they hold, all frames of the one stand behind what the other held, as what they become.
abbrev pub Lengthens : {D E : Type 0} → (D → State) → (E → State) → Target → Shape → D → E → E → Type 0
Lengthens state state' target h from old new =
    (b x : List ℕ) → Tells state from b → Tells state' old x
    → Tells state' new (x ++ bytes_by target vox_start h.params.codec (numbers_at b h 0 h.frames))

-- .. or the other is what is made of the one; or a file of a shelf is
abbrev pub Makes : {D E : Type 0} → (D → State) → (E → State) → ExportForm → Shape → D → E → E → Type 0
Makes state state' form h from old new =
    (b x : List ℕ) → Tells state from b → Tells state' old x → Tells state' new (bytes_made form (first_editing b h))

abbrev pub MakesUnder : {D S : Type 0} → (D → State) → (S → ShelfState) → List ℕ → ExportForm → Shape → D → S → S → Type 0
MakesUnder state shelf_state name form h from old new =
    (files : Files) (b : List ℕ) → TellsFiles shelf_state old files → Tells state from b
    → HasFiles shelf_state new (put files name (Some (bytes_made form (first_editing b h))))

-- ---- what is done

-- What is answered is what is to be done with the file of a disk, by its layout, where it may be made; and that is done.
abbrev pub DoesGood : {D S E : Type 0} → (D → State) → (S → ShelfState) → Exportation → Shape → D → S → S → Result Answer E → Type 0
DoesGood state shelf_state exportation h from old new result =
    IfOk result (λ answer. (files : Files) (b : List ℕ) → TellsFiles shelf_state old files → Tells state from b
    → IsDone shelf_state new answer (exported_good exportation.form exportation.input.now exportation.output.now (first_editing b h)) files)

-- .. whether it may or not
abbrev pub DoesLaid : {D S E : Type 0} → (D → State) → (S → ShelfState) → Exportation → Shape → D → S → S → Result Answer E → Type 0
DoesLaid state shelf_state exportation h from old new result =
    IfOk result (λ answer. (files : Files) (b : List ℕ) → TellsFiles shelf_state old files → Tells state from b
    → IsDone shelf_state new answer (exported_file exportation.form exportation.input.now exportation.output.now (first_editing b h)) files)

-- the file is not said to have changed where its disk tells what it holds
abbrev pub StaysTold : {D T : Type 0} → (D → State) → D → Result T Stop → Type 0
StaysTold state from result = IfChanged ((b : List ℕ) → Tells state from b → ⊥) result
