-- How files are looked at, as the code says it. The first argument is what is known of a shelf, or its whole meaning.
use Rattle.std.specs.Prelude.{◌≡◌, ℕ, ◌+◌, ◌*◌, ◌^◌, ◌≤◌, Bool, List, All, Option, Some, Result, Ok, Err, IfOk, length, map}
use Rattle.snd_disk.specs.State.{AtMost}
use Rattle.snd_disk.specs.Shelf.{Files, KeepsFiles, ShelfState}
use Rattle.snd_disk.specs.Shelves.{KeepsFileImages, TellsFiles}
use Rattle.snd_disk.specs.declared.shelf.Shelf.{Ghosts as ShelfMeaning}
use Rattle.snd_layout.specs.Opened.{EndsIn}
use Rattle.snd_layout.specs.Params.{AreParams}
use Rattle.snd_layout.specs.Shape.{KeepsRule, Shape, end, room}
use Rattle.snd_lines.specs.declared.refusal.Refusal.{Refusal}
use Rattle.snd_edits.specs.Editing.{Editing}
use Rattle.snd_inputs.specs.Inputs.{first_bad, input_in, inputs_in, is_bad}
use Rattle.snd_inputs.specs.declared.looking.Inputs.{Inputs}
use Rattle.snd_inputs.specs.declared.looking.Inputs.TheVariants as inputs

-- what is seen of a file: its layout, or why it is not opened
abbrev pub seen_of : Result Editing Refusal → Result Shape Refusal
seen_of (Ok e) = Ok e.shape
seen_of (Err why) = Err why

-- .. and of several
abbrev pub all_seen : Result (List Editing) (List ℕ × Refusal) → Result (List Shape) (List ℕ × Refusal)
all_seen (Ok es) = Ok (map (λ e. e.shape) es)
all_seen (Err refused) = Err refused

abbrev pub seen_by : Inputs → Result (List Shape) (List ℕ × Refusal)
seen_by (inputs.Sound layouts) = Ok layouts.items
seen_by (inputs.Refused name why) = Err (name.now, why)

-- what is answered is right by the files, where the shelf tells them
abbrev pub IfOkFiles : {S T E : Type 0} → (S → ShelfState) → S → Result T E → (Files → T → Type 0) → Type 0
IfOkFiles state shelf result P = IfOk result (λ value. (files : Files) → TellsFiles state shelf files → P files value)

-- a layout of which the frames are read, as its file is opened: the room of its head ends where a disk may
pub record IsReadable (h : Shape) : Type 0 where
  pub rule : KeepsRule h
  pub good : AreParams h.params
  pub room_ends : h.start + room h + 8 ≤ 2 ^ 63

-- what is seen of the file of a name, or of those of several, is what they are
abbrev pub Sees : {S E : Type 0} → (S → ShelfState) → List ℕ → S → Result (Result Shape Refusal) E → Type 0
Sees state name shelf result = IfOkFiles state shelf result (λ files seen. seen ≡ seen_of (input_in (files name)))

abbrev pub SeesAll : {S E : Type 0} → (S → ShelfState) → List (List ℕ) → S → Result Inputs E → Type 0
SeesAll state names shelf result = IfOkFiles state shelf result (λ files inputs. seen_by inputs ≡ all_seen (inputs_in files names))

-- its frames and its chunks lie within so many bytes
pub record LiesWithin (size : ℕ) (h : Shape) : Type 0 where
  pub frames : end h h.frames ≤ size
  pub pieces : All (EndsIn size) h.pieces

abbrev pub SeenReadable : {E : Type 0} → Result (Result Shape Refusal) E → Type 0
SeenReadable result = IfOk result (λ seen. IfOk seen IsReadable)

-- .. within the bytes of its file, where the shelf tells them
abbrev pub SeenWithin : {S E : Type 0} → (S → ShelfState) → List ℕ → S → Result (Result Shape Refusal) E → Type 0
SeenWithin state name shelf result =
    IfOk result (λ seen. IfOk seen (λ h. (files : Files) (b : List ℕ) → TellsFiles state shelf files → files name ≡ Some b → LiesWithin (length b) h))

-- layouts that are seen are those of files that are read
abbrev pub AllReadable : {E : Type 0} → Result Inputs E → Type 0
AllReadable result = IfOk result (λ inputs. IfOk (seen_by inputs) (All IsReadable))

-- it is said whether the file of a name has a bad block, or which of those of several is the first that has, where they are opened
abbrev pub SeesBad : {S E : Type 0} → (S → ShelfState) → List ℕ → S → Result Bool E → Type 0
SeesBad state name shelf result = IfOkFiles state shelf result (λ files bad. (e : Editing) → input_in (files name) ≡ Ok e → bad ≡ is_bad e)

abbrev pub FindsFirstBad : {S E : Type 0} → (S → ShelfState) → List (List ℕ) → S → Result (Option ℕ) E → Type 0
FindsFirstBad state names shelf result = IfOkFiles state shelf result (λ files at. (es : List Editing) → inputs_in files names ≡ Ok es → at ≡ first_bad es)

-- files were only read: each disk is back, and no file has changed, nor what a crash may leave of one
pub record ReadsFiles {S D : Type 0} (s : ShelfMeaning S D) (old new : S) : Type 0 where
  pub back : (n : List ℕ) → (s.state new).out n ≡ (s.state old).out n
  pub files : KeepsFiles (s.state old) (s.state new)
  pub images : KeepsFileImages s.state s.may_leave s.left_between old new
  pub written : (s.state new).written ≡ (s.state old).written

-- at most 16384 bytes are asked for each of so many names
abbrev pub AsksToLook : ℕ → ShelfState → ShelfState → Type 0
AsksToLook names old new = AtMost old.asked (16384 * names) new.asked
