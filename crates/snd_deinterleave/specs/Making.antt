-- How outputs are made of an open file, as the code does it. It is said for the proofs alone.
use Rattle.std.specs.Prelude.{◌≡◌, ℕ, ◌+◌, ◌*◌, ◌<◌, List, [], Result, IfOk, None, length, slice_index_or, take, true, false}
use Rattle.snd_disk.specs.declared.disk.Disk.{Ghosts}
use Rattle.snd_disk.specs.Device.{AsksAtMost, Tells}
use Rattle.snd_disk.specs.Shelf.{Files, ShelfState}
use Rattle.snd_disk.specs.Shelves.{TellsFiles}
use Rattle.snd_disk.specs.State.{State}
use Rattle.snd_layout.specs.Fit.{fit_refusal}
use Rattle.snd_layout.specs.Params.{Parameters}
use Rattle.snd_layout.specs.Shape.{Shape}
use Rattle.snd_layout.specs.declared.kind.Kind.{Kind}
use Rattle.snd_inputs.specs.Copying.{bytes_checked, bytes_to_copy}
use Rattle.snd_inputs.specs.Rooms.{is_full}
use Rattle.snd_file.specs.declared.handle.File.{File}
use Rattle.snd_edits.specs.declared.mode.Mode.{Ghosts as ModeGhosts}
use Rattle.snd_edits.specs.Editing.{Editing, first_editing}
use Rattle.snd_edits.specs.Known.{Known}
use Rattle.snd_file.specs.Handle.{Stands, StandsAfter, disk_of, known_of}
use Rattle.snd_output.specs.Ends.{IfChanged}
use Rattle.snd_output.specs.declared.stop.Stop.{Stop}
use Rattle.snd_tools.specs.Shelves.{HasFiles}
use Rattle.snd_tools.specs.declared.answer.Answer.{Answer}
use Rattle.snd_deinterleave.specs.Among.{is_among}
use Rattle.snd_deinterleave.specs.Deinterleave.{done_counted, file_of, is_same_at, made_if_good}
use Rattle.snd_deinterleave.specs.Outputs.{IsDone, puts}
use Rattle.snd_deinterleave.specs.Passing.{FitsAs}

-- ---- names

-- no output has the input's name, or that of an earlier output
abbrev pub AreApart : List ℕ → List (List ℕ) → Type 0
AreApart input outputs = (at : ℕ) → at < length outputs → is_same_at input outputs at ≡ false

-- .. so that none has that of an earlier one
abbrev pub AreApartNames : List (List ℕ) → Type 0
AreApartNames names = (at : ℕ) → at < length names → is_among (take at names) (slice_index_or names at []) ≡ false

-- none of some names is taken out
abbrev pub AreIn : List (List ℕ) → ShelfState → Type 0
AreIn names shelf = (n : List ℕ) → is_among names n ≡ true → shelf.out n ≡ false

-- ---- files

-- a file of a kind with these parameters may be made of each channel of another
pub record MaySplit (kind : Kind) (p : Parameters) (from : Known) : Type 0 where
  pub mono : p.channels ≡ 1
  pub holds : fit_refusal kind p ≡ None
  pub fits : FitsAs from.shape.params.codec p.codec
  pub room : is_full kind p from.shape.frames ≡ false

-- a file that is read from its first frame
abbrev pub known_at_first : Known → Known
known_at_first k = record k { place = 0 }

-- after a call that is done a file is read from its first frame again
pub record IsRewound {D M : Type 0} {d : Ghosts D} {m : ModeGhosts M} (state : D → State) (old new : File D M d m) : Type 0 where
  pub known : known_of new ≡ known_of old
  pub stands : StandsAfter state old new (λ e. e)

-- Where both disks tell what they hold, one becomes what is made of a channel of the file on the other.
abbrev pub Makes : {D M E : Type 0} {d : Ghosts D} {m : ModeGhosts M} → (D → State) → (E → State) → ℕ → Kind → Parameters → File D M d m → E → E → Type 0
Makes state state' which kind p file old new =
    (b : List ℕ) (e : Editing) → Tells state' old b → Stands state file e → Tells state' new (file_of kind p e which)

-- .. or files of a shelf become what is made of the first channels
abbrev pub MakesAll : {D M S : Type 0} {d : Ghosts D} {m : ModeGhosts M} → (D → State) → (S → ShelfState) → List (List ℕ) → Kind → Parameters → File D M d m → S → S → Type 0
MakesAll state shelf_state names kind p file old new =
    (files : Files) (e : Editing) → TellsFiles shelf_state old files → Stands state file e
    → HasFiles shelf_state new (puts names (file_of kind p e) 0 files)

-- the frames are read so many times
abbrev pub bytes_split : ℕ → Shape → ℕ
bytes_split times h = times * bytes_to_copy h.params h.frames

abbrev pub AsksTimes : {D M : Type 0} {d : Ghosts D} {m : ModeGhosts M} → (D → State) → ℕ → File D M d m → File D M d m → Type 0
AsksTimes state times old new = AsksAtMost state (bytes_split times (known_of old).shape) (disk_of old) (disk_of new)

-- .. and the blocks are checked once: no more than if they were so each time
abbrev pub AsksWholeLaid : {D : Type 0} → (D → State) → ℕ → Shape → D → D → Type 0
AsksWholeLaid state times layout old new = AsksAtMost state (times * (bytes_checked layout + bytes_to_copy layout.params layout.frames)) old new

abbrev pub AsksWhole : {D M : Type 0} {d : Ghosts D} {m : ModeGhosts M} → (D → State) → ℕ → File D M d m → File D M d m → Type 0
AsksWhole state times old new = AsksWholeLaid state times (known_of old).shape (disk_of old) (disk_of new)

-- ---- what is done

-- What is answered is what is to be done with an open file, where the heads have room for its data; and that is done.
abbrev pub DoesGood : {D M S E : Type 0} {d : Ghosts D} {m : ModeGhosts M}
    → (D → State) → (S → ShelfState) → List ℕ → List (List ℕ) → Kind → Parameters → File D M d m → S → S → Result Answer E → Type 0
DoesGood state shelf_state input outputs kind p file old new result =
    IfOk result (λ answer. (files : Files) (e : Editing) → TellsFiles shelf_state old files → Stands state file e
    → IsDone shelf_state new answer (made_if_good input outputs kind p e) files)

-- .. whether they have or not; and whether there are as many outputs as channels
abbrev pub DoesAll : {D M S E : Type 0} {d : Ghosts D} {m : ModeGhosts M}
    → (D → State) → (S → ShelfState) → List ℕ → List (List ℕ) → File D M d m → S → S → Result Answer E → Type 0
DoesAll state shelf_state input outputs file old new result =
    IfOk result (λ answer. (files : Files) (e : Editing) → TellsFiles shelf_state old files → Stands state file e
    → IsDone shelf_state new answer (done_counted input outputs e) files)

-- .. with the file of a disk, by its layout
abbrev pub DoesLaid : {D S E : Type 0} → (D → State) → (S → ShelfState) → List ℕ → List (List ℕ) → D → Shape → S → S → Result Answer E → Type 0
DoesLaid state shelf_state input outputs disk layout old new result =
    IfOk result (λ answer. (files : Files) (b : List ℕ) → TellsFiles shelf_state old files → Tells state disk b
    → IsDone shelf_state new answer (done_counted input outputs (first_editing b layout)) files)

-- the file is not said to have changed where its disk tells what it holds
abbrev pub StaysTold : {D M T : Type 0} {d : Ghosts D} {m : ModeGhosts M} → (D → State) → File D M d m → Result T Stop → Type 0
StaysTold state file result = IfChanged ((e : Editing) → Stands state file e → ⊥) result

abbrev pub StaysToldOn : {D T : Type 0} → (D → State) → D → Result T Stop → Type 0
StaysToldOn state disk result = IfChanged ((b : List ℕ) → Tells state disk b → ⊥) result
