-- Relations over a whole shelf, before and after a call. The first arguments are its meanings: what is known of it, what a
-- crash may leave of each of its files, and what a crash may have left of one between two values of its clock. Where a disk
-- is handed over, its own meanings follow.
use Rattle.std.specs.Prelude.{◌≡◌, ℕ, List, false, Some}
use Rattle.std.specs.Str.{bytes_eq}
use Rattle.snd_disk.specs.State.{State, GoesOn, KeepsImages}
use Rattle.snd_disk.specs.Shelf.{Files, ShelfState, HandsOver}

-- the shelf tells these files
abbrev pub TellsFiles : {S : Type 0} → (S → ShelfState) → S → Files → Type 0
TellsFiles state shelf files = (state shelf).files ≡ Some files

-- nothing changes of what a crash may leave of the file of this name
abbrev pub KeepsImagesOf : {S : Type 0} → (S → ShelfState) → (S → List ℕ → List ℕ → Type 0) → (S → List ℕ → ℕ → ℕ → List ℕ → Type 0) → List ℕ → S → S → Type 0
KeepsImagesOf state may_leave left_between name old new =
    KeepsImages ((state old).clock name) ((state new).clock name) (may_leave old name) (may_leave new name) (left_between old name) (left_between new name)

-- .. of any file of another name
abbrev pub KeepsOthers : {S : Type 0} → (S → ShelfState) → (S → List ℕ → List ℕ → Type 0) → (S → List ℕ → ℕ → ℕ → List ℕ → Type 0) → List ℕ → S → S → Type 0
KeepsOthers state may_leave left_between name old new = (n : List ℕ) → bytes_eq n name ≡ false → KeepsImagesOf state may_leave left_between n old new

-- .. of any file that the shelf tells
abbrev pub KeepsFileImages : {S : Type 0} → (S → ShelfState) → (S → List ℕ → List ℕ → Type 0) → (S → List ℕ → ℕ → ℕ → List ℕ → Type 0) → S → S → Type 0
KeepsFileImages state may_leave left_between old new =
    (f : Files) (n b : List ℕ) → TellsFiles state old f → f n ≡ Some b → KeepsImagesOf state may_leave left_between n old new

-- Only the file of this name changes: time has gone on for it, where the shelf tells it.
pub record ChangesOnly {S : Type 0} (state : S → ShelfState) (may_leave : S → List ℕ → List ℕ → Type 0) (left_between : S → List ℕ → ℕ → ℕ → List ℕ → Type 0) (name : List ℕ) (old new : S) : Type 0 where
  pub file : (f : Files) (b : List ℕ) → TellsFiles state old f → f name ≡ Some b → GoesOn ((state old).clock name) ((state new).clock name) (left_between old name) (left_between new name)
  pub others : KeepsOthers state may_leave left_between name old new

-- a disk that is handed out has the clock and the images of its file, and one that is made has the empty image alone
abbrev pub HandsOut : {S D : Type 0} → (S → ShelfState) → (S → List ℕ → List ℕ → Type 0) → (S → List ℕ → ℕ → ℕ → List ℕ → Type 0) → (D → State) → (D → List ℕ → Type 0) → (D → ℕ → ℕ → List ℕ → Type 0) → List ℕ → S → D → Type 0
HandsOut state may_leave left_between disk_state disk_left disk_between name old disk =
    (f : Files) → TellsFiles state old f → HandsOver (f name) ((state old).clock name) (disk_state disk).clock (may_leave old name) (disk_left disk) (left_between old name) (disk_between disk)

-- nothing is handed out; a file that is made all the same has the empty image alone
abbrev pub HandsOutNone : {S : Type 0} → (S → ShelfState) → (S → List ℕ → List ℕ → Type 0) → (S → List ℕ → ℕ → ℕ → List ℕ → Type 0) → List ℕ → S → S → Type 0
HandsOutNone state may_leave left_between name old new =
    (f : Files) → TellsFiles state old f → HandsOver (f name) ((state old).clock name) ((state new).clock name) (may_leave old name) (may_leave new name) (left_between old name) (left_between new name)

-- a file has the clock and the images of the disk that was given back
abbrev pub TakesBack : {S D : Type 0} → (S → ShelfState) → (S → List ℕ → List ℕ → Type 0) → (S → List ℕ → ℕ → ℕ → List ℕ → Type 0) → (D → State) → (D → List ℕ → Type 0) → (D → ℕ → ℕ → List ℕ → Type 0) → List ℕ → S → D → Type 0
TakesBack state may_leave left_between disk_state disk_left disk_between name new disk =
    KeepsImages (disk_state disk).clock ((state new).clock name) (disk_left disk) (may_leave new name) (disk_between disk) (left_between new name)
