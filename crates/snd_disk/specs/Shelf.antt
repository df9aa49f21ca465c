-- What is known of a shelf, and how a call may change it.
use Rattle.std.specs.Prelude.{◌≡◌, ◌⊎◌, ◌≤◌, ℕ, List, [], Bool, true, false, Option, Some, None, unwrap_or, Result, Err, if◌then◌else◌}
use Rattle.std.specs.Str.{bytes_eq}
use Rattle.snd_disk.specs.State.{State, Rises, Adds, KeepsImages}
use Rattle.snd_disk.specs.declared.shelf.ShelfFault.{ShelfFault}
use Rattle.snd_disk.specs.declared.shelf.ShelfFault.TheVariants.{Failed}

-- the bytes of each file that is there, by its name
abbrev pub Files : Type 0
Files = List ℕ → Option (List ℕ)

-- these files with one put under a name, or taken from there
abbrev pub put : Files → List ℕ → Option (List ℕ) → Files
put files name bytes n = if bytes_eq n name then bytes else files n

abbrev pub SameFiles : Files → Files → Type 0
SameFiles files files' = (n : List ℕ) → files' n ≡ files n

pub record ShelfState : Type 0 where
  -- whether a name is taken out
  pub out : List ℕ → Bool
  -- the files that are not taken out, where the shelf tells them
  pub files : Option Files
  -- the clock of each of them
  pub clock : List ℕ → ℕ
  -- how many calls have failed so far, of the shelf and of the disks that were given back
  pub faults : ℕ
  -- how many bytes were passed to writes, and asked of reads, of the disks that were given back
  pub written : ℕ
  pub asked : ℕ

-- the told files are the old ones with one under a name
abbrev pub Puts : ShelfState → ShelfState → List ℕ → Option (List ℕ) → Type 0
Puts old new name bytes = (f : Files) → old.files ≡ Some f → (f' : Files) × (new.files ≡ Some f') × SameFiles (put f name bytes) f'

-- the told files are the same
abbrev pub KeepsFiles : ShelfState → ShelfState → Type 0
KeepsFiles old new = (f : Files) → old.files ≡ Some f → (f' : Files) × (new.files ≡ Some f') × SameFiles f f'

-- a disk is handed out, and while it is out the shelf has no file of its name
pub record Takes (old new : ShelfState) (name : List ℕ) (make : Bool) (disk : State) : Type 0 where
  pub out : (n : List ℕ) → new.out n ≡ (if bytes_eq n name then true else old.out n)
  pub files : Puts old new name None
  pub named : disk.name ≡ Some name
  pub contents : (f : Files) → old.files ≡ Some f → disk.contents ≡ Some (unwrap_or (f name) [])
  -- a file that was missing is made, and only where that was asked
  pub there : (f : Files) → old.files ≡ Some f → make ≡ false → (b : List ℕ) × (f name ≡ Some b)
  pub fresh : (disk.faults ≡ 0) × (disk.written ≡ 0) × (disk.asked ≡ 0)

-- nothing is handed out; a file that was to be made may stand there, empty
pub record Stays (old new : ShelfState) (name : List ℕ) (make : Bool) : Type 0 where
  pub out : (n : List ℕ) → new.out n ≡ old.out n
  pub files : (f : Files) → old.files ≡ Some f → (f' : Files) × (new.files ≡ Some f')
      × (SameFiles f f' ⊎ ((make ≡ true) × (f name ≡ None) × SameFiles (put f name (Some [])) f'))

-- no file of this name is there, and none was to be made
pub record IsMissing (old : ShelfState) (name : List ℕ) (make : Bool) : Type 0 where
  pub not_made : make ≡ false
  pub missing : (f : Files) → old.files ≡ Some f → f name ≡ None

-- the count of faults rises where taking failed, and there alone
abbrev pub CountsFault : {T : Type 0} → ℕ → ℕ → Result T ShelfFault → Type 0
CountsFault old new (Err Failed) = (old ≤ new) × Rises old new
CountsFault old new result = new ≡ old

-- the counts of bytes stay
pub record KeepsBytes (old new : ShelfState) : Type 0 where
  pub written : new.written ≡ old.written
  pub asked : new.asked ≡ old.asked

-- the file's contents are the disk's, and the disk's counts are added
pub record Gives (old new : ShelfState) (name : List ℕ) (disk : State) : Type 0 where
  pub out : (n : List ℕ) → new.out n ≡ (if bytes_eq n name then false else old.out n)
  pub files : (b : List ℕ) → disk.contents ≡ Some b → Puts old new name (Some b)
  pub faults : Adds old.faults disk.faults new.faults
  pub written : Adds old.written disk.written new.written
  pub asked : Adds old.asked disk.asked new.asked

-- the names that are taken out, the files and the counts are those of before
pub record KeepsShelf (old new : ShelfState) : Type 0 where
  pub out : (n : List ℕ) → new.out n ≡ old.out n
  pub files : KeepsFiles old new
  pub faults : new.faults ≡ old.faults
  pub bytes : KeepsBytes old new

-- a crash leaves nothing of a file but an empty one
pub record IsEmptyImage (after : List ℕ → Type 0) (since : ℕ → ℕ → List ℕ → Type 0) : Type 0 where
  pub now : (x : List ℕ) → after x → x ≡ []
  pub between : (s t : ℕ) (x : List ℕ) → since s t x → x ≡ []

-- a file keeps its clock and its images; one that was missing and is made has the empty one alone
abbrev pub HandsOver : Option (List ℕ) → ℕ → ℕ → (List ℕ → Type 0) → (List ℕ → Type 0) → (ℕ → ℕ → List ℕ → Type 0) → (ℕ → ℕ → List ℕ → Type 0) → Type 0
HandsOver (Some b) clock clock' before after past since = KeepsImages clock clock' before after past since
HandsOver None clock clock' before after past since = IsEmptyImage after since
