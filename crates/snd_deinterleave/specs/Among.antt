-- How a tool leaves a shelf that makes several files. The first argument is the whole meaning of the shelf.
use Rattle.std.specs.Prelude.{◌≡◌, ℕ, Bool, false, List, is_none}
use Rattle.std.specs.List.{list_any}
use Rattle.std.specs.Str.{bytes_eq}
use Rattle.snd_disk.specs.State.{GoesOn}
use Rattle.snd_disk.specs.Shelf.{Files}
use Rattle.snd_disk.specs.Shelves.{KeepsImagesOf, TellsFiles}
use Rattle.snd_disk.specs.declared.shelf.Shelf.{Ghosts as ShelfMeaning}

-- whether a name is one of some
abbrev pub is_among : List (List ℕ) → List ℕ → Bool
is_among names n = list_any (bytes_eq n) names

-- Whatever came of it, each disk is back, and only the files of some names have changed: time has gone on for each of them, and none
-- is gone.
pub record ChangesAmong {S D : Type 0} (s : ShelfMeaning S D) (names : List (List ℕ)) (old new : S) : Type 0 where
  pub back : (n : List ℕ) → (s.state new).out n ≡ (s.state old).out n
  pub files : (f : Files) → TellsFiles s.state old f → (f' : Files) × TellsFiles s.state new f' × ((n : List ℕ) → is_among names n ≡ false → f' n ≡ f n)
      × ((n : List ℕ) → is_none (f n) ≡ false → is_none (f' n) ≡ false)
  pub time : (f : Files) (n : List ℕ) → TellsFiles s.state old f → is_none (f n) ≡ false
      → GoesOn ((s.state old).clock n) ((s.state new).clock n) (s.left_between old n) (s.left_between new n)
  pub others : (f : Files) (n : List ℕ) → TellsFiles s.state old f → is_none (f n) ≡ false → is_among names n ≡ false
      → KeepsImagesOf s.state s.may_leave s.left_between n old new
