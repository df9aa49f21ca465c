-- How the file of a name is looked at.
use Rattle.std.specs.Prelude.{◌≡◌, ℕ, ◌*◌, Result, IfOk}
use Rattle.snd_disk.specs.State.{AtMost}
use Rattle.snd_disk.specs.Shelf.{Files, ShelfState}
use Rattle.snd_disk.specs.Shelves.{TellsFiles}

-- what is answered is right by the files, where the shelf tells them
abbrev pub IfOkFiles : {S T E : Type 0} → (S → ShelfState) → S → Result T E → (Files → T → Type 0) → Type 0
IfOkFiles state shelf result P = IfOk result (λ value. (files : Files) → TellsFiles state shelf files → P files value)

-- at most 98304 bytes are asked of the disks for each of so many names, and none is written
pub record OnlyLooks (names : ℕ) (old new : ShelfState) : Type 0 where
  pub asked : AtMost old.asked (98304 * names) new.asked
  pub written : new.written ≡ old.written
