-- What a tool does that makes several files: it makes all of them, or it refuses a file and changes none.
use Rattle.std.specs.Prelude.{◌≡◌, ℕ, suc, List, [], ◌∷◌, Some, Result, Ok, Err, if◌then◌else◌}
use Rattle.std.specs.Str.{bytes_eq}
use Rattle.snd_disk.specs.Shelf.{Files, ShelfState}
use Rattle.snd_disk.specs.Shelves.{TellsFiles}
use Rattle.snd_lines.specs.declared.refusal.Refusal.{Refusal}
use Rattle.snd_output.specs.declared.stop.Stop.{Stop}
use Rattle.snd_tools.specs.Done.{Said, said_by}
use Rattle.snd_tools.specs.Shelves.{HasFiles}
use Rattle.snd_tools.specs.declared.answer.Answer.{Answer}

pub data DoneAll : Type 0 where
  -- the files of these names are made: the one at place k among them with the bytes that the function gives for k. Each has so many
  -- frames
  makes : List (List ℕ) → (ℕ → List ℕ) → ℕ → DoneAll
  -- the file of a name is refused
  refuses : List ℕ → Refusal → DoneAll

-- files with one put under each of some names: those of a function, from one on
abbrev pub puts : List (List ℕ) → (ℕ → List ℕ) → ℕ → Files → Files
puts [] file at files n = files n
puts (name ∷ names) file at files n = if bytes_eq n name then Some (file at) else puts names file (suc at) files n

-- the files then
abbrev pub files_after : DoneAll → Files → Files
files_after (DoneAll.makes names file frames) files = puts names file 0 files
files_after (DoneAll.refuses name why) files = files

-- what is said of it
abbrev pub said_of : DoneAll → Said
said_of (DoneAll.makes names file frames) = Said.made frames
said_of (DoneAll.refuses name why) = Said.refused name why

-- The answer says what is to be done with some files, and a shelf has what that leaves.
abbrev pub IsDone : {S : Type 0} → (S → ShelfState) → S → Answer → DoneAll → Files → Type 0
IsDone state shelf answer todo files = (said_by answer ≡ said_of todo) × HasFiles state shelf (files_after todo files)

-- So it is with the files that the shelf told.
abbrev pub Does : {S : Type 0} → (S → ShelfState) → (Files → DoneAll) → S → S → Result Answer Stop → Type 0
Does state todo old new (Ok answer) = (files : Files) → TellsFiles state old files → IsDone state new answer (todo files) files
Does state todo old new (Err stop) = Unit {0}
