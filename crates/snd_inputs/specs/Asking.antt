-- How many bytes are asked of files that are read whole.
use Rattle.std.specs.Prelude.{ℕ, ◌+◌, ◌*◌, Bool, false, List, [], ◌∷◌, Option, None, Some, Result, Ok, Err, length, if◌then◌else◌}
use Rattle.snd_disk.specs.Shelf.{Files, ShelfState}
use Rattle.snd_disk.specs.Shelves.{TellsFiles}
use Rattle.snd_disk.specs.State.{AtMost}
use Rattle.snd_layout.specs.Blocks.{is_adpcm}
use Rattle.snd_layout.specs.declared.refusal.OpenRefusal.{OpenRefusal}
use Rattle.snd_edits.specs.Editing.{Editing, opening_of}

-- whether a file is opened as one of ADPCM
abbrev pub has_blocks : Result Editing OpenRefusal → Bool
has_blocks (Ok e) = is_adpcm e.shape.params.codec
has_blocks (Err why) = false

-- What it takes to read the frames of a file of so many bytes: these. In ADPCM the blocks are seen to be good before; and they are
-- read in several calls, of which each reads again the blocks in which it begins and ends, so that it takes four times as many, and
-- 32768.
abbrev pub bytes_read : Bool → ℕ → ℕ
bytes_read blocks bytes = if blocks then 4 * bytes + 32768 else bytes

-- .. of a file, where there is one, and of those of several names
abbrev pub size_of : Option (List ℕ) → ℕ
size_of None = 0
size_of (Some b) = bytes_read (has_blocks (opening_of b)) (length b)

abbrev pub sizes_of : Files → List (List ℕ) → ℕ
sizes_of files [] = 0
sizes_of files (name ∷ names) = size_of (files name) + sizes_of files names

-- Where the shelf tells its files, no more is asked than m times what it takes to read those of some names, and n for each.
abbrev pub AsksForEach : {S : Type 0} → ℕ → ℕ → (S → ShelfState) → List (List ℕ) → S → S → Type 0
AsksForEach m n state names old new =
    (files : Files) → TellsFiles state old files → AtMost (state old).asked (m * sizes_of files names + n * length names) (state new).asked

-- .. as a tool may that reads them whole
abbrev pub AsksForFiles : {S : Type 0} → (S → ShelfState) → List (List ℕ) → S → S → Type 0
AsksForFiles state names old new = AsksForEach 2 49152 state names old new
