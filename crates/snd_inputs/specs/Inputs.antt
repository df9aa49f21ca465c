-- The files that a tool reads, by their names.
use Rattle.std.specs.Prelude.{ℕ, Bool, List, [], ◌∷◌, Option, Some, None, Result, Ok, Err, position}
use Rattle.snd_disk.specs.Shelf.{Files}
use Rattle.snd_blocks.specs.Frames.{has_bad}
use Rattle.snd_layout.specs.declared.refusal.OpenRefusal.{OpenRefusal}
use Rattle.snd_lines.specs.declared.refusal.Refusal.{Refusal}
use Rattle.snd_lines.specs.declared.refusal.Refusal.TheVariants.{MissingFile, Open}
use Rattle.snd_edits.specs.Editing.{Editing, opening_of}

-- a file as it is opened to be read; or why it is not
abbrev pub input_as : Result Editing OpenRefusal → Result Editing Refusal
input_as (Ok e) = Ok e
input_as (Err why) = Err (Open why)

-- .. where it may be missing
abbrev pub input_in : Option (List ℕ) → Result Editing Refusal
input_in None = Err MissingFile
input_in (Some b) = input_as (opening_of b)

-- one behind which others come
abbrev pub input_before : List ℕ → Result Editing Refusal → Result (List Editing) (List ℕ × Refusal) → Result (List Editing) (List ℕ × Refusal)
input_before name (Err why) others = Err (name, why)
input_before name (Ok e) (Err refused) = Err refused
input_before name (Ok e) (Ok es) = Ok (e ∷ es)

-- the files of some names, in their order; or the name of the first that is not opened, and why it is not
abbrev pub inputs_in : Files → List (List ℕ) → Result (List Editing) (List ℕ × Refusal)
inputs_in files [] = Ok []
inputs_in files (name ∷ names) = input_before name (input_in (files name)) (inputs_in files names)

-- whether one of its blocks is bad, which is so in ADPCM alone; and the place of the first of some files of which that is so
abbrev pub is_bad : Editing → Bool
is_bad e = has_bad e.frames

abbrev pub first_bad : List Editing → Option ℕ
first_bad es = position is_bad es
