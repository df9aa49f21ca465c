-- A file that is opened to be updated in place: the state in which it begins.
use Rattle.std.specs.Prelude.{ℕ, List, Result, Ok, Err, if◌then◌else◌}
use Rattle.snd_layout.specs.Blocks.{is_adpcm}
use Rattle.snd_layout.specs.Shape.{Shape}
use Rattle.snd_layout.specs.declared.error.OpenError.{OpenError}
use Rattle.snd_layout.specs.declared.error.OpenError.TheVariants.{Refused, AdpcmUpdate, UnknownLength}
use Rattle.snd_layout.specs.declared.refusal.OpenRefusal.{OpenRefusal}
use Rattle.snd_container.specs.Sound.{layout_of}
use Rattle.snd_edits.specs.Editing.{Editing, first_editing}

-- A file is updated in place where it is opened to be read, its samples stand in no blocks, and its head says its length.
abbrev pub updating_as : List ℕ → Result Shape OpenRefusal → Result Editing OpenError
updating_as b (Err refusal) = Err (Refused refusal)
updating_as b (Ok s) =
    if is_adpcm s.params.codec then Err AdpcmUpdate
    else (if s.unknown_length then Err UnknownLength else Ok (first_editing b s))

-- what opening a file of these bytes to be updated gives, or the first reason why it is not opened
unfoldable pub updating_of : List ℕ → Result Editing OpenError
updating_of b = updating_as b (layout_of b)
