-- What a tool does with the files of a shelf: it makes one of them, or it refuses one and changes none.
use Rattle.std.specs.Prelude.{ℕ, List, Some}
use Rattle.snd_disk.specs.Shelf.{Files, put}
use Rattle.snd_lines.specs.declared.refusal.Refusal.{Refusal}
use Rattle.snd_tools.specs.declared.answer.Answer.{Answer}
use Rattle.snd_tools.specs.declared.answer.Answer.TheVariants as answer

pub data Done : Type 0 where
  -- the file of a name is made, with these bytes, which are so many frames
  makes : List ℕ → List ℕ → ℕ → Done
  -- the file of a name is refused
  refuses : List ℕ → Refusal → Done

-- the files then
abbrev pub files_after : Done → Files → Files
files_after (Done.makes name bytes frames) files = put files name (Some bytes)
files_after (Done.refuses name why) files = files

-- what is said of it: how many frames were made, or which file was refused, and why
pub data Said : Type 0 where
  made : ℕ → Said
  refused : List ℕ → Refusal → Said

abbrev pub said_of : Done → Said
said_of (Done.makes name bytes frames) = Said.made frames
said_of (Done.refuses name why) = Said.refused name why

-- .. as the code says it
abbrev pub said_by : Answer → Said
said_by (answer.Made frames) = Said.made frames
said_by (answer.Refused name why) = Said.refused name.now why
