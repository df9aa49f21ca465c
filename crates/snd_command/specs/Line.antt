-- The grammar of a script's line.
use Rattle.std.specs.Prelude.{ℕ, List, [], ◌∷◌, Option, None, Some, Result, Ok, Err, option_map, codes, length, nat_lt, slice_index, ◌==◌, if◌then◌else◌}
use Rattle.std.specs.Str.{bytes_eq}
use Rattle.snd_command.specs.declared.command.Command.{Command}
use Rattle.snd_command.specs.declared.refusal.ScriptRefusal.{ScriptRefusal}
use Rattle.snd_command.specs.declared.refusal.ScriptRefusal.TheVariants.{LineTooLong, BadCommand}
use Rattle.snd_command.specs.Frames.{auto_said, read_said, seek_said, tap_said, truncate_said, untap_said}
use Rattle.snd_command.specs.Numbers.{write_said}
use Rattle.snd_command.specs.Open.{bare_said, create_said, get_said, open_said}
use Rattle.snd_command.specs.Said.{Said, said_of}
use Rattle.snd_command.specs.Set.{set_said}
use Rattle.snd_command.specs.Words.{words, behind_word, trimmed}
use Rattle.snd_command.specs.Set.{text_behind}

-- A command by its first word: what the words behind it say, where they have one of its forms. The text is what
-- stands behind the first space behind the third word.
abbrev pub said : List ℕ → List (List ℕ) → List ℕ → Option Said
said verb args text =
    if bytes_eq verb (codes "open") then open_said args
    else (if bytes_eq verb (codes "create") then create_said args
    else (if bytes_eq verb (codes "seek") then seek_said args
    else (if bytes_eq verb (codes "read") then read_said args
    else (if bytes_eq verb (codes "write") then write_said args
    else (if bytes_eq verb (codes "truncate") then truncate_said args
    else (if bytes_eq verb (codes "auto") then auto_said args
    else (if bytes_eq verb (codes "set") then set_said args text
    else (if bytes_eq verb (codes "get") then get_said args
    else (if bytes_eq verb (codes "tap") then tap_said args
    else (if bytes_eq verb (codes "untap") then untap_said args
    else bare_said verb args))))))))))

-- a command that is not said is no command
abbrev pub command_or_bad : Option Said → Result (Option Said) ScriptRefusal
command_or_bad None = Err BadCommand
command_or_bad (Some command) = Ok (Some command)

-- by cases on the words: none, or a first one that begins with '#', say nothing
abbrev pub line_of_words : List (List ℕ) → List ℕ → Result (Option Said) ScriptRefusal
line_of_words [] text = Ok None
line_of_words (verb ∷ args) text = if slice_index verb 0 == 35 then Ok None else command_or_bad (said verb args text)

-- what a line says: at most 4096 bytes, with the spaces at its ends
abbrev pub command_of : List ℕ → Result (Option Said) ScriptRefusal
command_of line = if nat_lt 4096 (length line) then Err LineTooLong else line_of_words (words (trimmed line)) (text_behind (behind_word (trimmed line)))

-- what an answer says
abbrev pub answer_of : Result (Option Command) ScriptRefusal → Result (Option Said) ScriptRefusal
answer_of (Ok command) = Ok (option_map said_of command)
answer_of (Err refusal) = Err refusal
