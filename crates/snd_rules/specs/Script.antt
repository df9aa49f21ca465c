-- A whole script: its lines, what each is answered, and the state that it leaves.
use Rattle.std.specs.Prelude.{ℕ, ◌+◌, ◌-◌, ◌*◌, ◌==◌, List, [], ◌∷◌, ◌++◌, Bool, true, false, ◌||◌, Option, None, Some, Result, Ok, length, take, nat_le, nat_lt, if◌then◌else◌}
use Rattle.std.specs.List.{slice_split}
use Rattle.std.specs.Str.{bytes_eq}
use Rattle.snd_command.specs.Line.{command_of}
use Rattle.snd_command.specs.Said.{Said}
use Rattle.snd_command.specs.declared.refusal.ScriptRefusal.{ScriptRefusal}
use Rattle.snd_rules.specs.Desk.{Desk, Mode, OpenFile, Store, closed_desk, encodes, open_desk, store_closed}
use Rattle.snd_rules.specs.Edit.{Edited, edit_line}
use Rattle.snd_rules.specs.Replies.{nothing, text_of, is_refusal}
use Rattle.snd_rules.specs.Rules.{is_held, is_set, most_on}

-- a script has at most this many bytes
abbrev pub most_bytes : ℕ
most_bytes = 16777216

abbrev pub is_feed : ℕ → Bool
is_feed c = c == 10

-- the lines that a line feed ends; and all lines, where what stands behind the last line feed is one too unless it is empty
abbrev pub whole_lines_of : List (List ℕ) → List (List ℕ)
whole_lines_of pieces = take (length pieces - 1) pieces

abbrev pub all_lines_of : List (List ℕ) → List (List ℕ)
all_lines_of [] = []
all_lines_of ([] ∷ []) = []
all_lines_of (piece ∷ pieces) = piece ∷ all_lines_of pieces

unfoldable pub whole_lines : List ℕ → List (List ℕ)
whole_lines text = whole_lines_of (slice_split is_feed text)

unfoldable pub all_lines : List ℕ → List (List ℕ)
all_lines text = all_lines_of (slice_split is_feed text)

-- the lines that are carried out where so many bytes are: all of a script that is no longer, or else the whole lines
-- among the first so many
abbrev pub lines_within : ℕ → List ℕ → List (List ℕ)
lines_within most script = if nat_le (length script) most then all_lines script else whole_lines (take most script)

abbrev pub is_too_long : ℕ → List ℕ → Bool
is_too_long most script = nat_lt most (length script)

-- A file that is open behind the last line is closed, and nothing is said.
abbrev pub ending_of : Store → Option OpenFile → List Edited
ending_of store None = []
ending_of store (Some file) = record { answer = nothing; desk = closed_desk (store_closed (open_desk store file)) } ∷ []

abbrev pub ending : Desk → List Edited
ending desk = ending_of desk.store desk.open_file

-- what each of these lines is answered, with the state that it leaves; and then the ending
abbrev pub steps : Desk → List (List ℕ) → List Edited
steps desk [] = ending desk
steps desk (line ∷ lines) = edit_line desk line ∷ steps (edit_line desk line).desk lines

-- the whole script, over these files and taps
unfoldable pub script_steps : Store → List ℕ → List Edited
script_steps store script = steps (closed_desk store) (lines_within most_bytes script)

-- what is said in all, whether something is refused, and the state at the end
abbrev pub texts : List Edited → List ℕ
texts [] = []
texts (step ∷ left) = text_of step.answer ++ texts left

abbrev pub any_refused : List Edited → Bool
any_refused [] = false
any_refused (step ∷ left) = is_refusal step.answer || any_refused left

abbrev pub last_desk : Desk → List Edited → Desk
last_desk desk [] = desk
last_desk desk (step ∷ left) = last_desk step.desk left

-- ---- how much of the disks the lines use at most

-- bytes asked
abbrev pub asked_by : Said → ℕ
asked_by (Said.open_read name) = 16384
asked_by (Said.open_update name) = 16384
asked_by (Said.read n) = 1024 * n + 16384
asked_by (Said.set_chunk id hex) = 0
asked_by (Said.set_string key text) = 16777216
asked_by (Said.set_bext key text) = 16777216
asked_by (Said.set_cue places) = 16777216
asked_by (Said.get_chunk id) = 81920
asked_by Said.get_strings = 81920
asked_by Said.get_bext = 81920
asked_by Said.get_cues = 81920
asked_by said = 0

-- bytes written, where a block of ADPCM has at most so many; a file that is made or open is closed with 64 more, and such a block
abbrev pub written_with : ℕ → Said → ℕ
written_with block (Said.create kind codec channels rate name) = 2048
written_with block (Said.write xs) = 4 * length xs + 72 + block
written_with block (Said.truncate n) = 72
written_with block Said.trim = 80
written_with block Said.update = 64
written_with block (Said.auto on) = 64
written_with block Said.promote = 116
written_with block Said.reserve = 2048
written_with block Said.close = 64 + block
written_with block (Said.set_chunk id hex) = 16777216
written_with block (Said.set_string key text) = 16777216
written_with block (Said.set_bext key text) = 16777216
written_with block (Said.set_cue places) = 16777216
written_with block said = 0

-- .. blocks of a file that a script makes have at most 2048
abbrev pub written_by : Said → ℕ
written_by said = written_with 2048 said

-- in a pinned run the commands that it refuses use nothing
abbrev pub most_in : Bool → (Said → ℕ) → Said → ℕ
most_in true most = λ said. if is_held said || is_set said then 0 else most said
most_in false most = most

-- .. of a file that is open in a mode
abbrev pub most_block : Mode → ℕ
most_block mode = if encodes mode then 2048 else 0

abbrev pub written_on : Mode → Said → ℕ
written_on mode said = most_on mode (written_with (most_block mode)) said

-- .. of one that stays open there are none
abbrev pub written_in : Bool → Said → ℕ
written_in true = most_in true (written_with 0)
written_in false = written_by

abbrev pub by_command : (Said → ℕ) → Result (Option Said) ScriptRefusal → ℕ
by_command most (Ok (Some said)) = most said
by_command most other = 0

abbrev pub by_lines : (Said → ℕ) → List (List ℕ) → ℕ
by_lines most [] = 0
by_lines most (line ∷ lines) = by_command most (command_of line) + by_lines most lines

-- ---- which files they write

-- a command opens the file of a name to be written
abbrev pub writes_name : Said → List ℕ → Bool
writes_name (Said.open_update name) n = bytes_eq n name
writes_name (Said.create kind codec channels rate name) n = bytes_eq n name
writes_name said n = false

abbrev pub by_writing : Result (Option Said) ScriptRefusal → List ℕ → Bool
by_writing (Ok (Some said)) n = writes_name said n
by_writing other n = false

abbrev pub any_writes : List (List ℕ) → List ℕ → Bool
any_writes [] n = false
any_writes (line ∷ lines) n = by_writing (command_of line) n || any_writes lines n
