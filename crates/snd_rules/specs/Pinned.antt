-- A run with one file that is updated automatically and stays open to the end: `open u` of its name and `auto on` come before
-- the script's lines, which neither open nor close a file.
use Rattle.std.specs.Prelude.{◌≡◌, ◌+◌, ℕ, List, [], ◌∷◌, Bool, true, false, not, ◌&&◌, Option, None, Some, if◌then◌else◌}
use Rattle.std.specs.Str.{bytes_eq}
use Rattle.snd_command.specs.Said.{Said}
use Rattle.snd_meters.specs.Gauge.{Gauge}
use Rattle.snd_rules.specs.Desk.{OpenFile, Store, pinned}
use Rattle.snd_rules.specs.Edit.{Edited, Opening, keep_open, open_edit}
use Rattle.snd_rules.specs.Replies.{is_refusal}
use Rattle.snd_rules.specs.Rules.{auto_rule, is_held, refused_rule, rule_of}
use Rattle.snd_rules.specs.Script.{any_writes, asked_by, by_lines, ending, is_too_long, lines_within, most_bytes, most_in, script_steps, steps, written_by, written_in}
use Rattle.snd_lines.specs.declared.refusal.Refusal.{Refusal}

-- ---- what is answered

-- `auto on`, as on a file that is updated
abbrev pub pin_edit : Store → OpenFile → Edited
pin_edit store file = keep_open store file (auto_rule true)

-- the lines that come behind it, unless it is refused: then the file is closed
abbrev pub pinned_lines : Edited → List (List ℕ) → List Edited
pinned_lines pin lines = pin ∷ (if is_refusal pin.answer then ending pin.desk else steps pin.desk lines)

-- .. and behind the opening, unless that is refused
abbrev pub behind_opening : Store → Option OpenFile → List (List ℕ) → List Edited
behind_opening store None lines = []
behind_opening store (Some file) lines = pinned_lines (pin_edit store file) lines

abbrev pub pinned_steps : Edited → List (List ℕ) → List Edited
pinned_steps opened lines = opened ∷ behind_opening opened.desk.store opened.desk.open_file lines

-- whether neither is refused
abbrev pub is_pin : Store → Option OpenFile → Bool
is_pin store None = false
is_pin store (Some file) = not (is_refusal (pin_edit store file).answer)

abbrev pub pins : Edited → Bool
pins opened = is_pin opened.desk.store opened.desk.open_file

-- the opening of the file of a name
abbrev pub pinned_opening : Store → List ℕ → Edited
pinned_opening store name = open_edit store name Opening.for_pinning (store.files name)

-- the whole script behind the two commands, over these files; and whether it is too long, which is seen only where neither is refused
unfoldable pub auto_steps : Store → List ℕ → List ℕ → List Edited
auto_steps store name script = pinned_steps (pinned_opening store name) (lines_within most_bytes script)

abbrev pub auto_too_long : Store → List ℕ → List ℕ → Bool
auto_too_long store name script = pins (pinned_opening store name) && is_too_long most_bytes script

-- ---- why commands are refused

-- why a command is refused that would open or close a file that is to stay open; others are not
abbrev pub RefusesHeld : Bool → Said → Option Refusal → Type 0
RefusesHeld stays said None = stays ≡ true → is_held said ≡ false
RefusesHeld stays said (Some refusal) = (stays ≡ true) × ((taps : List Gauge) → rule_of pinned taps said ≡ refused_rule refusal)

-- ---- a run with such a file, where there is a name, or without one

abbrev pub run_steps : Option (List ℕ) → Store → List ℕ → List Edited
run_steps None store script = script_steps store script
run_steps (Some name) store script = auto_steps store name script

abbrev pub run_too_long : Option (List ℕ) → Store → List ℕ → Bool
run_too_long None store script = is_too_long most_bytes script
run_too_long (Some name) store script = auto_too_long store name script

-- the files that may be written
abbrev pub run_writes : Option (List ℕ) → List (List ℕ) → List ℕ → Bool
run_writes None lines n = any_writes lines n
run_writes (Some name) lines n = bytes_eq n name

-- how many bytes are asked of the disks, and written, at most: `open u`, `auto on` and the closing come beside the lines
abbrev pub run_asks : Option (List ℕ) → List (List ℕ) → ℕ
run_asks None lines = by_lines asked_by lines
run_asks (Some name) lines = 16384 + by_lines (most_in true asked_by) lines

abbrev pub run_puts : Option (List ℕ) → List (List ℕ) → ℕ
run_puts None lines = by_lines written_by lines + 2112
run_puts (Some name) lines = 128 + by_lines (written_in true) lines
