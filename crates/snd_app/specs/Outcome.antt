-- What a run of the program prints and answers, and which files it leaves: functions of the words, the files that are there,
-- and the script.
use Rattle.std.specs.Prelude.{ℕ, Bool, true, false, List, [], ◌∷◌, Option, Some, None, Result, Ok, Err, codes, if◌then◌else◌}
use Rattle.snd_container.specs.Sound.{layout_of}
use Rattle.snd_disk.specs.Shelf.{Files}
use Rattle.snd_layout.specs.Shape.{Shape}
use Rattle.snd_layout.specs.declared.refusal.OpenRefusal.{OpenRefusal}
use Rattle.snd_meta.specs.Info.{Entry}
use Rattle.snd_layout.specs.Kinds.{holds_meta}
use Rattle.snd_edits.specs.TagsHeld.{texts_of}
use Rattle.snd_edits.specs.declared.tag_error.TagError.{TagError}
use Rattle.snd_lines.specs.declared.refusal.Refusal.TheVariants.{MissingFile, Open}
use Rattle.snd_words.specs.Asked.{Asked}
use Rattle.snd_words.specs.Grammar.{asked}
use Rattle.snd_rack.specs.declared.setting.StageKind.{StageKind}
use Rattle.snd_rules.specs.Desk.{closed_desk, stored}
use Rattle.snd_rules.specs.Edit.{Edited}
use Rattle.snd_rules.specs.Pinned.{run_steps, run_too_long}
use Rattle.snd_rules.specs.Script.{any_refused, last_desk, texts}
use Rattle.snd_taps.specs.declared.tap.TapKind.{TapKind}
use Rattle.snd_app.specs.declared.look.Found.{Found}
use Rattle.snd_app.specs.declared.look.Found.TheVariants.{Missing, Refused, Sound}
use Rattle.snd_app.specs.Help.{usage, usage_of, version}
use Rattle.snd_app.specs.Printed.{Outcome, and_then, bad_words, says}
use Rattle.snd_app.specs.Text.{refusal}
use Rattle.snd_app.specs.Tools.{after_work, made_by, outcome_of_work}
use Rattle.snd_app.specs.Info.{description}

-- the texts that are shown: those of the first INFO list of a WAVE or an RF64 file, where it reads and is not too large
abbrev pub texts_or_none : Result (List Entry) TagError → List Entry
texts_or_none (Ok texts) = texts
texts_or_none (Err error) = []

abbrev pub shown_texts : List ℕ → Shape → List Entry
shown_texts b h = if holds_meta h.kind then texts_or_none (texts_of b h) else []

-- what stands under a name
abbrev pub found_of : List ℕ → Result Shape OpenRefusal → Found
found_of b (Err refusal) = Refused refusal
found_of b (Ok layout) = Sound layout (shown_texts b layout)

abbrev pub found_in : Option (List ℕ) → Found
found_in None = Missing
found_in (Some bytes) = found_of bytes (layout_of bytes)

-- what is printed of it: a description on `out`, or on `err` why there is none
abbrev pub text_of : List ℕ → Found → List ℕ
text_of name Missing = refusal name MissingFile
text_of name (Refused why) = refusal name (Open why)
text_of name (Sound layout texts) = description name layout texts

abbrev pub is_refused : Found → Bool
is_refused (Sound layout texts) = false
is_refused found = true

abbrev pub info : List ℕ → Found → Outcome
info name found = if is_refused found then record { out = []; err = text_of name found; status = 1 } else record { out = text_of name found; err = []; status = 0 }

-- a script's replies stand on `out`
abbrev pub too_long : Outcome → Outcome
too_long o = record o { err = codes "snd: script too long\n"; status = 2 }

abbrev pub answers : List Edited → Outcome
answers all = record { out = texts all; err = []; status = if any_refused all then 1 else 0 }

abbrev pub script_outcome : Bool → List Edited → Outcome
script_outcome longer all = if longer then too_long (answers all) else answers all

-- a script, behind the opening of the file of a name that is pinned, where there is one, over files and with taps of these kinds
abbrev pub outcome_of_script : Option (List ℕ) → List TapKind → Files → List ℕ → Outcome
outcome_of_script name kinds files text = script_outcome (run_too_long name (stored files kinds) text) (run_steps name (stored files kinds) text)

-- .. and it leaves the files of its last step
abbrev pub files_of_script : Option (List ℕ) → List TapKind → Files → List ℕ → Files
files_of_script name kinds files text = (last_desk (closed_desk (stored files kinds)) (run_steps name (stored files kinds) text)).store.files

abbrev pub outcome_of_info : List ℕ → Files → Outcome
outcome_of_info name files = info name (found_in (files name))

-- each of the names, in their order
abbrev pub outcome_of_infos : List (List ℕ) → Files → Outcome
outcome_of_infos [] files = says []
outcome_of_infos (name ∷ names) files = and_then (outcome_of_info name files) (outcome_of_infos names files)

-- what the words ask for, with taps and stages of these kinds, over these files and with this script to come
abbrev pub outcome_of : Asked → List TapKind → List StageKind → Files → List ℕ → Outcome
outcome_of Asked.nothing taps stages files text = bad_words
outcome_of (Asked.info_of names) taps stages files text = outcome_of_infos names files
outcome_of (Asked.script name) taps stages files text = outcome_of_script name taps files text
outcome_of Asked.help taps stages files text = says usage
outcome_of (Asked.help_on topic) taps stages files text = says (usage_of topic)
outcome_of Asked.version taps stages files text = says version
outcome_of (Asked.tool work) taps stages files text = outcome_of_work work stages files

-- whether that is a script; and the name that is pinned in it, where there is one
abbrev pub is_script : Asked → Bool
is_script (Asked.script name) = true
is_script other = false

abbrev pub pinned_by : Asked → Option (List ℕ)
pinned_by (Asked.script name) = name
pinned_by other = None

-- the names of the files that a tool makes
abbrev pub outputs_by : Asked → Option (List (List ℕ))
outputs_by (Asked.tool work) = Some (made_by work)
outputs_by other = None

-- whether files are looked at alone
abbrev pub looks_by : Asked → Bool
looks_by (Asked.script name) = false
looks_by (Asked.tool work) = false
looks_by other = true

-- the names of the files that are described
abbrev pub names_by : Asked → List (List ℕ)
names_by (Asked.info_of names) = names
names_by other = []

-- .. by the words
abbrev pub runs_script : List (List ℕ) → Bool
runs_script words = is_script (asked words)

abbrev pub pinned_for : List (List ℕ) → Option (List ℕ)
pinned_for words = pinned_by (asked words)

abbrev pub outputs_for : List (List ℕ) → Option (List (List ℕ))
outputs_for words = outputs_by (asked words)

abbrev pub looks_for : List (List ℕ) → Bool
looks_for words = looks_by (asked words)

abbrev pub names_for : List (List ℕ) → List (List ℕ)
names_for words = names_by (asked words)

abbrev pub outcome : List (List ℕ) → List TapKind → List StageKind → Files → List ℕ → Outcome
outcome words taps stages files text = outcome_of (asked words) taps stages files text

-- the files that are there afterwards: only a script and a tool change any
abbrev pub files_of : Asked → List TapKind → List StageKind → Files → List ℕ → Files
files_of (Asked.script name) taps stages files text = files_of_script name taps files text
files_of (Asked.tool work) taps stages files text = after_work work stages files
files_of other taps stages files text = files

abbrev pub files_after : List (List ℕ) → List TapKind → List StageKind → Files → List ℕ → Files
files_after words taps stages files text = files_of (asked words) taps stages files text
