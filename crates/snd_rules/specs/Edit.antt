-- One command: what is answered, and the state of the run afterwards. A refused command leaves all as it was.
use Rattle.std.specs.Prelude.{◌≡◌, ◌&&◌, ℕ, Bool, List, not, Option, None, Some, Result, Ok, Err, if◌then◌else◌}
use Rattle.snd_command.specs.Line.{command_of}
use Rattle.snd_command.specs.Said.{Said}
use Rattle.snd_command.specs.declared.refusal.ScriptRefusal.{ScriptRefusal}
use Rattle.snd_command.specs.declared.refusal.ScriptRefusal.TheVariants as line
use Rattle.snd_layout.specs.Blocks.{is_adpcm}
use Rattle.snd_layout.specs.Params.{Parameters, params_of}
use Rattle.snd_layout.specs.declared.error.OpenError.{OpenError}
use Rattle.snd_layout.specs.declared.error.OpenError.TheVariants as error
use Rattle.snd_layout.specs.declared.kind.Kind.{Kind}
use Rattle.snd_layout.specs.declared.refusal.OpenRefusal.{OpenRefusal}
use Rattle.snd_meters.specs.Gauge.{Gauge}
use Rattle.snd_edits.specs.Editing.{Editing, opening_of}
use Rattle.snd_edits.specs.Making.{making_of}
use Rattle.snd_edits.specs.Updating.{updating_of}
use Rattle.snd_rules.specs.Desk.{Desk, Mode, OpenFile, Store, encoding, frames_told, is_pinned, pinned, reading, updating, writing, closed_desk, open_desk, store_closed}
use Rattle.snd_rules.specs.Rules.{FileEdited, Rule, codec_of, grounds_of, is_close, rule_of}
use Rattle.snd_rules.specs.Replies.{Answer, nothing, says, refuses, file_line, ok_line}
use Rattle.snd_lines.specs.declared.refusal.Refusal.{Refusal}
use Rattle.snd_lines.specs.declared.refusal.Refusal.TheVariants.{Open, AdpcmUpdate, UnknownLength, BadCommand, LineTooLong, NotOpen, MissingFile}

-- what is answered, and the state afterwards
pub record Edited : Type 0 where
  pub answer : Answer
  pub desk : Desk

abbrev pub refused : Refusal → Desk → Edited
refused refusal desk = record { answer = refuses refusal; desk = desk }

-- ---- a file is opened

-- how: to be read, to be updated, to be pinned, or made anew with these parameters
pub data Opening : Type 0 where
  for_reading : Opening
  for_updating : Opening
  for_pinning : Opening
  for_making : Kind → Parameters → Opening

-- one that is made is open by its codec
abbrev pub mode_made : Bool → Mode
mode_made in_blocks = if in_blocks then encoding else writing

abbrev pub mode_for : Opening → Mode
mode_for Opening.for_reading = reading
mode_for Opening.for_updating = updating
mode_for Opening.for_pinning = pinned
mode_for (Opening.for_making kind p) = mode_made (is_adpcm p.codec)

abbrev pub as_opened : Result Editing OpenRefusal → Result Editing OpenError
as_opened (Ok e) = Ok e
as_opened (Err refusal) = Err (error.Refused refusal)

-- the state in which it begins, by its bytes, or why it is not opened
abbrev pub opened_as : Opening → List ℕ → Result Editing OpenError
opened_as Opening.for_reading b = as_opened (opening_of b)
opened_as Opening.for_updating b = updating_of b
opened_as Opening.for_pinning b = updating_of b
opened_as (Opening.for_making kind p) b = as_opened (making_of kind p)

-- .. in a script's words; what is not a refusal does not come of bytes
abbrev pub open_refusal : OpenError → Refusal
open_refusal (error.Refused refusal) = Open refusal
open_refusal error.AdpcmUpdate = AdpcmUpdate
open_refusal error.UnknownLength = UnknownLength
open_refusal other = NotOpen

abbrev pub file_opened : List ℕ → Opening → Editing → List Gauge → OpenFile
file_opened name opening e taps = record { name = name; mode = mode_for opening; editing = e; taps = taps }

-- it is open, and its line is said
abbrev pub opened_edit : Store → OpenFile → Edited
opened_edit store file = record { answer = says (file_line file.editing.shape); desk = open_desk store file }

abbrev pub open_edit_of : Store → List ℕ → Opening → Result Editing OpenError → Edited
open_edit_of store name opening (Err why) = refused (open_refusal why) (closed_desk store)
open_edit_of store name opening (Ok e) = opened_edit store (file_opened name opening e store.taps)

-- a file that is there, or that is made whatever was there
abbrev pub open_edit : Store → List ℕ → Opening → Option (List ℕ) → Edited
open_edit store name opening None = refused MissingFile (closed_desk store)
open_edit store name opening (Some b) = open_edit_of store name opening (opened_as opening b)

abbrev pub make_edit : Store → List ℕ → Kind → Result Parameters OpenRefusal → Edited
make_edit store name kind (Err refusal) = refused (Open refusal) (closed_desk store)
make_edit store name kind (Ok p) = open_edit_of store name (Opening.for_making kind p) (as_opened (making_of kind p))

-- ---- with no file open

abbrev pub edit_closed : Store → Said → Edited
edit_closed store (Said.open_read name) = open_edit store name Opening.for_reading (store.files name)
edit_closed store (Said.open_update name) = open_edit store name Opening.for_updating (store.files name)
edit_closed store (Said.create kind word channels rate name) = make_edit store name kind (params_of channels rate (codec_of word channels rate))
edit_closed store said = refused NotOpen (closed_desk store)

-- ---- with a file open

abbrev pub edit_unless : Option Refusal → FileEdited → Editing → FileEdited
edit_unless (Some refusal) done e = record { answer = refuses refusal; editing = e }
edit_unless None done e = done

abbrev pub edit_by : Rule → Editing → FileEdited
edit_by rule e = edit_unless (rule.refusal (grounds_of e)) (rule.done e) e

-- any command but one that closes it
abbrev pub edit_file : Mode → List Gauge → Said → Editing → FileEdited
edit_file mode taps said e = edit_by (rule_of mode taps said) e

-- what a rule makes of the taps of a file
abbrev pub taps_by : Rule → OpenFile → List Gauge
taps_by rule file = rule.taps file.editing.shape.params.codec (rule.feeds file.editing) file.taps

abbrev pub file_by : Rule → OpenFile → OpenFile
file_by rule file = record file { editing = (edit_by rule file.editing).editing; taps = taps_by rule file }

abbrev pub keep_open : Store → OpenFile → Rule → Edited
keep_open store file rule = record { answer = (edit_by rule file.editing).answer; desk = open_desk store (file_by rule file) }

-- closing says how many frames there are
abbrev pub frames_of : OpenFile → ℕ
frames_of file = frames_told file.mode file.editing.shape file.editing.write_place

abbrev pub close_edit : Store → OpenFile → Edited
close_edit store file = record { answer = says (ok_line (frames_of file)); desk = closed_desk (store_closed (open_desk store file)) }

-- a file that is pinned is not closed
abbrev pub edit_open : Store → OpenFile → Said → Edited
edit_open store file said =
    if is_close said && not (is_pinned file.mode) then close_edit store file else keep_open store file (rule_of file.mode file.taps said)

-- ---- any command

abbrev pub edit_on : Store → Option OpenFile → Said → Edited
edit_on store None said = edit_closed store said
edit_on store (Some file) said = edit_open store file said

abbrev pub edit : Desk → Said → Edited
edit desk said = edit_on desk.store desk.open_file said

-- a whole line, which may say nothing or no command
abbrev pub line_edit : Desk → Result (Option Said) ScriptRefusal → Edited
line_edit desk (Ok None) = record { answer = nothing; desk = desk }
line_edit desk (Ok (Some said)) = edit desk said
line_edit desk (Err line.LineTooLong) = refused LineTooLong desk
line_edit desk (Err line.BadCommand) = refused BadCommand desk

abbrev pub edit_line : Desk → List ℕ → Edited
edit_line desk line = line_edit desk (command_of line)

-- the refusal of a line that is no command
abbrev pub RefusesLine : ScriptRefusal → Refusal → Type 0
RefusesLine no_command refusal = (desk : Desk) → line_edit desk (Err no_command) ≡ refused refusal desk
