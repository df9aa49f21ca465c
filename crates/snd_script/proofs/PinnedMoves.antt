-- Commands on a file at rest that stays open: each is answered, and updates stay automatic.
use Rattle.std.specs.Prelude.{nat_lt, if◌then◌else◌}
use Rattle.std.proofs.Common.{◌≡◌, ◌⊎◌, inl, inr, ℕ, ℤ, ◌<◌, ◌≤◌, List, [], ◌∷◌, ◌++◌, Bool, true, false, not, ◌&&◌, Option, None, Some, Result, Ok, Err, length, codes, cond, decimal, refl, sym, ◌∙◌, ap, subst, arith}
use Rattle.std.specs.List.{flat_map}
use Rattle.std.proofs.lemmas.List.{length-append}
use Rattle.snd_command.specs.Said.{Said}
use Rattle.snd_command.specs.declared.refusal.ScriptRefusal.{ScriptRefusal}
use Rattle.snd_command.specs.declared.refusal.ScriptRefusal.TheVariants as no_command
use Rattle.snd_disk.specs.declared.disk.Disk.{Ghosts}
use Rattle.snd_meters.specs.Gauge.{Gauge}
use Rattle.snd_meters.specs.Gauges.{stop_answer}
use Rattle.snd_blocks.specs.Frames.{has_bad}
use Rattle.snd_edits.specs.Editing.{Editing, frames_left, moved_by}
use Rattle.snd_edits.specs.Edits.{cut_to, sealed_to}
use Rattle.snd_edits.specs.Safe.{IsSafe}
use Rattle.snd_edits.specs.declared.error.GetError.TheVariants as get
use Rattle.snd_edits.specs.TagsHeld.{broadcast_of, points_of, texts_of}
use Rattle.snd_edits.specs.declared.tag_error.TagError.{TagError}
use Rattle.snd_edits.specs.declared.tag_error.TagError.TheVariants.{Get, BadBody}
use Rattle.snd_file.proofs.Public.{unchanged}
use Rattle.snd_patch.specs.Images.{LeavesEach}
use Rattle.snd_taps.specs.Names.{tap_name}
use Rattle.snd_taps.specs.declared.tap.TapKind.{TapKind}
use Rattle.snd_taps.specs.declared.tap.TapState.{TapState}
use Rattle.snd_rules.specs.Desk.{Mode, OpenFile, Store, open_desk, pinned, updating}
use Rattle.snd_rules.specs.Edit.{Edited, close_edit, edit_by, edit_file, edit_open, edit_unless, keep_open, line_edit}
use Rattle.snd_session.specs.Handled.{HandleAtRest, HandleStands, handle_disk, handle_known}
use Rattle.snd_rules.specs.Replies.{bext_text, body_text, done_line, error_line, ok_line, frame_line, frames_text, points_text, refuses, says, text_of, texts_text}
use Rattle.snd_lines.specs.Refusals.{refusal_name, refusal_number}
use Rattle.snd_rules.specs.Rules.{FileEdited, Rule, answered, chunk_of, found_answer, frames_wanted, get_bext_rule, get_chunk_rule, get_chunks_rule, get_cues_rule, get_strings_rule, grounds_of, is_close, is_held, promote_rule, read_rule, refused_rule, report_of, rule_of, says_of, seek_both_rule, seek_read_rule, seek_write_rule, tap_rule, tell_rule, trim_rule, truncate_rule, untap_rule, update_rule, write_rule}
use Rattle.snd_script.specs.Trail.{MovesSafely, RestsAt, pinned_file, state_behind}
use Rattle.snd_script.proofs.StaysOpen.{carried}
use Rattle.snd_session.specs.declared.handle.Handle.{Handle}
use Rattle.snd_session.specs.declared.handle.Handle.TheVariants.{R, W, B, U}
use Rattle.snd_lines.specs.declared.refusal.Refusal.{Refusal}
use Rattle.snd_lines.specs.declared.refusal.Refusal.TheVariants.{BadBext, BadBlock, BadCommand, BadCue, BadInfo, ChunkTooLarge, LineTooLong, NoSuchChunk, Pinned, WrongMode}
use Rattle.snd_script.specs.declared.stop.Stop.{Stop}
use Rattle.snd_script.specs.declared.stop.Stop.TheVariants as stop

-- ---- answers

pub record IsAnswering (rule : Rule) : Type 0 where
  pub speaks : (e : Editing) → 0 < length (text_of (edit_by rule e).answer)
  pub automatic : (e : Editing) → (edit_by rule e).editing.automatic ≡ e.automatic

behind : (word rest : List ℕ) → 0 < length word → 0 < length (word ++ rest)
behind word rest some = omega (arith, some, length-append word rest)

error_speaks : (refusal : Refusal) → 0 < length (error_line refusal)
error_speaks refusal =
    let first : length (codes "error ") ≡ 6 = refl in
    behind (codes "error ") (decimal (refusal_number refusal) ++ 32 ∷ [] ++ refusal_name refusal ++ 10 ∷ []) (omega (arith, first))

pub ok_speaks : (rest : List ℕ) → 0 < length (codes "ok " ++ rest)
ok_speaks rest =
    let first : length (codes "ok ") ≡ 3 = refl in
    behind (codes "ok ") rest (omega (arith, first))

frames_speak : (frames : List (List ℤ)) → 0 < length (frames_text frames)
frames_speak frames = behind (ok_line (length frames)) (flat_map frame_line frames) (ok_speaks (decimal (length frames) ++ 10 ∷ []))

-- frames are said, or the block of one is bad
read_speaks : (bad : Bool) (frames : List (List ℤ)) (e moved : Editing) → 0 < length (text_of (cond bad (answered (refuses BadBlock) e) (says_of (frames_text frames) moved)).answer)
read_speaks true frames e moved = error_speaks BadBlock
read_speaks false frames e moved = frames_speak frames

reading_on : (bad : Bool) (frames : List (List ℤ)) (n : ℕ) (e : Editing) → (cond bad (answered (refuses BadBlock) e) (says_of (frames_text frames) (moved_by (frames_left e n) e))).editing.automatic ≡ e.automatic
reading_on true frames n e = refl
reading_on false frames n e = refl

pub unless_speaks : (refusal : Option Refusal) (done : FileEdited) (e : Editing) → 0 < length (text_of done.answer) → 0 < length (text_of (edit_unless refusal done e).answer)
unless_speaks None done e some = some
unless_speaks (Some refusal) done e some = error_speaks refusal

unless_automatic : (refusal : Option Refusal) (done : FileEdited) (e : Editing) → done.editing.automatic ≡ e.automatic → (edit_unless refusal done e).editing.automatic ≡ e.automatic
unless_automatic None done e same = same
unless_automatic (Some refusal) done e same = refl

answering : (rule : Rule) → ((e : Editing) → 0 < length (text_of (rule.done e).answer)) → ((e : Editing) → (rule.done e).editing.automatic ≡ e.automatic) → IsAnswering rule
answering rule some same = record {
  speaks = λ e. unless_speaks (rule.refusal (grounds_of e)) (rule.done e) e (some e);
  automatic = λ e. unless_automatic (rule.refusal (grounds_of e)) (rule.done e) e (same e);
}

refusing : (refusal : Refusal) → IsAnswering (refused_rule refusal)
refusing refusal = record { speaks = λ e. error_speaks refusal; automatic = λ e. refl }

cutting_on : (fewer : Bool) (n : ℕ) (e : Editing) → (cond fewer (cut_to n e) (sealed_to e)).automatic ≡ e.automatic
cutting_on true n e = refl
cutting_on false n e = refl

-- what a chunk says, or why it does not
body_speaks : (body : List ℕ) → 0 < length (text_of (says (body_text body)))
body_speaks [] = ok_speaks (codes "0\n")
body_speaks (b ∷ bs) = ok_speaks _

found_speaks : {T : Type 0} (bad : Refusal) (text : T → List ℕ) (held : Result T TagError) → ((x : T) → 0 < length (text_of (says (text x)))) → 0 < length (text_of (found_answer bad text held))
found_speaks bad text (Ok x) some = some x
found_speaks bad text (Err BadBody) some = error_speaks bad
found_speaks bad text (Err (Get get.ChunkTooLarge)) some = error_speaks ChunkTooLarge
found_speaks bad text (Err (Get get.NoSuchChunk)) some = error_speaks NoSuchChunk
found_speaks bad text (Err (Get (get.Broken step))) some = error_speaks NoSuchChunk
found_speaks bad text (Err (Get (get.DiskFault step))) some = error_speaks NoSuchChunk
found_speaks bad text (Err (Get get.Memory)) some = error_speaks NoSuchChunk

-- a tap begins, or reports
ok_speaks_alone : 0 < length done_line
ok_speaks_alone = omega arith

report_speaks : (kind : TapKind) (answer : Result TapState Refusal) → 0 < length (text_of (report_of kind answer))
report_speaks kind (Ok state) = ok_speaks (tap_name kind ++ 32 ∷ decimal state.frames ++ 32 ∷ decimal state.value ++ 10 ∷ [])
report_speaks kind (Err refusal) = error_speaks refusal

-- a pinned file's rules
answers : (taps : List Gauge) (said : Said) → IsAnswering (rule_of pinned taps said)
answers taps (Said.open_read name) = refusing Pinned
answers taps (Said.open_update name) = refusing Pinned
answers taps (Said.create kind word channels rate name) = refusing Pinned
answers taps Said.info = answering (tell_rule pinned) (λ e. ok_speaks _) (λ e. refl)
answers taps Said.close = refusing Pinned
answers taps (Said.seek_read n) = answering (seek_read_rule n) (λ e. ok_speaks _) (λ e. refl)
answers taps (Said.seek_write n) = answering (seek_write_rule n) (λ e. ok_speaks _) (λ e. refl)
answers taps (Said.seek_both n) = answering (seek_both_rule n) (λ e. ok_speaks _) (λ e. refl)
answers taps (Said.read n) = answering (read_rule n) (λ e. read_speaks (has_bad (frames_wanted n e)) (frames_wanted n e) e (moved_by (frames_left e n) e)) (λ e. reading_on (has_bad (frames_wanted n e)) (frames_wanted n e) n e)
answers taps (Said.write xs) = answering (write_rule xs) (λ e. ok_speaks _) (λ e. refl)
answers taps (Said.truncate n) = answering (truncate_rule n) (λ e. ok_speaks _) (λ e. cutting_on (nat_lt n e.shape.frames) n e)
answers taps Said.trim = answering trim_rule (λ e. ok_speaks _) (λ e. refl)
answers taps Said.update = answering update_rule (λ e. ok_speaks _) (λ e. refl)
answers taps (Said.auto on) = refusing Pinned
answers taps Said.promote = answering promote_rule (λ e. ok_speaks _) (λ e. refl)
answers taps Said.reserve = refusing WrongMode
answers taps (Said.set_chunk id hex) = refusing WrongMode
answers taps (Said.set_string key text) = refusing WrongMode
answers taps (Said.set_bext key text) = refusing WrongMode
answers taps (Said.set_cue places) = refusing WrongMode
answers taps (Said.get_chunk id) = answering (get_chunk_rule id) (λ e. found_speaks NoSuchChunk body_text (chunk_of id e.bytes e.shape) body_speaks) (λ e. refl)
answers taps Said.get_chunks = answering get_chunks_rule (λ e. ok_speaks _) (λ e. refl)
answers taps Said.get_strings = answering get_strings_rule (λ e. found_speaks BadInfo texts_text (texts_of e.bytes e.shape) (λ es. ok_speaks _)) (λ e. refl)
answers taps Said.get_bext = answering get_bext_rule (λ e. found_speaks BadBext bext_text (broadcast_of e.bytes e.shape) (λ b. ok_speaks _)) (λ e. refl)
answers taps Said.get_cues = answering get_cues_rule (λ e. found_speaks BadCue points_text (points_of e.bytes e.shape) (λ ps. ok_speaks _)) (λ e. refl)
answers taps (Said.tap kind) = answering (tap_rule taps kind) (λ e. ok_speaks_alone) (λ e. refl)
answers taps (Said.untap kind) = answering (untap_rule taps kind) (λ e. report_speaks kind (stop_answer kind taps)) (λ e. refl)

-- ---- lines

-- the taps of the open file behind a step
abbrev pub taps_in : List Gauge → Option OpenFile → List Gauge
taps_in taps None = taps
taps_in taps (Some file) = file.taps

abbrev pub taps_behind : List Gauge → Edited → List Gauge
taps_behind taps step = taps_in taps step.desk.open_file

module _ (store : Store) (name : List ℕ) (taps : List Gauge) (e : Editing) where
  abbrev file : OpenFile
  file = pinned_file name taps e

  said_edit : (said : Said) → edit_open store file said ≡ keep_open store file (rule_of pinned taps said)
  said_edit said = as_none (is_close said)
    where
      as_none : (closes : Bool) → (if closes && not true then close_edit store file else keep_open store file (rule_of pinned taps said)) ≡ keep_open store file (rule_of pinned taps said)
      as_none true = refl
      as_none false = refl

  pub said_behind : (said : Said) → state_behind e (edit_open store file said) ≡ (edit_file pinned taps said e).editing
  said_behind said = ap (state_behind e) (said_edit said)

  -- it says something, unless it is no command at all
  pub command_speaks : (command : Result (Option Said) ScriptRefusal) → (command ≡ Ok None) ⊎ (0 < length (text_of (line_edit (open_desk store file) command).answer))
  command_speaks (Ok None) = inl refl
  command_speaks (Ok (Some said)) = inr (subst (λ (x : Edited). 0 < length (text_of x.answer)) (sym (said_edit said)) ((answers taps said).speaks e))
  command_speaks (Err no_command.LineTooLong) = inr (error_speaks LineTooLong)
  command_speaks (Err no_command.BadCommand) = inr (error_speaks BadCommand)

  pub command_automatic : (command : Result (Option Said) ScriptRefusal) → (state_behind e (line_edit (open_desk store file) command)).automatic ≡ e.automatic
  command_automatic (Ok None) = refl
  command_automatic (Ok (Some said)) = ap (λ (g : Editing). g.automatic) (said_behind said) ∙ (answers taps said).automatic e
  command_automatic (Err no_command.LineTooLong) = refl
  command_automatic (Err no_command.BadCommand) = refl

  -- the file stays open
  pub desk_behind : (command : Result (Option Said) ScriptRefusal)
      → (line_edit (open_desk store file) command).desk
      ≡ open_desk store (pinned_file name (taps_behind taps (line_edit (open_desk store file) command)) (state_behind e (line_edit (open_desk store file) command)))
  desk_behind (Ok None) = refl
  desk_behind (Ok (Some said)) = subst (λ (x : Edited). x.desk ≡ open_desk store (pinned_file name (taps_behind taps x) (state_behind e x))) (sym (said_edit said)) refl
  desk_behind (Err no_command.LineTooLong) = refl
  desk_behind (Err no_command.BadCommand) = refl

-- a command that is not refused is carried out as on a file that is updated
pub carried_behind : (mode : Mode) (taps : List Gauge) (said : Said) (e : Editing) → mode ≡ updating → is_held said ≡ false → (edit_file mode taps said e).editing ≡ (edit_file pinned taps said e).editing
carried_behind mode taps said e is other = ap (λ (rule : Rule). (edit_by rule e).editing) (ap (λ (m : Mode). rule_of m taps said) is ∙ sym ((carried said other).rule taps))

-- ---- a handle at rest

pub automatic_of : {D : Type 0} (d : Ghosts D) (handle : Handle D d) (e : Editing) → HandleAtRest d handle e → (handle_known handle).automatic ≡ e.automatic
automatic_of d (R held) e rest = rest.1.stands.automatic
automatic_of d (W held) e rest = rest.1.stands.automatic
automatic_of d (B held) e rest = rest.1.stands.automatic
automatic_of d (U held) e rest = rest.1.stands.automatic

pub stands_of : {D : Type 0} (d : Ghosts D) (handle : Handle D d) (e : Editing) → HandleAtRest d handle e → HandleStands d.state handle e
stands_of d (R held) e rest = rest.1.stands
stands_of d (W held) e rest = rest.1.stands
stands_of d (B held) e rest = rest.1.stands
stands_of d (U held) e rest = rest.1.stands

rests_still : {D T : Type 0} (d : Ghosts D) (r : Result T Stop) (e : Editing) (handle : Handle D d) → HandleAtRest d handle e → RestsAt d r e e handle
rests_still d (Ok x) e handle rest = rest
rests_still d (Err stop.Sink) e handle rest = rest
rests_still d (Err stop.Memory) e handle rest = rest
rests_still d (Err stop.Ended) e handle rest = tt
rests_still d (Err stop.TooLong) e handle rest = tt
rests_still d (Err stop.Script) e handle rest = tt
rests_still d (Err stop.File) e handle rest = tt

module _ {D T : Type 0} (d : Ghosts D) (only_now : (disk : D) (s t : ℕ) (x : List ℕ) → (d.state disk).clock ≤ s → d.left_between disk s t x → d.may_leave disk x) (r : Result T Stop) (e : Editing) where
  pub leaves_still : (handle : Handle D d) → HandleAtRest d handle e → LeavesEach d (handle_disk handle) (handle_disk handle) (IsSafe e e)
  leaves_still (R held) rest = unchanged d rest.0 held e rest.1 only_now e
  leaves_still (W held) rest = unchanged d rest.0 held e rest.1 only_now e
  leaves_still (B held) rest = unchanged d rest.0 held e rest.1 only_now e
  leaves_still (U held) rest = unchanged d rest.0 held e rest.1 only_now e

  -- nothing is done
  pub moves_none : (handle : Handle D d) → HandleAtRest d handle e → MovesSafely d r e e handle handle
  moves_none handle rest = record { leaves = leaves_still handle rest; rests = rests_still d r e handle rest; params = refl }

  -- .. as what is said is refused
  pub moves_refused : (taps : List Gauge) (said : Said) (refusal : Refusal) (handle : Handle D d) → rule_of pinned taps said ≡ refused_rule refusal → HandleAtRest d handle e → MovesSafely d r e (edit_file pinned taps said e).editing handle handle
  moves_refused taps said refusal handle is rest = subst (λ (rule : Rule). MovesSafely d r e (edit_by rule e).editing handle handle) (sym is) (moves_none handle rest)

-- it moves to the same state, by other words
pub moves_as : {D T : Type 0} (d : Ghosts D) (r : Result T Stop) (e e' e'' : Editing) (old new : Handle D d) → e' ≡ e'' → MovesSafely d r e e' old new → MovesSafely d r e e'' old new
moves_as d r e e' e'' old new is moves = subst (λ (g : Editing). MovesSafely d r e g old new) is moves
