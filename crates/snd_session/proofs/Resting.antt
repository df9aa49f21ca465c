-- A file at rest, while commands are carried out on it and when it is closed.
use Rattle.std.proofs.Common.{◌≡◌, ◌⊎◌, inl, inr, ⊎_elim, ℕ, ◌+◌, ◌≤◌, List, Bool, true, false, ◌&&◌, Option, None, Some, Result, Ok, Err, refl, sym, ◌∙◌, ap, subst, arith}
use Rattle.std.specs.Prelude.{is_none, nat_lt, if◌then◌else◌}
use Rattle.std.proofs.lemmas.Bool.{cases_Bool, ltb-false}
use Rattle.snd_blocks.specs.Frames.{has_bad}
use Rattle.snd_disk.specs.Device.{OnlyReadsOn}
use Rattle.snd_disk.specs.declared.disk.Disk.{Ghosts}
use Rattle.snd_disk.specs.declared.streams.Sink.{Ghosts as SinkMeaning}
use Rattle.snd_layout.specs.Shape.{Shape}
use Rattle.snd_meta.specs.declared.bext.BextKey.{BextKey}
use Rattle.snd_meta.specs.declared.bext.BextKey.TheVariants.{Description, Originator, OrigRef, OrigDate, OrigTime, TimeRef, CodingHist}
use Rattle.snd_edits.specs.Closing.{closed_to}
use Rattle.snd_edits.specs.Editing.{Editing, frames_left}
use Rattle.snd_edits.specs.Edits.{sealed_to}
use Rattle.snd_file.specs.Handle.{Stands, disk_of, known_of}
use Rattle.snd_edits.specs.Laws.{HoldsFrames, IsStateOf, KeepsFile}
use Rattle.snd_edits.specs.Pacing.{HasPlaceFor}
use Rattle.snd_file.specs.Rest.{IsAtRest}
use Rattle.snd_edits.specs.Safe.{IsSafe}
use Rattle.snd_file.specs.declared.handle.File.{File}
use Rattle.snd_edits.specs.declared.mode.Mode.{Ghosts as ModeGhosts}
use Rattle.snd_edits.proofs.Public.{keeps_beside, same_file, sealed_keeps_file}
use Rattle.snd_file.proofs.Public.{keeps_of, left_at_rest}
use Rattle.snd_patch.proofs.Public.{leaves_weaker}
use Rattle.snd_patch.specs.Images.{LeavesEach}
use Rattle.snd_meters.specs.Gauge.{Gauge}
use Rattle.snd_rules.specs.Desk.{Mode, encodes, encoding, all_put, is_pinned, makes, pinned, reading, reads, updates, updating, writes, writing}
use Rattle.snd_rules.specs.Edit.{edit_by, edit_unless}
use Rattle.snd_rules.specs.Rules.{FileEdited, Grounds, Rule, answered, auto_rule, by_blocks, encode_rule, frames_wanted, grounds_of, in_mode, promote_rule, read_rule, refused_if, refused_rule, reserve_rule, seek_both_rule, seek_read_rule, seek_rule, seek_write_rule, set_bext_rule, set_chunk_rule, set_cue_rule, set_string_rule, trim_rule, truncate_rule, unless_pinned, update_rule, write_rule}
use Rattle.snd_rules.specs.Stepped.{IsAutomatic, LeavesFile, changes_by}
use Rattle.snd_session.specs.Follows.{Follows}
use Rattle.snd_session.specs.Handled.{IsResting}
use Rattle.snd_rules.specs.Work.{asking_rule, setting_rule, work_rule}
use Rattle.snd_rules.specs.declared.reply.Reply.{Reply}
use Rattle.snd_rules.specs.declared.reply.StepFault.{StepFault}
use Rattle.snd_rules.specs.declared.reply.StepFault.TheVariants.{Disk, Out, Memory}
use Rattle.snd_lines.specs.declared.refusal.Refusal.{Refusal}
use Rattle.snd_lines.specs.declared.refusal.Refusal.TheVariants.{AdpcmSeek, AdpcmUpdate, AlreadyOpen, Pinned, SeekRange}
use Rattle.snd_rules.specs.declared.work.Asking.{Asking}
use Rattle.snd_rules.specs.declared.work.Asking.TheVariants as asking
use Rattle.snd_rules.specs.declared.work.Setting.{Setting}
use Rattle.snd_rules.specs.declared.work.Setting.TheVariants as setting
use Rattle.snd_rules.specs.declared.work.Work.{Work}
use Rattle.snd_rules.specs.Replies.{Answer, done_line, says}
use Rattle.snd_rules.proofs.Public.{bad_read, good_read}
use Rattle.snd_session.proofs.Followed.{same_grounds}
use Rattle.snd_rules.specs.declared.work.Work.TheVariants.{Open, Update, Make, Close, Tell, SeekRead, SeekWrite, SeekBoth, Read, Write, Truncate, Trim, BringUp, Auto, Promote, Set, Ask, Tap, Untap}

-- ---- commands that change no file move at most its places

pub record IsMoved (e e' : Editing) : Type 0 where
  pub place : ℕ
  pub write_place : ℕ
  pub is : e' ≡ record e { place = place; write_place = write_place }
  pub within : place ≤ e.shape.frames
  pub write_within : (write_place ≡ e.write_place) ⊎ (write_place ≤ e.shape.frames)

bext_changes : (key : BextKey) (text : List ℕ) → (set_bext_rule key text).changes ≡ true
bext_changes Description text = refl
bext_changes Originator text = refl
bext_changes OrigRef text = refl
bext_changes OrigDate text = refl
bext_changes OrigTime text = refl
bext_changes TimeRef text = refl
bext_changes CodingHist text = refl

module _ (e : Editing) (holds : HoldsFrames e) where
  stays : IsMoved e e
  stays = record { place = e.place; write_place = e.write_place; is = refl; within = holds.placed; write_within = inl refl }

  -- one that is refused
  refused_stays : (refusal : Option Refusal) (done : FileEdited) → is_none refusal ≡ false → IsMoved e (edit_unless refusal done e).editing
  refused_stays None done is = absurd (cc)
  refused_stays (Some refusal) done is = stays

  -- a place is sought
  sought : (n : ℕ) (done : FileEdited) → (n ≤ e.shape.frames → IsMoved e done.editing) → IsMoved e (edit_unless (refused_if (nat_lt e.shape.frames n) SeekRange None) done e).editing
  sought n done moves = elim (cases_Bool (nat_lt e.shape.frames n)) [
    | inl past ↦ subst (λ (b : Bool). IsMoved e (edit_unless (refused_if b SeekRange None) done e).editing) (sym past) stays
    | inr within ↦ subst (λ (b : Bool). IsMoved e (edit_unless (refused_if b SeekRange None) done e).editing) (sym within) (moves (ltb-false _ _ within))
  ]

  sought_read : (n : ℕ) → IsMoved e (edit_by (seek_read_rule n) e).editing
  sought_read n = sought n _ (λ le. record { place = n; write_place = e.write_place; is = refl; within = le; write_within = inl refl })

  sought_write : (n : ℕ) → IsMoved e (edit_by (seek_write_rule n) e).editing
  sought_write n = sought n _ (λ le. record { place = e.place; write_place = n; is = refl; within = holds.placed; write_within = inr le })

  sought_both : (n : ℕ) → IsMoved e (edit_by (seek_both_rule n) e).editing
  sought_both n = sought n _ (λ le. record { place = n; write_place = n; is = refl; within = le; write_within = inr le })

  -- one that its mode may lack
  by_mode : (has : Bool) (rule : Rule) → IsMoved e (edit_by rule e).editing → IsMoved e (edit_by (in_mode has rule) e).editing
  by_mode true rule moved = moved
  by_mode false rule moved = stays

  -- .. and that changes the file where it is not refused
  by_refusal : (has : Bool) (rule : Rule) → rule.changes ≡ true → ((in_mode has rule).changes && is_none ((in_mode has rule).refusal (grounds_of e))) ≡ false → IsMoved e (edit_by (in_mode has rule) e).editing
  by_refusal true rule changes is =
      refused_stays (rule.refusal (grounds_of e)) (rule.done e) (ap (λ b. b && is_none (rule.refusal (grounds_of e))) (sym changes) ∙ is)
  by_refusal false rule changes is = stays

  -- .. or is done otherwise by blocks
  abbrev Keeps : Rule → Type 0
  Keeps rule = (rule.changes && is_none (rule.refusal (grounds_of e))) ≡ false → IsMoved e (edit_by rule e).editing

  keeps_in : (has : Bool) (rule : Rule) → Keeps rule → Keeps (in_mode has rule)
  keeps_in true rule keeps = keeps
  keeps_in false rule keeps = λ is. stays

  keeps_by : (blocks : Bool) (coded placed : Rule) → Keeps coded → Keeps placed → Keeps (by_blocks blocks coded placed)
  keeps_by true coded placed by_coded by_placed = by_coded
  keeps_by false coded placed by_coded by_placed = by_placed

  keeps_changing : (rule : Rule) → rule.changes ≡ true → Keeps rule
  keeps_changing rule changes is = by_refusal true rule changes is

  -- .. or which a file that stays open refuses
  by_held : (pins : Bool) (rule : Rule) → ((rule.changes && is_none (rule.refusal (grounds_of e))) ≡ false → IsMoved e (edit_by rule e).editing)
      → ((if pins then refused_rule Pinned else rule).changes && is_none ((if pins then refused_rule Pinned else rule).refusal (grounds_of e))) ≡ false
      → IsMoved e (edit_by (if pins then refused_rule Pinned else rule) e).editing
  by_held true rule moves is = stays
  by_held false rule moves is = moves is

  already_open : (mode : Mode) → IsMoved e (edit_by (unless_pinned true mode (refused_rule AlreadyOpen)) e).editing
  already_open reading = stays
  already_open writing = stays
  already_open encoding = stays
  already_open updating = stays
  already_open pinned = stays

  read_on : (n : ℕ) → IsMoved e (edit_by (read_rule n) e).editing
  read_on n = elim (cases_Bool (has_bad (frames_wanted n e))) [
    | inl bad ↦ subst (λ (x : FileEdited). IsMoved e x.editing) (sym (bad_read n e bad)) stays
    | inr good ↦ subst (λ (x : FileEdited). IsMoved e x.editing) (sym (good_read n e good)) (record {
      place = e.place + frames_left e n;
      write_place = e.write_place;
      is = refl;
      within = omega (arith, holds.count, holds.placed);
      write_within = inl refl;
    })
  ]

  sought_by_mode : (mode : Mode) (n : ℕ) → IsMoved e (edit_by (seek_rule mode n) e).editing
  sought_by_mode reading n = sought_read n
  sought_by_mode writing n = sought_write n
  sought_by_mode encoding n = stays
  sought_by_mode updating n = sought_both n
  sought_by_mode pinned n = sought_both n

  -- what chunks say is asked
  told_stays : (refusal : Option Refusal) (answer : Answer) → IsMoved e (edit_unless refusal (answered answer e) e).editing
  told_stays None answer = stays
  told_stays (Some refusal) answer = stays

  asked_stays : (asking : Asking) → IsMoved e (edit_by (asking_rule asking) e).editing
  asked_stays (asking.Chunk id) = told_stays _ _
  asked_stays asking.Chunks = stays
  asked_stays asking.Texts = told_stays _ _
  asked_stays asking.Broadcast = told_stays _ _
  asked_stays asking.Points = told_stays _ _

  -- something is set
  abbrev IsKept : Mode → Setting → Type 0
  IsKept mode setting = ((in_mode (makes mode) (setting_rule setting)).changes && is_none ((in_mode (makes mode) (setting_rule setting)).refusal (grounds_of e))) ≡ false

  set_moves : (mode : Mode) (setting : Setting) → IsKept mode setting → IsMoved e (edit_by (in_mode (makes mode) (setting_rule setting)) e).editing
  set_moves mode (setting.Chunk id hex) is = by_refusal (makes mode) (set_chunk_rule id.0 hex.now) refl is
  set_moves mode (setting.Text key text) is = by_refusal (makes mode) (set_string_rule key text.now) refl is
  set_moves mode (setting.Field key text) is = by_refusal (makes mode) (set_bext_rule key text.now) (bext_changes key text.now) is
  set_moves mode (setting.Points places) is = by_refusal (makes mode) (set_cue_rule places.now.items) refl is
  set_moves mode setting.Reservation is = by_refusal (makes mode) reserve_rule refl is

  -- whatever is done
  moves : (mode : Mode) (taps : List Gauge) (work : Work) → ((work_rule mode taps work).changes && is_none ((work_rule mode taps work).refusal (grounds_of e))) ≡ false → IsMoved e (edit_by (work_rule mode taps work) e).editing
  moves mode taps Tell is = stays
  moves mode taps (SeekRead n) is = by_mode (reads mode) (seek_read_rule n) (sought_read n)
  moves mode taps (SeekWrite n) is = keeps_in (writes mode) _ (keeps_by (encodes mode) (refused_rule AdpcmSeek) (seek_write_rule n) (λ is. stays) (λ is. sought_write n)) is
  moves mode taps (SeekBoth n) is = sought_by_mode mode n
  moves mode taps (Read n) is = by_mode (reads mode) (read_rule n) (read_on n)
  moves mode taps (Write xs) is = keeps_in (writes mode) _ (keeps_by (encodes mode) (encode_rule xs.now) (write_rule xs.now) (keeps_changing (encode_rule xs.now) refl) (keeps_changing (write_rule xs.now) refl)) is
  moves mode taps (Truncate n) is = keeps_in (writes mode) _ (keeps_by (encodes mode) (refused_rule AdpcmUpdate) (truncate_rule n) (λ is. stays) (keeps_changing (truncate_rule n) refl)) is
  moves mode taps Trim is = keeps_in (writes mode) _ (keeps_by (encodes mode) (refused_rule AdpcmUpdate) trim_rule (λ is. stays) (keeps_changing trim_rule refl)) is
  moves mode taps BringUp is = by_refusal (writes mode) update_rule refl is
  moves mode taps (Auto on) is = by_held (is_pinned mode) (in_mode (writes mode) (auto_rule on)) (λ is. by_refusal (writes mode) (auto_rule on) refl is) is
  moves mode taps Promote is = by_refusal (updates mode) promote_rule refl is
  moves mode taps (Set setting) is = set_moves mode setting is
  moves mode taps (Ask asking) is = asked_stays asking
  moves mode taps (Tap kind) is = told_stays _ (says done_line)
  moves mode taps (Untap kind) is = told_stays _ _
  moves mode taps (Open name) is = already_open mode
  moves mode taps (Update name) is = already_open mode
  moves mode taps (Make kind codec channels rate name) is = already_open mode
  moves mode taps Close is = already_open mode

-- where a place alone has moved, the state is still one of its file
moved_state : {D M : Type 0} {mode : ModeGhosts M} (d : Ghosts D) (opened : List ℕ) (new : File D M d mode) (e e' : Editing) (moved : IsMoved e e') → Stands d.state new (record e { place = moved.place; write_place = moved.write_place })
    → (t : Bool) → mode.ENCODES ≡ t → IsStateOf t opened e → IsStateOf t opened (record e { place = moved.place; write_place = moved.write_place })
moved_state d opened new e e' moved stands true encodes of = record {
  keeps = keeps_beside opened e of.keeps moved.place moved.write_place e.written e.given moved.within;
  given = (stands.given encodes).holds;
  place = subst (HasPlaceFor e.shape) stands.write_place (subst (λ (s : Shape). HasPlaceFor s (known_of new).write_place) stands.shape (new.roomy encodes));
}
moved_state d opened new e e' moved stands false encodes of = record {
  keeps = keeps_beside opened e of.keeps moved.place moved.write_place e.written e.given moved.within;
  linear = of.linear;
  write_placed = ⊎_elim (λ same. omega (arith, same, of.write_placed)) (λ within. within) moved.write_within;
}

-- ---- a disk that is only read

module _ {D M : Type 0} {mode : ModeGhosts M} (d : Ghosts D) (opened : List ℕ) (old : File D M d mode) (e : Editing) (rest : IsAtRest d opened old e) where
  pub reading_is_safe : ((disk : D) (s t : ℕ) (x : List ℕ) → (d.state disk).clock ≤ s → d.left_between disk s t x → d.may_leave disk x) → (last : D)
      → OnlyReadsOn d.state d.may_leave d.left_between (disk_of old) last → (e' : Editing) → LeavesEach d (disk_of old) last (IsSafe e e')
  reading_is_safe only_now last only e' = record {
    time = record { later = omega (arith, only.images.same_time); same = λ s t x le left. only.images.no_more s t x left; kept = only.images.no_fewer };
    now = λ x left. left_at_rest d opened old e rest e' x (only.images.now.no_more x left);
    moments = λ t x left. left_at_rest d opened old e rest e' x (only_now (disk_of old) (d.state (disk_of old)).clock t x (omega arith) (only.images.no_more (d.state (disk_of old)).clock t x left));
    earlier = λ s t x left. inl (only.images.no_more s t x left);
  }

  pub reading_rests : (new : File D M d mode) → OnlyReadsOn d.state d.may_leave d.left_between (disk_of old) (disk_of new) → (e' : Editing) → IsMoved e e' → Stands d.state new e' → IsAtRest d opened new e'
  reading_rests new only e' moved stands =
      subst (λ (g : Editing). IsAtRest d opened new g) (sym moved.is) (record {
        state = moved_state d opened new e e' moved (subst (λ (g : Editing). Stands d.state new g) moved.is stands) mode.ENCODES refl rest.state;
        stands = subst (λ (g : Editing). Stands d.state new g) moved.is stands;
        stable = λ x left. only.keeps.contents ∙ rest.stable x (only.images.now.no_more x left);
        fit = record { bytes = rest.fit.bytes; told = rest.fit.told; there = rest.fit.there; whole = rest.fit.whole };
        sized = λ on free. let sized = rest.sized on free in record { outer = sized.outer; declared = sized.declared; closed = sized.closed };
      })

-- ---- a command

abbrev pub Safely : {D M : Type 0} {mode : ModeGhosts M} (d : Ghosts D) → Rule → File D M d mode → File D M d mode → Type 0
Safely d rule old new = IsAutomatic rule (known_of old) → (opened : List ℕ) (e : Editing) → IsAtRest d opened old e → LeavesEach d (disk_of old) (disk_of new) (IsSafe e (edit_by rule e).editing)

abbrev pub ToRest : {D M : Type 0} {mode : ModeGhosts M} (d : Ghosts D) → Rule → Result Reply StepFault → File D M d mode → File D M d mode → Type 0
ToRest d rule result old new = IsAutomatic rule (known_of old) → (opened : List ℕ) (e : Editing) → IsAtRest d opened old e → LeavesFile result (edit_by rule e) e (IsResting d new)

module _ {D M O : Type 0} {mode : ModeGhosts M} (d : Ghosts D) (o : SinkMeaning O) (how : Mode) (taps : List Gauge) (work : Work) (r : Result Reply StepFault) (old : File D M d mode) (out : O) (new : File D M d mode) (out' : O)
    (only_now : (disk : D) (s t : ℕ) (x : List ℕ) → (d.state disk).clock ≤ s → d.left_between disk s t x → d.may_leave disk x)
    (follows : Follows d o (work_rule how taps work) r old out new out') where
  abbrev rule : Rule
  rule = work_rule how taps work

  pub works_safely : Safely d rule old new
  works_safely on opened e rest = elim (cases_Bool (changes_by rule (known_of old))) [
    | inl changes ↦ follows.leaves changes on opened e rest
    | inr none ↦ reading_is_safe d opened old e rest only_now (disk_of new) (follows.reads none) (edit_by rule e).editing
  ]

  module _ (opened : List ℕ) (e : Editing) (rest : IsAtRest d opened old e) (none : changes_by rule (known_of old) ≡ false) where
    same_refusal : (rule.changes && is_none (rule.refusal (grounds_of e))) ≡ false
    same_refusal = ap (λ (g : Grounds). rule.changes && is_none (rule.refusal g)) (sym (same_grounds d.state old e rest.stands)) ∙ none

    pub still_rests : (r : Result Reply StepFault) → LeavesFile r (edit_by rule e) e (Stands d.state new) → LeavesFile r (edit_by rule e) e (IsResting d new)
    still_rests (Ok reply) stands = (opened, reading_rests d opened old e rest new (follows.reads none) _ (moves e (keeps_of mode.ENCODES opened e rest.state).holds how taps work same_refusal) stands)
    still_rests (Err Out) stands = (opened, reading_rests d opened old e rest new (follows.reads none) _ (moves e (keeps_of mode.ENCODES opened e rest.state).holds how taps work same_refusal) stands)
    still_rests (Err Memory) stands = (opened, reading_rests d opened old e rest new (follows.reads none) e (stays e (keeps_of mode.ENCODES opened e rest.state).holds) stands)
    still_rests (Err Disk) stands = tt

  pub works_to_rest : ToRest d rule r old new
  works_to_rest on opened e rest = elim (cases_Bool (changes_by rule (known_of old))) [
    | inl changes ↦ follows.rests changes on opened e rest
    | inr none ↦ still_rests opened e rest none r (follows.stands e rest.stands)
  ]

-- what begins at rest in some file is at rest
pub also_resting : {D M : Type 0} {mode : ModeGhosts M} (d : Ghosts D) (opened : List ℕ) (r : Result Reply StepFault) (edited : FileEdited) (e : Editing) (new : File D M d mode)
    → LeavesFile r edited e (IsAtRest d opened new) → LeavesFile r edited e (IsResting d new)
also_resting d opened (Ok reply) edited e new rest = (opened, rest)
also_resting d opened (Err Out) edited e new rest = (opened, rest)
also_resting d opened (Err Memory) edited e new rest = (opened, rest)
also_resting d opened (Err Disk) edited e new rest = tt

-- ---- a file is closed

-- what is safe while it is sealed is so in its own state
pub safe_in_place : (opened : List ℕ) (e : Editing) (x : List ℕ) → KeepsFile opened e → IsSafe e (sealed_to e) x → IsSafe e e x
safe_in_place opened e x of safe =
    let file = same_file opened e (sealed_to e) of (sealed_keeps_file opened e of) in
    record {
      sound = safe.sound;
      opens = safe.opens;
      params = safe.params;
      head = ⊎_elim (λ same. inl same) (λ same. inl (same.0, same.1 ∙ file.2)) safe.head;
      count = ⊎_elim (λ same. inl same) (λ same. inl same) safe.count;
      unwritten = λ i lt within un. safe.unwritten i lt within (inr refl);
      risen = safe.risen;
    }

-- .. and while it is closed in the one that has its frames then
pub closes_in_place : {D : Type 0} (d : Ghosts D) (t : Bool) (opened : List ℕ) (e : Editing) (old new : D) → IsStateOf t opened e → LeavesEach d old new (IsSafe e (closed_to t e)) → LeavesEach d old new (IsSafe e (all_put t e))
closes_in_place d true opened e old new of leaves = leaves
closes_in_place d false opened e old new of leaves = leaves_weaker d old new (IsSafe e (sealed_to e)) (IsSafe e e) (λ x safe. safe_in_place opened e x of.keeps safe) leaves
