-- What is set in the head of a file that is made, by how the call that sets it ended.
use Rattle.std.proofs.Common.{◌≡◌, ◌≢◌, ◌⊎◌, ⊎_elim, ℕ, ◌<◌, ◌≤◌, ◌==◌, Bool, true, false, not, ◌&&◌, List, length, Option, None, Some, Result, Ok, Err, inl, inr, refl, sym, ap, ◌∙◌, subst, arith, rules}
use Rattle.std.specs.Prelude.{◌↔◌, IfErr, IsErrOf, codes, is_none, nat_le, nat_lt, if◌then◌else◌}
use Rattle.snd_command.specs.Forms.{is_text}
use Rattle.snd_meta.specs.Broadcast.{field_size}
use Rattle.snd_meta.specs.declared.bext.BextKey.{BextKey}
use Rattle.snd_meta.specs.declared.bext.BextKey.TheVariants.{Description, Originator, OrigRef, OrigDate, OrigTime, TimeRef, CodingHist}
use Rattle.std.proofs.lemmas.Bool.{and_from, and_left, and_right, cases_eq, cases_lt, eq-eqb, le-leb, le-ltb, lt-leb, lt-ltb, ne_eqb}
use Rattle.snd_disk.specs.Device.{AsksAtMost, GoesOnFrom, OnlyReadsOn, WritesAtMost}
use Rattle.snd_disk.specs.declared.disk.Disk.{Ghosts}
use Rattle.snd_disk.specs.declared.disk.Step.{Step}
use Rattle.snd_disk.specs.declared.streams.Sink.{Ghosts as SinkMeaning}
use Rattle.snd_layout.specs.Shape.{Shape}
use Rattle.snd_layout.specs.declared.error.PieceError.{PieceError}
use Rattle.snd_layout.specs.declared.error.PieceError.TheVariants as piece_error
use Rattle.snd_layout.specs.declared.refusal.OpenRefusal.TheVariants.{TooManyChunks}
use Rattle.snd_edits.specs.Editing.{Editing}
use Rattle.snd_edits.specs.Known.{Known}
use Rattle.snd_file.specs.Handle.{Stands, disk_of, known_of, loan_of}
use Rattle.snd_layout.specs.Kinds.{holds_meta, holds_pieces, is_reserved}
use Rattle.snd_edits.specs.PieceCalls.{AddLeaves, AddsTooMany, IsPutRefusal, IsUntouched, MayPut, to_add, to_replace}
use Rattle.snd_file.specs.PieceCalls.{CountsPut, StandsPut}
use Rattle.snd_edits.specs.Relaid.{added_to, place_named, replaced_to}
use Rattle.snd_file.specs.declared.handle.File.{File}
use Rattle.snd_edits.specs.declared.mode.Mode.{Ghosts as ModeGhosts}
use Rattle.snd_patch.specs.Steps.{StillTells}
use Rattle.snd_tags.specs.Drafts.{CountsSetting, IsSet, MaySet, OnlyPuts, SetLeaves, SetsSome}
use Rattle.snd_edits.specs.TagDrafts.{bext_with}
use Rattle.snd_tags.specs.declared.error.SetError.{SetError}
use Rattle.snd_tags.specs.declared.error.SetError.TheVariants as set_error
use Rattle.snd_session.specs.Answered.{Puts, SaysNothing, Sends, put_refused}
use Rattle.snd_rules.specs.Replies.{done_line, refuses}
use Rattle.snd_rules.specs.Rules.{FileEdited, Grounds, Rule, add_rule, answered, chunk_refusal, draft_refusal, drafting, is_full, known_grounds, put_edit, refused_if, says_of, set_bext_rule, text_refusal}
use Rattle.snd_rules.specs.Stepped.{IsAutomatic, IsBrokenAt, IsSaid, LeavesFile, RepliesUnless, Rose, changes_by, refusal_by, reply_of}
use Rattle.snd_session.specs.Follows.{Follows}
use Rattle.snd_rules.specs.declared.reply.Reply.{Reply}
use Rattle.snd_rules.specs.declared.reply.StepFault.{StepFault}
use Rattle.snd_rules.specs.declared.reply.StepFault.TheVariants.{Disk, Memory}
use Rattle.snd_lines.specs.declared.refusal.Refusal.{Refusal}
use Rattle.snd_lines.specs.declared.refusal.Refusal.TheVariants.{AutoOn, BadCommand, ChunkTooLarge, FramesWritten, NoChunks, Open, ReservedChunk, TextTooLong}
use Rattle.snd_session.proofs.Followed.{carried_out, edited_on, refused_on, replied, replied_free, sent_cause, sent_knows, sent_memory, sent_silent, sent_stands, switched}
use Rattle.snd_session.proofs.Refused.{is_refused, not_refused}

-- ---- a call that changes nothing but counts

-- so many bytes were asked at most, and written
pub record IsAsBefore {D M : Type 0} {mode : ModeGhosts M} (d : Ghosts D) (most_asked most_written : ℕ) (old new : File D M d mode) : Type 0 where
  pub loan : loan_of new ≡ loan_of old
  pub known : known_of new ≡ known_of old
  pub stands : (e : Editing) → Stands d.state old e → Stands d.state new e
  pub calm : (d.state (disk_of new)).faults ≡ (d.state (disk_of old)).faults
  pub tells : StillTells (d.state (disk_of old)) (d.state (disk_of new))
  pub time : GoesOnFrom d.state d.left_between (disk_of old) (disk_of new)
  pub reads : OnlyReadsOn d.state d.may_leave d.left_between (disk_of old) (disk_of new)
  pub asked : AsksAtMost d.state most_asked (disk_of old) (disk_of new)
  pub written : WritesAtMost d.state most_written (disk_of old) (disk_of new)

-- the same file
pub stays_as_before : {D M : Type 0} {mode : ModeGhosts M} (d : Ghosts D) (most_asked most_written : ℕ) (file : File D M d mode) → IsAsBefore d most_asked most_written file file
stays_as_before d most_asked most_written file = record {
  loan = refl;
  known = refl;
  stands = λ e here. here;
  calm = refl;
  tells = record { told = refl; name = refl };
  time = record { later = omega arith; same = λ s t x le left. left; kept = λ s t x left. left };
  reads = search rules;
  asked = record { later = omega arith; most = omega arith };
  written = record { later = omega arith; most = omega arith };
}

module _ {D M O : Type 0} {mode : ModeGhosts M} (d : Ghosts D) (o : SinkMeaning O) (rule : Rule) (old : File D M d mode) (out : O) (new : File D M d mode) where
  -- updates are not automatic where the command changes the file
  abbrev pub IsByHand : Type 0
  IsByHand = changes_by rule (known_of old) ≡ true → IsAutomatic rule (known_of old) → ⊥

  -- there was no memory
  pub lacked : IsAsBefore d rule.asked (rule.written (known_of old).shape.params) old new → rule.takes_memory ≡ true → IsByHand → Follows d o rule (Err Memory) old out new out
  lacked same takes by_hand = record {
    loan = same.loan;
    stands = same.stands;
    said = λ e here. refl;
    replies = λ decided. refl;
    silent = refl;
    cause = (same.calm, refl);
    memory = λ is. takes;
    knows = same.known;
    tells = same.tells;
    time = same.time;
    reads = λ plain. same.reads;
    leaves = λ changes on. absurd (by_hand changes on);
    rests = λ changes on. absurd (by_hand changes on);
    begins = λ changes on. absurd (by_hand changes (switched rule (known_of old) on));
    asked = same.asked;
    written = same.written;
  }

  -- the disk failed; where the command would have been refused it was only read
  pub faulted : loan_of new ≡ loan_of old → Rose (d.state (disk_of old)).faults (d.state (disk_of new)).faults
      → ((step : Step) × IsBrokenAt rule.seals_first step (known_of old) (known_of new))
      → StillTells (d.state (disk_of old)) (d.state (disk_of new)) → GoesOnFrom d.state d.left_between (disk_of old) (disk_of new)
      → (changes_by rule (known_of old) ≡ false → OnlyReadsOn d.state d.may_leave d.left_between (disk_of old) (disk_of new)) → IsByHand
      → AsksAtMost d.state rule.asked (disk_of old) (disk_of new) → WritesAtMost d.state (rule.written (known_of old).shape.params) (disk_of old) (disk_of new) → Follows d o rule (Err Disk) old out new out
  faulted loan rose broken tells time reads by_hand asked written = record {
    loan = loan;
    stands = λ e here. tt;
    said = λ e here. refl;
    replies = λ decided. refl;
    silent = refl;
    cause = (rose, refl);
    memory = λ is. absurd (cc);
    knows = broken;
    tells = tells;
    time = time;
    reads = reads;
    leaves = λ changes on. absurd (by_hand changes on);
    rests = λ changes on. absurd (by_hand changes on);
    begins = λ changes on. absurd (by_hand changes (switched rule (known_of old) on));
    asked = asked;
    written = written;
  }

module _ {D M O : Type 0} {mode : ModeGhosts M} (d : Ghosts D) (o : SinkMeaning O) (rule : Rule) (r : Result Reply StepFault) (old : File D M d mode) (out : O) (new : File D M d mode) (out' : O) where
  -- what is shown of a fault after which nothing was said
  pub silently : (fault : StepFault) → SaysNothing fault r out out' → Follows d o rule (Err fault) old out new out → Follows d o rule r old out new out'
  silently fault nothing follows =
      subst (λ (x : Result Reply StepFault). Follows d o rule x old out new out') (sym nothing.0) (subst (λ (x : O). Follows d o rule (Err fault) old out new x) (sym nothing.1) follows)

  -- a command that was refused, as every disk has it
  pub refused_reading : (refusal : Refusal) → IsAsBefore d rule.asked (rule.written (known_of old).shape.params) old new → refusal_by rule (known_of old) ≡ Some refusal → Sends o (refuses refusal) r out out' → Follows d o rule r old out new out'
  refused_reading refusal same why sends = record {
    loan = same.loan;
    stands = λ e here. subst (λ (x : FileEdited). LeavesFile r x e (Stands d.state new)) (edited_on d o rule r old out new out' (Some refusal) why e here) (sent_stands r _ _ _ e _ sends.sent (same.stands e here));
    said = λ e here. subst (λ (x : FileEdited). IsSaid r x.answer (o.told out) (o.told out')) (edited_on d o rule r old out new out' (Some refusal) why e here) sends.said;
    replies = λ decided. replied d o rule r old out new out' (refuses refusal) (Some refusal) why refl sends.said;
    silent = sent_silent r _ _ _ _ sends.sent;
    cause = sent_cause r _ _ _ _ sends.sent same.calm;
    memory = sent_memory r _ _ _ sends.sent;
    knows = sent_knows r _ _ rule (known_of old) (known_of new) (refuses refusal) _ _ sends.sent sends.said
        (subst (λ (x : Option Refusal). RepliesUnless x rule (known_of old) (known_of new) (reply_of (refuses refusal))) (sym why) (refl, same.known));
    tells = same.tells;
    time = same.time;
    reads = λ plain. same.reads;
    leaves = λ changes. absurd (let none = unchanged in cc);
    rests = λ changes. absurd (let none = unchanged in cc);
    begins = λ changes. absurd (let none = unchanged in cc);
    asked = same.asked;
    written = same.written;
  }
    where
      unchanged : changes_by rule (known_of old) ≡ false
      unchanged = ap (λ x. rule.changes && is_none x) why ∙ and_right rule.changes false refl

  -- .. and as the disk alone has it
  pub found_out : (refusal : Refusal) → IsAsBefore d rule.asked (rule.written (known_of old).shape.params) old new → refusal_by rule (known_of old) ≡ None → rule.finds (known_grounds (known_of old)) refusal ≡ true → IsByHand d o rule old out new
      → ((e : Editing) → Stands d.state old e → rule.done e ≡ answered (refuses refusal) e) → (rule.asked ≡ 0 → ⊥) → Sends o (refuses refusal) r out out' → Follows d o rule r old out new out'
  found_out refusal same free finds by_hand done asks sends = record {
    loan = same.loan;
    stands = λ e here. subst (λ (x : FileEdited). LeavesFile r x e (Stands d.state new)) (sym (done e here) ∙ edited_on d o rule r old out new out' None free e here)
        (sent_stands r _ _ (answered (refuses refusal) e) e _ sends.sent (same.stands e here));
    said = λ e here. subst (λ (x : FileEdited). IsSaid r x.answer (o.told out) (o.told out')) (sym (done e here) ∙ edited_on d o rule r old out new out' None free e here) sends.said;
    replies = replied_free d o rule r old out new out' free (λ none. absurd (asks none));
    silent = sent_silent r _ _ _ _ sends.sent;
    cause = sent_cause r _ _ _ _ sends.sent same.calm;
    memory = sent_memory r _ _ _ sends.sent;
    knows = sent_knows r _ _ rule (known_of old) (known_of new) (refuses refusal) _ _ sends.sent sends.said
        (subst (λ (x : Option Refusal). RepliesUnless x rule (known_of old) (known_of new) (reply_of (refuses refusal))) (sym free) (inr (refusal, finds, refl, same.known)));
    tells = same.tells;
    time = same.time;
    reads = λ plain. same.reads;
    leaves = λ changes on. absurd (by_hand changes on);
    rests = λ changes on. absurd (by_hand changes on);
    begins = λ changes on. absurd (by_hand changes (switched rule (known_of old) on));
    asked = same.asked;
    written = same.written;
  }

-- ---- why a chunk is not put

by_hand_early : (written automatic : Bool) (rest : Option Refusal) → refused_if written FramesWritten (refused_if automatic AutoOn rest) ≡ None → automatic ≡ false
by_hand_early true automatic rest is = absurd (cc)
by_hand_early false true rest is = absurd (cc)
by_hand_early false false rest is = refl

changing_free : (why : Option Refusal) → is_none why ≡ true → why ≡ None
changing_free None is = refl
changing_free (Some refusal) is = absurd (cc)

pub off : (automatic : Bool) → automatic ≡ false → (automatic ≡ true) ⊎ (automatic ≡ true) → ⊥
off automatic is on = ⊎_elim (λ e. absurd (cc)) (λ e. absurd (cc)) on

pub untouched : (k : Known) (rest : Option Refusal) → IsUntouched k → refused_if k.written FramesWritten (refused_if k.automatic AutoOn rest) ≡ rest
untouched k rest un = not_refused k.written FramesWritten _ un.empty ∙ not_refused k.automatic AutoOn rest un.by_hand

pub late : (k : Known) (rest : Option Refusal) → k.written ≡ true → refused_if k.written FramesWritten (refused_if k.automatic AutoOn rest) ≡ Some FramesWritten
late k rest is = is_refused k.written FramesWritten _ is

pub auto : (k : Known) (rest : Option Refusal) → k.written ≡ false → k.automatic ≡ true → refused_if k.written FramesWritten (refused_if k.automatic AutoOn rest) ≡ Some AutoOn
auto k rest empty is = not_refused k.written FramesWritten _ empty ∙ is_refused k.automatic AutoOn rest is

-- ---- a draft that is put

draft_free : (k : Known) → IsUntouched k → holds_meta k.shape.kind ≡ true → draft_refusal (known_grounds k) ≡ None
draft_free k un held = untouched k _ un ∙ not_refused (not (holds_meta k.shape.kind)) NoChunks None (ap not held)

draft_none : (k : Known) → IsUntouched k → holds_meta k.shape.kind ≡ false → draft_refusal (known_grounds k) ≡ Some NoChunks
draft_none k un held = untouched k _ un ∙ is_refused (not (holds_meta k.shape.kind)) NoChunks None (ap not held)

few_stand : (place n : ℕ) → (place ≡ n → place < 240) → ((place == n) && nat_le 240 n) ≡ false
few_stand place n few = elim (cases_eq place n) [
  | inl is ↦ let lt : place < 240 = few is in and_right (place == n) (nat_le 240 n) (lt-leb 240 n (omega arith))
  | inr other ↦ and_left (place == n) (nat_le 240 n) (ne_eqb place n other)
]

many_stand : (place n : ℕ) → place ≡ n → 240 ≤ place → ((place == n) && nat_le 240 n) ≡ true
many_stand place n is many = and_from (place == n) (nat_le 240 n) (eq-eqb place n is) (le-leb 240 n (omega arith))

if_true : {A : Type 0} (b : Bool) (x y : A) → b ≡ true → (if b then x else y) ≡ x
if_true b x y is = ap (λ c. if c then x else y) is

if_false : {A : Type 0} (b : Bool) (x y : A) → b ≡ false → (if b then x else y) ≡ y
if_false b x y is = ap (λ c. if c then x else y) is

edit_small : (id body : List ℕ) (e : Editing) → length body ≤ 65536
    → put_edit id body e ≡ (if is_full id e.shape then answered (refuses (Open TooManyChunks)) e else says_of done_line (replaced_to id body e))
edit_small id body e small = if_false (nat_lt 65536 (length body)) _ _ (le-ltb 65536 (length body) small)

edit_put : (id body : List ℕ) (k : Known) (e : Editing) → k.shape ≡ e.shape → MayPut (to_replace id body k) k → put_edit id body e ≡ says_of done_line (replaced_to id body e)
edit_put id body k e same may =
    edit_small id body e may.small
    ∙ if_false (is_full id e.shape) _ _ (ap (λ (s : Shape). is_full id s) (sym same) ∙ few_stand (place_named id k.shape) (length k.shape.pieces) may.few)

edit_large : (id body : List ℕ) (e : Editing) → 65536 < length body → put_edit id body e ≡ answered (refuses ChunkTooLarge) e
edit_large id body e large = if_true (nat_lt 65536 (length body)) _ _ (lt-ltb 65536 (length body) large)

edit_full : (id body : List ℕ) (k : Known) (e : Editing) → k.shape ≡ e.shape → length body ≤ 65536 → AddsTooMany (place_named id k.shape) k → put_edit id body e ≡ answered (refuses (Open TooManyChunks)) e
edit_full id body k e same small many =
    edit_small id body e small
    ∙ if_true (is_full id e.shape) _ _ (ap (λ (s : Shape). is_full id s) (sym same) ∙ many_stand (place_named id k.shape) (length k.shape.pieces) many.0 many.1)

-- how a call that sets something ended, and how it was answered
pub record WasSet {D M O T : Type 0} {mode : ModeGhosts M} (d : Ghosts D) (o : SinkMeaning O) (id : List ℕ) (body : Editing → List ℕ) (put : Result T SetError) (r : Result Reply StepFault) (old : File D M d mode) (out : O) (new : File D M d mode) (out' : O) : Type 0 where
  pub loan : loan_of new ≡ loan_of old
  pub left : SetsSome id (known_of old) (known_of new) put
  pub sets : (e : Editing) → Stands d.state old e → SetLeaves id (body e) (known_of old) (known_of new) put × IsSet (Stands d.state new) id (body e) e put
  pub puts : OnlyPuts d old new put
  pub tells : StillTells (d.state (disk_of old)) (d.state (disk_of new))
  pub time : GoesOnFrom d.state d.left_between (disk_of old) (disk_of new)
  pub faults : CountsSetting d.state old new put
  pub written : WritesAtMost d.state 16777216 (disk_of old) (disk_of new)
  pub asked : AsksAtMost d.state 16777216 (disk_of old) (disk_of new)
  pub said : Puts o put r out out'

-- why it is refused over every disk, where the text is too long and where it is not
abbrev pub IsWhySet : {T : Type 0} → Result T SetError → Grounds → Option Refusal → Type 0
IsWhySet (Err set_error.TextTooLong) g why = why ≡ Some TextTooLong
IsWhySet (Err (set_error.Put error)) g why = why ≡ draft_refusal g
IsWhySet (Ok done) g why = why ≡ draft_refusal g

module _ {D M O : Type 0} {mode : ModeGhosts M} (d : Ghosts D) (o : SinkMeaning O) (id : List ℕ) (refusal : Grounds → Option Refusal) (body : Editing → List ℕ)
    (r : Result Reply StepFault) (old : File D M d mode) (out : O) (new : File D M d mode) (out' : O) where
  abbrev rule : Rule
  rule = drafting id refusal body

  abbrev k : Known
  k = known_of old

  by_hand : refusal (known_grounds k) ≡ draft_refusal (known_grounds k) → IsByHand d o rule old out new
  by_hand why changes on =
      off k.automatic (by_hand_early k.written k.automatic _ (sym why ∙ changing_free (refusal (known_grounds k)) changes)) on

  as_before : {T : Type 0} (put : Result T SetError) → WasSet d o id body put r old out new out' → known_of new ≡ known_of old → ((e : Editing) → Stands d.state old e → Stands d.state new e)
      → (d.state (disk_of new)).faults ≡ (d.state (disk_of old)).faults → OnlyReadsOn d.state d.may_leave d.left_between (disk_of old) (disk_of new) → IsAsBefore d 16777216 16777216 old new
  as_before put was known stands calm reads = record {
    loan = was.loan;
    known = known;
    stands = stands;
    calm = calm;
    tells = was.tells;
    time = was.time;
    reads = reads;
    asked = was.asked;
    written = was.written;
  }

  asks : rule.asked ≡ 0 → ⊥
  asks none = let e : 16777216 ≡ 0 = none in omega (arith, e)

  put_fault : (T : Type 0) (step : Step) → WasSet {T = T} d o id body (Err (set_error.Put (piece_error.DiskFault step))) r old out new out' → refusal (known_grounds k) ≡ draft_refusal (known_grounds k) → Follows d o rule (Err Disk) old out new out
  put_fault T step was why =
      faulted d o rule old out new was.loan (record { later = was.faults.0; rises = was.faults.1 }) (step, was.left.1.1) was.tells was.time
      (λ plain. ⊎_elim (λ (may : MaySet k). absurd (changing may plain)) (λ reads. reads) was.puts) (by_hand why) was.asked was.written
    where
      changing : MaySet k → is_none (refusal (known_grounds k)) ≡ false → ⊥
      changing may plain = let free : refusal (known_grounds k) ≡ None = why ∙ draft_free k may.untouched may.held in absurd (let is : is_none (refusal (known_grounds k)) ≡ true = ap is_none free in cc)

  put_done : {T : Type 0} (done : T) → WasSet d o id body (Ok done) r old out new out' → refusal (known_grounds k) ≡ draft_refusal (known_grounds k) → Follows d o rule r old out new out'
  put_done done was why =
      carried_out d o rule r old out new out' done_line was.loan (why ∙ draft_free k may.untouched may.held) was.said.sent was.said.said
      (λ e here. ap (λ (x : FileEdited). x.answer) (edited e here))
      (λ none. absurd (asks none))
      (λ e here. subst (λ (x : FileEdited). Stands d.state new x.editing) (sym (edited e here)) (was.sets e here).1)
      (was.left.0, was.left.1.1) was.faults was.tells was.time (λ same. absurd (cc))
      (λ changes on. absurd (off k.automatic may.untouched.by_hand on)) (λ changes on. absurd (off k.automatic may.untouched.by_hand on)) (λ changes on. absurd (cc)) was.asked was.written
    where
      may : MayPut (to_replace id was.left.0 k) k
      may = was.left.1.0

      edited : (e : Editing) → Stands d.state old e → put_edit id (body e) e ≡ says_of done_line (replaced_to id (body e) e)
      edited e here = edit_put id (body e) k e here.shape (was.sets e here).0.0

  pub follows_drafting : {T : Type 0} (put : Result T SetError) → WasSet d o id body put r old out new out' → IsWhySet put (known_grounds k) (refusal (known_grounds k)) → Follows d o rule r old out new out'
  follows_drafting (Ok done) was why = put_done done was why
  follows_drafting (Err set_error.TextTooLong) was why =
      refused_reading d o rule r old out new out' TextTooLong (as_before (Err set_error.TextTooLong) was was.left.1 (λ e here. (was.sets e here).1) was.faults was.puts) why was.said
  follows_drafting (Err (set_error.Put piece_error.FramesWritten)) was why =
      refused_reading d o rule r old out new out' FramesWritten (as_before _ was was.left.1.1 (λ e here. (was.sets e here).1) was.faults was.puts) (why ∙ late k _ was.left.1.0.1) was.said
  follows_drafting (Err (set_error.Put piece_error.AutoOn)) was why =
      refused_reading d o rule r old out new out' AutoOn (as_before _ was was.left.1.1 (λ e here. (was.sets e here).1) was.faults was.puts) (why ∙ auto k _ was.left.1.0.1 was.left.1.0.2) was.said
  follows_drafting (Err (set_error.Put piece_error.ReservedChunk)) was why = absurd (let is : false ≡ true = was.left.1.0.1 in cc)
  follows_drafting (Err (set_error.Put piece_error.NoChunks)) was why =
      refused_reading d o rule r old out new out' NoChunks (as_before _ was was.left.1.1 (λ e here. (was.sets e here).1) was.faults was.puts) (why ∙ draft_none k was.left.1.0.0 was.left.1.0.2) was.said
  follows_drafting (Err (set_error.Put piece_error.ChunkTooLarge)) was why =
      found_out d o rule r old out new out' ChunkTooLarge (as_before _ was was.left.1.1 (λ e here. (was.sets e here).1) was.faults was.puts) (why ∙ draft_free k was.left.1.0.0 was.left.1.0.2) refl (by_hand why)
      (λ e here. edit_large id (body e) e (was.sets e here).0.0.3) asks was.said
  follows_drafting (Err (set_error.Put piece_error.TooManyChunks)) was why =
      found_out d o rule r old out new out' (Open TooManyChunks) (as_before _ was was.left.1.1 (λ e here. (was.sets e here).1) was.faults was.puts) (why ∙ draft_free k was.left.1.0.0 was.left.1.0.2) refl (by_hand why)
      (λ e here. edit_full id (body e) k e here.shape (was.sets e here).0.0.3 (was.sets e here).0.0.4) asks was.said
  follows_drafting (Err (set_error.Put piece_error.ContainerFull)) was why = absurd was.left.1.0
  follows_drafting (Err (set_error.Put (piece_error.Broken step))) was why = absurd was.said
  follows_drafting {T} (Err (set_error.Put (piece_error.DiskFault step))) was why = silently d o rule r old out new out' Disk was.said (put_fault T step was why)
  follows_drafting (Err (set_error.Put piece_error.Memory)) was why =
      silently d o rule r old out new out' Memory was.said
      (lacked d o rule old out new (as_before _ was was.left.1.1 (λ e here. (was.sets e here).1) was.faults was.puts) refl (by_hand why))

-- ---- a chunk that is added

module _ (id body : List ℕ) (k : Known) where
  abbrev why : Option Refusal
  why = chunk_refusal id body (known_grounds k)

  unreserved : IsUntouched k → is_reserved k.shape.kind id ≡ false → (rest : Option Refusal) → refused_if k.written FramesWritten (refused_if k.automatic AutoOn (refused_if (is_reserved k.shape.kind id) ReservedChunk rest)) ≡ rest
  unreserved un free rest = untouched k _ un ∙ not_refused (is_reserved k.shape.kind id) ReservedChunk rest free

  add_held : IsUntouched k → is_reserved k.shape.kind id ≡ false → holds_pieces k.shape.kind ≡ true → why ≡ refused_if (nat_lt 65536 (length body)) ChunkTooLarge (refused_if (nat_le 240 (length k.shape.pieces)) (Open TooManyChunks) None)
  add_held un free held = unreserved un free _ ∙ not_refused (not (holds_pieces k.shape.kind)) NoChunks _ (ap not held)

  add_small : IsUntouched k → is_reserved k.shape.kind id ≡ false → holds_pieces k.shape.kind ≡ true → length body ≤ 65536 → why ≡ refused_if (nat_le 240 (length k.shape.pieces)) (Open TooManyChunks) None
  add_small un free held small = add_held un free held ∙ not_refused (nat_lt 65536 (length body)) ChunkTooLarge _ (le-ltb 65536 (length body) small)

  add_free : MayPut (to_add id body k) k → why ≡ None
  add_free may = add_small may.untouched may.free may.held may.small ∙ not_refused (nat_le 240 (length k.shape.pieces)) (Open TooManyChunks) None (lt-leb 240 _ (may.few refl))

  -- where it is not refused, updates are not automatic
  add_by_hand : is_none why ≡ true → k.automatic ≡ false
  add_by_hand is = by_hand_early k.written k.automatic _ (changing_free why is)

  -- the refusal of the call is that of the rule
  pub add_refused : (error : PieceError) → IsPutRefusal (to_add id body k) k error → k.broken ≡ None → why ≡ Some (put_refused error)
  add_refused (piece_error.Broken step) is working = absurd (cc)
  add_refused piece_error.FramesWritten is working = late k _ is.1
  add_refused piece_error.AutoOn is working = auto k _ is.1 is.2
  add_refused piece_error.ReservedChunk is working = untouched k _ is.0 ∙ is_refused (is_reserved k.shape.kind id) ReservedChunk _ is.1
  add_refused piece_error.NoChunks is working = unreserved is.0 is.1 _ ∙ is_refused (not (holds_pieces k.shape.kind)) NoChunks _ (ap not is.2)
  add_refused piece_error.ChunkTooLarge is working = add_held is.0 is.1 is.2 ∙ is_refused (nat_lt 65536 (length body)) ChunkTooLarge _ (lt-ltb 65536 (length body) is.3)
  add_refused piece_error.TooManyChunks is working = add_small is.0 is.1 is.2 is.3 ∙ is_refused (nat_le 240 (length k.shape.pieces)) (Open TooManyChunks) None (le-leb 240 _ is.4.1)
  add_refused piece_error.ContainerFull is working = absurd is
  add_refused (piece_error.DiskFault step) is working = absurd is
  add_refused piece_error.Memory is working = absurd is

abbrev pub as_set : {T : Type 0} → Result T PieceError → Result T SetError
as_set (Ok done) = Ok done
as_set (Err error) = Err (set_error.Put error)

-- how a call that adds a chunk ended, and how it was answered
pub record WasAdded {D M O T : Type 0} {mode : ModeGhosts M} (d : Ghosts D) (o : SinkMeaning O) (id body : List ℕ) (put : Result T PieceError) (r : Result Reply StepFault) (old : File D M d mode) (out : O) (new : File D M d mode) (out' : O) : Type 0 where
  pub working : (known_of old).broken ≡ None
  pub loan : loan_of new ≡ loan_of old
  pub left : AddLeaves id body (known_of old) (known_of new) put
  pub stands : StandsPut d.state old new (added_to id body) put
  pub unchanged : IfErr put (λ error. error ≡ piece_error.Memory → OnlyReadsOn d.state d.may_leave d.left_between (disk_of old) (disk_of new))
  pub tells : StillTells (d.state (disk_of old)) (d.state (disk_of new))
  pub time : GoesOnFrom d.state d.left_between (disk_of old) (disk_of new)
  pub faults : CountsPut d.state (disk_of old) (disk_of new) put
  pub written : WritesAtMost d.state 16777216 (disk_of old) (disk_of new)
  pub asked : (d.state (disk_of new)).asked ≡ (d.state (disk_of old)).asked
  pub said : Puts o (as_set put) r out out'

module _ {D M O : Type 0} {mode : ModeGhosts M} (d : Ghosts D) (o : SinkMeaning O) (id body : List ℕ)
    (r : Result Reply StepFault) (old : File D M d mode) (out : O) (new : File D M d mode) (out' : O) where
  abbrev adds : Rule
  adds = add_rule id body

  abbrev known : Known
  known = known_of old

  asks_none : (d.state (disk_of new)).asked ≡ (d.state (disk_of old)).asked → AsksAtMost d.state 0 (disk_of old) (disk_of new)
  asks_none is = record { later = omega arith; most = omega arith }

  adds_by_hand : IsByHand d o adds old out new
  adds_by_hand changes on = off known.automatic (add_by_hand id body known changes) on

  add_done : {T : Type 0} (done : T) → WasAdded d o id body (Ok done) r old out new out' → Follows d o adds r old out new out'
  add_done done was =
      carried_out d o adds r old out new out' done_line was.loan (add_free id body known was.left.0) was.said.sent was.said.said (λ e here. refl) (λ none. refl) was.stands
      was.left.1 was.faults was.tells was.time (λ same. absurd (cc))
      (λ changes on. absurd (off known.automatic was.left.0.untouched.by_hand on)) (λ changes on. absurd (off known.automatic was.left.0.untouched.by_hand on)) (λ changes on. absurd (cc)) (asks_none was.asked) was.written

  add_fault : (T : Type 0) (step : Step) → WasAdded {T = T} d o id body (Err (piece_error.DiskFault step)) r old out new out' → Follows d o adds (Err Disk) old out new out
  add_fault T step was =
      faulted d o adds old out new was.loan (record { later = was.faults.0; rises = was.faults.1 }) (step, was.left.1) was.tells was.time
      (λ plain. absurd (let is : is_none (chunk_refusal id body (known_grounds known)) ≡ true = ap is_none (add_free id body known was.left.0) in cc)) adds_by_hand (asks_none was.asked) was.written

  add_lacked : (T : Type 0) → WasAdded {T = T} d o id body (Err piece_error.Memory) r old out new out' → Follows d o adds (Err Memory) old out new out
  add_lacked T was = lacked d o adds old out new same refl adds_by_hand
    where
      same : IsAsBefore d 0 16777216 old new
      same = record {
        loan = was.loan;
        known = was.left.1;
        stands = was.stands;
        calm = was.faults;
        tells = was.tells;
        time = was.time;
        reads = was.unchanged refl;
        asked = asks_none was.asked;
        written = was.written;
      }

  pub follows_adding : {T : Type 0} (put : Result T PieceError) → WasAdded d o id body put r old out new out' → Follows d o adds r old out new out'
  follows_adding (Ok done) was = add_done done was
  follows_adding {T} (Err (piece_error.DiskFault step)) was = silently d o adds r old out new out' Disk was.said (add_fault T step was)
  follows_adding {T} (Err piece_error.Memory) was = silently d o adds r old out new out' Memory was.said (add_lacked T was)
  follows_adding (Err (piece_error.Broken step)) was = absurd was.said
  follows_adding (Err piece_error.FramesWritten) was =
      refused_on d o adds r old out new out' FramesWritten was.loan (add_refused id body known piece_error.FramesWritten was.left.0 was.working) was.said.sent was.said.said was.left.1 was.stands.0 was.stands.1
  follows_adding (Err piece_error.AutoOn) was =
      refused_on d o adds r old out new out' AutoOn was.loan (add_refused id body known piece_error.AutoOn was.left.0 was.working) was.said.sent was.said.said was.left.1 was.stands.0 was.stands.1
  follows_adding (Err piece_error.ReservedChunk) was =
      refused_on d o adds r old out new out' ReservedChunk was.loan (add_refused id body known piece_error.ReservedChunk was.left.0 was.working) was.said.sent was.said.said was.left.1 was.stands.0 was.stands.1
  follows_adding (Err piece_error.NoChunks) was =
      refused_on d o adds r old out new out' NoChunks was.loan (add_refused id body known piece_error.NoChunks was.left.0 was.working) was.said.sent was.said.said was.left.1 was.stands.0 was.stands.1
  follows_adding (Err piece_error.ChunkTooLarge) was =
      refused_on d o adds r old out new out' ChunkTooLarge was.loan (add_refused id body known piece_error.ChunkTooLarge was.left.0 was.working) was.said.sent was.said.said was.left.1 was.stands.0 was.stands.1
  follows_adding (Err piece_error.TooManyChunks) was =
      refused_on d o adds r old out new out' (Open TooManyChunks) was.loan (add_refused id body known piece_error.TooManyChunks was.left.0 was.working) was.said.sent was.said.said was.left.1 was.stands.0 was.stands.1
  follows_adding (Err piece_error.ContainerFull) was = absurd was.left.0

-- ---- texts

text_read : (most : ℕ) (text : List ℕ) (g : Grounds) → is_text text ≡ true → text_refusal most text g ≡ refused_if (nat_lt most (length text)) TextTooLong (draft_refusal g)
text_read most text g is = not_refused (not (is_text text)) BadCommand _ (ap not is)

text_fits : {T : Type 0} (most : ℕ) (text : List ℕ) (g : Grounds) (put : Result T SetError) → is_text text ≡ true → (IsErrOf put set_error.TextTooLong → ⊥) → (most < length text → IsErrOf put set_error.TextTooLong)
    → text_refusal most text g ≡ draft_refusal g
text_fits most text g put is fits long =
    text_read most text g is ∙ not_refused (nat_lt most (length text)) TextTooLong _ (elim (cases_lt most (length text)) [ inl lt ↦ absurd (fits (long lt)) | inr le ↦ le-ltb most (length text) le ])

-- why a text is not set, by its length
pub text_why : {T : Type 0} (most : ℕ) (text : List ℕ) (g : Grounds) (put : Result T SetError) → is_text text ≡ true → (IsErrOf put set_error.TextTooLong ↔ (most < length text)) → IsWhySet put g (text_refusal most text g)
text_why most text g (Err set_error.TextTooLong) is long = text_read most text g is ∙ is_refused (nat_lt most (length text)) TextTooLong _ (lt-ltb most (length text) (long.0 refl))
text_why {T} most text g (Err (set_error.Put error)) is long = text_fits {T = T} most text g (Err (set_error.Put error)) is (λ e. absurd (cc)) long.1
text_why {T} most text g (Ok done) is long = text_fits {T = T} most text g (Ok done) is (λ e. absurd (cc)) long.1

-- .. and where no text is
pub plain_why : {T : Type 0} (g : Grounds) (put : Result T SetError) → (IsErrOf put set_error.TextTooLong → ⊥) → IsWhySet put g (draft_refusal g)
plain_why g (Err set_error.TextTooLong) fits = absurd (fits refl)
plain_why g (Err (set_error.Put error)) fits = refl
plain_why g (Ok done) fits = refl

pub not_text : (most : ℕ) (text : List ℕ) (g : Grounds) → is_text text ≡ false → text_refusal most text g ≡ Some BadCommand
not_text most text g is = is_refused (not (is_text text)) BadCommand _ (ap not is)

-- the rule of a text of the broadcast extension
abbrev pub field_rule : BextKey → List ℕ → Rule
field_rule key text = drafting (codes "bext") (text_refusal (field_size key) text) (bext_with key text)

pub set_bext_is : (key : BextKey) (text : List ℕ) → key ≢ TimeRef → field_rule key text ≡ set_bext_rule key text
set_bext_is Description text other = refl
set_bext_is Originator text other = refl
set_bext_is OrigRef text other = refl
set_bext_is OrigDate text other = refl
set_bext_is OrigTime text other = refl
set_bext_is TimeRef text other = absurd (other refl)
set_bext_is CodingHist text other = refl
