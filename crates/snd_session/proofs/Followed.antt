-- A rule is followed on an open file, by what became of the call and of its reply.
use Rattle.std.proofs.Common.{◌≡◌, ℕ, List, Bool, true, false, ◌==◌, ◌&&◌, ◌||◌, Option, None, Some, Result, Ok, Err, inl, inr, refl, sym, ap, ◌∙◌, subst, arith, rules}
use Rattle.std.specs.Prelude.{All, IfErr, IsErrOf, is_none, is_some}
use Rattle.std.proofs.lemmas.Bool.{and_parts, cases_Bool, cases_eq, ne_eqb}
use Rattle.snd_disk.specs.Device.{AsksAtMost, GoesOnFrom, OnlyReadsOn, WritesAtMost}
use Rattle.snd_disk.specs.State.{State}
use Rattle.snd_disk.specs.declared.disk.Disk.{Ghosts}
use Rattle.snd_fields.specs.Laws.{IsByte}
use Rattle.snd_layout.specs.Shape.{Shape}
use Rattle.snd_disk.specs.declared.disk.Step.{Step}
use Rattle.snd_disk.specs.declared.streams.Sink.{Ghosts as SinkMeaning}
use Rattle.snd_edits.specs.Editing.{Editing}
use Rattle.snd_edits.specs.Known.{Known}
use Rattle.snd_edits.specs.Laws.{IsStateOf}
use Rattle.snd_file.specs.Handle.{Stands, disk_of, known_of, loan_of}
use Rattle.snd_file.specs.Rest.{IsAtRest}
use Rattle.snd_edits.specs.Safe.{IsSafe}
use Rattle.snd_file.specs.declared.handle.File.{File}
use Rattle.snd_edits.specs.declared.mode.Mode.{Ghosts as ModeGhosts}
use Rattle.snd_patch.specs.Images.{LeavesEach}
use Rattle.snd_patch.specs.Steps.{StillTells}
use Rattle.snd_rules.specs.Edit.{edit_by, edit_unless}
use Rattle.snd_rules.specs.Rules.{FileEdited, Grounds, Rule, grounds_of, known_grounds}
use Rattle.snd_rules.specs.Replies.{Answer, says, refuses}
use Rattle.snd_rules.specs.Stepped.{IsAutomatic, IsBrokenAt, IsKnown, IsSaid, IsSilent, IsStepCause, Knows, LeavesFile, RepliesBy, RepliesUnless, Rose, changes_by, refusal_by, reply_of, IsSent}
use Rattle.snd_session.specs.Follows.{Follows, switches_on}
use Rattle.snd_session.specs.Handled.{IsResting}
use Rattle.snd_session.specs.Replied.{SaysKnown, known_editing}
use Rattle.snd_rules.specs.declared.reply.Reply.{Reply}
use Rattle.snd_rules.specs.declared.reply.Reply.TheVariants as reply
use Rattle.snd_rules.specs.declared.reply.StepFault.{StepFault}
use Rattle.snd_rules.specs.declared.reply.StepFault.TheVariants.{Disk, Out, Memory}
use Rattle.snd_lines.specs.declared.refusal.Refusal.{Refusal}

-- ---- a reply that was sent, whether or not it got out

pub sent_stands : (r : Result Reply StepFault) (o o' : ℕ) (edited : FileEdited) (e : Editing) (stands : Editing → Type 0) → IsSent r o o' → stands edited.editing → LeavesFile r edited e stands
sent_stands (Ok reply) o o' edited e stands sent here = here
sent_stands (Err Out) o o' edited e stands sent here = here
sent_stands (Err Disk) o o' edited e stands sent here = absurd sent
sent_stands (Err Memory) o o' edited e stands sent here = absurd sent

pub sent_silent : (r : Result Reply StepFault) (o o' : ℕ) (t t' : Option (List ℕ)) → IsSent r o o' → IfErr r (λ fault. IsSilent fault t t')
sent_silent (Ok reply) o o' t t' sent = tt
sent_silent (Err Out) o o' t t' sent = tt
sent_silent (Err Disk) o o' t t' sent = absurd sent
sent_silent (Err Memory) o o' t t' sent = absurd sent

pub sent_cause : (r : Result Reply StepFault) (d d' o o' : ℕ) → IsSent r o o' → d' ≡ d → IsStepCause r d d' o o'
sent_cause (Ok reply) d d' o o' sent calm = (calm, sent)
sent_cause (Err Out) d d' o o' sent calm = (calm, sent)
sent_cause (Err Disk) d d' o o' sent calm = absurd sent
sent_cause (Err Memory) d d' o o' sent calm = absurd sent

pub sent_memory : (r : Result Reply StepFault) (o o' : ℕ) (takes : Bool) → IsSent r o o' → IsErrOf r Memory → takes ≡ true
sent_memory (Ok reply) o o' takes sent is = absurd (cc)
sent_memory (Err Out) o o' takes sent is = absurd (cc)
sent_memory (Err Disk) o o' takes sent is = absurd sent
sent_memory (Err Memory) o o' takes sent is = absurd sent

pub sent_knows : (r : Result Reply StepFault) (o o' : ℕ) (rule : Rule) (old new : Known) (answer : Answer) (t t' : Option (List ℕ)) → IsSent r o o' → IsSaid r answer t t'
    → RepliesBy rule old new (reply_of answer) → Knows r rule old new
sent_knows (Ok reply) o o' rule old new answer t t' sent said replies = subst (λ (x : Reply). RepliesBy rule old new x) (sym said.0) replies
sent_knows (Err Out) o o' rule old new answer t t' sent said replies = (reply_of answer, replies)
sent_knows (Err Disk) o o' rule old new answer t t' sent said replies = absurd sent
sent_knows (Err Memory) o o' rule old new answer t t' sent said replies = absurd sent

-- ---- updates that become automatic are so then

pub switched : (rule : Rule) (h : Known) → switches_on rule h ≡ true → IsAutomatic rule h
switched rule h on = elim (cases_Bool h.automatic) [
  | inl is ↦ inl is
  | inr off ↦ inr (subst (λ (a : Bool). (rule.known (record h { automatic = a })).automatic ≡ true) (sym off) on)
]

-- ---- the grounds of a file are those of the state for which it stands

abbrev grounds : Shape → ℕ → Bool → Bool → Grounds
grounds shape place automatic written = record { shape = shape; write_place = place; automatic = automatic; written = written }

grounds_from : (s s' : Shape) (p p' : ℕ) (a a' w w' : Bool) → s ≡ s' → p ≡ p' → a ≡ a' → w ≡ w' → grounds s p a w ≡ grounds s' p' a' w'
grounds_from s s' p p' a a' w w' shape place automatic written =
    ap (λ x. grounds x p a w) shape ∙ ap (λ x. grounds s' x a w) place ∙ ap (λ x. grounds s' p' x w) automatic ∙ ap (λ x. grounds s' p' a' x) written

pub same_grounds : {D M : Type 0} {ghosts : Ghosts D} {mode : ModeGhosts M} (state : D → State) (file : File D M ghosts mode) (e : Editing) → Stands state file e → known_grounds (known_of file) ≡ grounds_of e
same_grounds state file e stands = grounds_from _ _ _ _ _ _ _ _ stands.shape stands.write_place stands.automatic stands.written

-- ---- what is answered where no content decides it

asks_nothing : (n : ℕ) (why : Option Refusal) → ((n == 0) || is_some why) ≡ true → why ≡ None → n ≡ 0
asks_nothing n why decided free = elim (cases_eq n 0) [
  | inl is ↦ is
  | inr some ↦ absurd (let no : ((n == 0) || is_some why) ≡ false = ap (λ (w : Option Refusal). (n == 0) || is_some w) free ∙ ap (λ (b : Bool). b || false) (ne_eqb n 0 some) in cc)
]

-- ---- whole rules

module _ {D M O : Type 0} {mode : ModeGhosts M} (d : Ghosts D) (o : SinkMeaning O) (rule : Rule) (r : Result Reply StepFault) (old : File D M d mode) (out : O) (new : File D M d mode) (out' : O) where
  -- why it is refused, by what the file stands for
  refusal_on : (e : Editing) → Stands d.state old e → rule.refusal (grounds_of e) ≡ refusal_by rule (known_of old)
  refusal_on e stands = ap rule.refusal (sym (same_grounds d.state old e stands))

  pub edited_on : (refusal : Option Refusal) → refusal_by rule (known_of old) ≡ refusal → (e : Editing) → Stands d.state old e → edit_unless refusal (rule.done e) e ≡ edit_by rule e
  edited_on refusal why e stands = ap (λ x. edit_unless x (rule.done e) e) (sym (refusal_on e stands ∙ why))

  -- from rest, what it leaves at any moment is safe where it is carried out, and the file is at rest then
  abbrev pub LeavesDone : Type 0
  LeavesDone = IsAutomatic rule (known_of old) → (opened : List ℕ) (e : Editing) → IsAtRest d opened old e → LeavesEach d (disk_of old) (disk_of new) (IsSafe e (rule.done e).editing)

  abbrev pub RestsDone : Type 0
  RestsDone = IsAutomatic rule (known_of old) → (opened : List ℕ) (e : Editing) → IsAtRest d opened old e → IsResting d new (rule.done e).editing

  -- where updates become automatic, the file is at rest then, whatever a crash could leave before
  abbrev pub BeginsDone : Type 0
  BeginsDone = switches_on rule (known_of old) ≡ true → (opened : List ℕ) (e : Editing) → IsStateOf mode.ENCODES opened e → All IsByte e.bytes → Stands d.state old e → IsAtRest d opened new (rule.done e).editing

  -- what is said is what would be said of a file of which this is known
  abbrev pub SaysAsKnown : Type 0
  SaysAsKnown = SaysKnown rule r (known_of old) (o.told out) (o.told out')

  pub replied : (answer : Answer) (why : Option Refusal) → refusal_by rule (known_of old) ≡ why → (edit_unless why (rule.done (known_editing (known_of old))) (known_editing (known_of old))).answer ≡ answer
      → IsSaid r answer (o.told out) (o.told out') → IsSaid r (edit_by rule (known_editing (known_of old))).answer (o.told out) (o.told out')
  replied answer why by is said = subst (λ (a : Answer). IsSaid r a (o.told out) (o.told out'))
      (sym (ap (λ (w : Option Refusal). (edit_unless w (rule.done (known_editing (known_of old))) (known_editing (known_of old))).answer) by ∙ is)) said

  -- a command that is not refused asks something of the disk, or its answer is told
  pub replied_free : refusal_by rule (known_of old) ≡ None → (rule.asked ≡ 0 → IsSaid r (rule.done (known_editing (known_of old))).answer (o.told out) (o.told out')) → SaysAsKnown
  replied_free free plain decided = replied (rule.done (known_editing (known_of old))).answer None free refl (plain (asks_nothing rule.asked (refusal_by rule (known_of old)) decided free))

  -- a command that was carried out, and that says a text
  pub carried_out : (text : List ℕ) → loan_of new ≡ loan_of old → refusal_by rule (known_of old) ≡ None → IsSent r (o.faults out) (o.faults out') → IsSaid r (says text) (o.told out) (o.told out')
      → ((e : Editing) → Stands d.state old e → (rule.done e).answer ≡ says text) → (rule.asked ≡ 0 → (rule.done (known_editing (known_of old))).answer ≡ says text)
      → ((e : Editing) → Stands d.state old e → Stands d.state new (rule.done e).editing)
      → IsKnown rule.puts (rule.known (known_of old)) (known_of old) (known_of new) → (d.state (disk_of new)).faults ≡ (d.state (disk_of old)).faults
      → StillTells (d.state (disk_of old)) (d.state (disk_of new)) → GoesOnFrom d.state d.left_between (disk_of old) (disk_of new)
      → (rule.changes ≡ false → OnlyReadsOn d.state d.may_leave d.left_between (disk_of old) (disk_of new))
      → (rule.changes ≡ true → LeavesDone) → (rule.changes ≡ true → RestsDone) → (rule.changes ≡ true → BeginsDone)
      → AsksAtMost d.state rule.asked (disk_of old) (disk_of new) → WritesAtMost d.state (rule.written (known_of old).shape.params) (disk_of old) (disk_of new) → Follows d o rule r old out new out'
  carried_out text loan free sent said answer plain stands known calm tells time reads leaves rests begins asked written = record {
    loan = loan;
    stands = λ e here. subst (λ (x : FileEdited). LeavesFile r x e (Stands d.state new)) (edited_on None free e here) (sent_stands r _ _ (rule.done e) e _ sent (stands e here));
    said = λ e here. subst (λ (x : FileEdited). IsSaid r x.answer (o.told out) (o.told out')) (edited_on None free e here) (subst (λ (a : Answer). IsSaid r a (o.told out) (o.told out')) (sym (answer e here)) said);
    replies = replied_free free (λ none. subst (λ (a : Answer). IsSaid r a (o.told out) (o.told out')) (sym (plain none)) said);
    silent = sent_silent r _ _ _ _ sent;
    cause = sent_cause r _ _ _ _ sent calm;
    memory = sent_memory r _ _ _ sent;
    knows = sent_knows r _ _ rule (known_of old) (known_of new) (says text) _ _ sent said
        (subst (λ (x : Option Refusal). RepliesUnless x rule (known_of old) (known_of new) reply.Ok) (sym free) (inl (refl, known)));
    tells = tells;
    time = time;
    reads = λ same. reads (unchanging rule.changes (sym (ap (λ x. rule.changes && is_none x) free) ∙ same));
    leaves = λ changes on opened e rest. subst (λ (x : FileEdited). LeavesEach d (disk_of old) (disk_of new) (IsSafe e x.editing)) (edited_on None free e rest.stands)
        (leaves (and_parts rule.changes _ changes).0 on opened e rest);
    rests = λ changes on opened e rest. subst (λ (x : FileEdited). LeavesFile r x e (IsResting d new)) (edited_on None free e rest.stands)
        (sent_stands r _ _ (rule.done e) e _ sent (rests (and_parts rule.changes _ changes).0 on opened e rest));
    begins = λ changes on opened e of bytes here. subst (λ (x : FileEdited). LeavesFile r x e (IsAtRest d opened new)) (edited_on None free e here)
        (sent_stands r _ _ (rule.done e) e _ sent (begins (and_parts rule.changes _ changes).0 on opened e of bytes here));
    asked = asked;
    written = written;
  }
    where
      unchanging : (b : Bool) → (b && true) ≡ false → b ≡ false
      unchanging true is = is
      unchanging false is = is

  -- one that was refused, and that left what the handle knows, and the disk
  pub refused_on : (refusal : Refusal) → loan_of new ≡ loan_of old → refusal_by rule (known_of old) ≡ Some refusal → IsSent r (o.faults out) (o.faults out') → IsSaid r (refuses refusal) (o.told out) (o.told out')
      → known_of new ≡ known_of old → ((e : Editing) → Stands d.state old e → Stands d.state new e) → disk_of new ≡ disk_of old → Follows d o rule r old out new out'
  refused_on refusal loan why sent said known stands disk = record {
    loan = loan;
    stands = λ e here. subst (λ (x : FileEdited). LeavesFile r x e (Stands d.state new)) (edited_on (Some refusal) why e here) (sent_stands r _ _ _ e _ sent (stands e here));
    said = λ e here. subst (λ (x : FileEdited). IsSaid r x.answer (o.told out) (o.told out')) (edited_on (Some refusal) why e here) said;
    replies = λ decided. replied (refuses refusal) (Some refusal) why refl said;
    silent = sent_silent r _ _ _ _ sent;
    cause = sent_cause r _ _ _ _ sent (ap (λ x. (d.state x).faults) disk);
    memory = sent_memory r _ _ _ sent;
    knows = sent_knows r _ _ rule (known_of old) (known_of new) (refuses refusal) _ _ sent said
        (subst (λ (x : Option Refusal). RepliesUnless x rule (known_of old) (known_of new) (reply_of (refuses refusal))) (sym why) (refl, known));
    tells = record { told = ap (λ x. is_some (d.state x).contents) disk; name = ap (λ x. (d.state x).name) disk };
    time = subst (λ (x : D). GoesOnFrom d.state d.left_between (disk_of old) x) (sym disk) (record { later = omega arith; same = λ s t x le left. left; kept = λ s t x left. left });
    reads = λ same. subst (λ (x : D). OnlyReadsOn d.state d.may_leave d.left_between (disk_of old) x) (sym disk) (search rules);
    leaves = λ changes. absurd (let none = unchanged in cc);
    rests = λ changes. absurd (let none = unchanged in cc);
    begins = λ changes. absurd (let none = unchanged in cc);
    asked = subst (λ (x : D). AsksAtMost d.state rule.asked (disk_of old) x) (sym disk) (record { later = omega arith; most = omega arith });
    written = subst (λ (x : D). WritesAtMost d.state (rule.written (known_of old).shape.params) (disk_of old) x) (sym disk) (record { later = omega arith; most = omega arith });
  }
    where
      and_none : (b : Bool) → (b && false) ≡ false
      and_none true = refl
      and_none false = refl

      unchanged : changes_by rule (known_of old) ≡ false
      unchanged = ap (λ x. rule.changes && is_none x) why ∙ and_none rule.changes

-- the disk failed at a command that changes the file and was not refused
pub failed : {D M O : Type 0} {mode : ModeGhosts M} (d : Ghosts D) (o : SinkMeaning O) (rule : Rule) (old : File D M d mode) (out : O) (new : File D M d mode)
    → loan_of new ≡ loan_of old → refusal_by rule (known_of old) ≡ None → rule.changes ≡ true → Rose (d.state (disk_of old)).faults (d.state (disk_of new)).faults
    → ((step : Step) × IsBrokenAt rule.seals_first step (known_of old) (known_of new))
    → StillTells (d.state (disk_of old)) (d.state (disk_of new)) → GoesOnFrom d.state d.left_between (disk_of old) (disk_of new)
    → LeavesDone d o rule (Err Disk) old out new out
    → AsksAtMost d.state rule.asked (disk_of old) (disk_of new) → WritesAtMost d.state (rule.written (known_of old).shape.params) (disk_of old) (disk_of new) → Follows d o rule (Err Disk) old out new out
failed d o rule old out new loan free changes rose broken tells time leaves asked written = record {
  loan = loan;
  stands = λ e here. tt;
  said = λ e here. refl;
  replies = λ decided. refl;
  silent = refl;
  cause = (rose, refl);
  memory = λ is. absurd (cc);
  knows = broken;
  tells = tells;
  time = time;
  reads = λ same. absurd (let all : changes_by rule (known_of old) ≡ true = simp (changes, free) in cc);
  leaves = λ changes on opened e rest. subst (λ (x : FileEdited). LeavesEach d (disk_of old) (disk_of new) (IsSafe e x.editing)) (edited_on d o rule (Err Disk) old out new out None free e rest.stands) (leaves on opened e rest);
  rests = λ changes on opened e rest. tt;
  begins = λ changes on opened e of bytes here. tt;
  asked = asked;
  written = written;
}
