-- What chunks say is told, by how the call on them ended.
use Rattle.std.proofs.Common.{◌≡◌, ◌⊎◌, inl, inr, ⊎_elim, ℕ, List, Bool, true, Option, None, Some, Result, Ok, Err, refl, sym, ap, ◌∙◌, subst, rules}
use Rattle.std.specs.Prelude.{is_some}
use Rattle.snd_disk.specs.Device.{AsksAtMost, OnlyReadsOn}
use Rattle.snd_disk.specs.declared.disk.Disk.{Ghosts}
use Rattle.snd_disk.specs.declared.disk.Step.{Step}
use Rattle.snd_disk.specs.declared.streams.Sink.{Ghosts as SinkMeaning}
use Rattle.snd_layout.specs.Shape.{Shape}
use Rattle.snd_edits.specs.declared.error.GetError.TheVariants as get
use Rattle.snd_edits.specs.Editing.{Editing}
use Rattle.snd_edits.specs.Known.{Known}
use Rattle.snd_file.specs.Handle.{Stands, StandsAfter, disk_of, known_of, loan_of}
use Rattle.snd_file.specs.declared.handle.File.{File}
use Rattle.snd_edits.specs.declared.mode.Mode.{Ghosts as ModeGhosts}
use Rattle.snd_tags.specs.Found.{Answers, CountsFinding}
use Rattle.snd_edits.specs.declared.tag_error.TagError.{TagError}
use Rattle.snd_edits.specs.declared.tag_error.TagError.TheVariants.{Get, BadBody}
use Rattle.snd_session.specs.Answered.{Lacks, SaysNothing, Sends}
use Rattle.snd_rules.specs.Edit.{edit_by, edit_unless}
use Rattle.snd_rules.specs.Replies.{Answer, refuses, says}
use Rattle.snd_rules.specs.Rules.{FileEdited, Grounds, Rule, answered, found_answer, grounds_of, known_grounds, telling_of}
use Rattle.snd_rules.specs.Stepped.{IsSaid, LeavesFile, RepliesBy, RepliesUnless, Rose, reply_of}
use Rattle.snd_session.specs.Follows.{Follows}
use Rattle.snd_session.specs.Replied.{known_editing}
use Rattle.snd_rules.specs.declared.reply.Reply.{Reply}
use Rattle.snd_rules.specs.declared.reply.Reply.TheVariants as reply
use Rattle.snd_rules.specs.declared.reply.StepFault.{StepFault}
use Rattle.snd_rules.specs.declared.reply.StepFault.TheVariants.{Disk, Out, Memory}
use Rattle.snd_lines.specs.declared.refusal.Refusal.{Refusal}
use Rattle.snd_lines.specs.declared.refusal.Refusal.TheVariants.{ChunkTooLarge, NoSuchChunk}
use Rattle.snd_session.proofs.Followed.{replied, same_grounds, sent_cause, sent_knows, sent_memory, sent_silent}

-- a refusal: as every disk has it, or as the disk alone has it
abbrev pub IsWhy : Option Refusal → (Refusal → Bool) → Refusal → Type 0
IsWhy why finds refusal = (why ≡ Some refusal) ⊎ ((why ≡ None) × (finds refusal ≡ true))

-- what the handle knows then
abbrev pub Decides : {T : Type 0} → Option Refusal → (Refusal → Bool) → Refusal → Known → Known → Result T TagError → Type 0
Decides why finds bad old new (Ok x) = (why ≡ None) × (new ≡ old)
Decides why finds bad old new (Err BadBody) = IsWhy why finds bad × (new ≡ old)
Decides why finds bad old new (Err (Get get.NoSuchChunk)) = IsWhy why finds NoSuchChunk × (new ≡ old)
Decides why finds bad old new (Err (Get get.ChunkTooLarge)) = IsWhy why finds ChunkTooLarge × (new ≡ old)
Decides why finds bad old new (Err (Get (get.DiskFault step))) = new ≡ record old { broken = Some step }
Decides why finds bad old new (Err (Get get.Memory)) = new ≡ old
Decides why finds bad old new (Err (Get (get.Broken step))) = ⊥

-- the reply: a text for which there was memory or not, or why there is none
abbrev pub IsReplied : {O T : Type 0} → SinkMeaning O → Refusal → (T → List ℕ) → Result T TagError → Result Reply StepFault → O → O → Type 0
IsReplied o bad text (Ok x) r out out' = Sends o (says (text x)) r out out' ⊎ SaysNothing Memory r out out'
IsReplied o bad text (Err error) r out out' = Lacks o bad error r out out'

-- ---- the state stays

still : (why : Option Refusal) (answer : Answer) (e : Editing) → (edit_unless why (answered answer e) e).editing ≡ e
still None answer e = refl
still (Some refusal) answer e = refl

leaves_still : (r : Result Reply StepFault) (edited : FileEdited) (e : Editing) (stands : Editing → Type 0) → edited.editing ≡ e → stands e → LeavesFile r edited e stands
leaves_still (Ok reply) edited e stands is here = subst stands (sym is) here
leaves_still (Err Out) edited e stands is here = subst stands (sym is) here
leaves_still (Err Memory) edited e stands is here = here
leaves_still (Err Disk) edited e stands is here = tt

-- ---- why it is refused

refused_so : (why : Option Refusal) (finds : Refusal → Bool) (refusal : Refusal) (done : Answer) (e : Editing) → IsWhy why finds refusal → done ≡ refuses refusal
    → (edit_unless why (answered done e) e).answer ≡ refuses refusal
refused_so why finds refusal done e is answer =
    ⊎_elim (λ known. ap (λ (w : Option Refusal). (edit_unless w (answered done e) e).answer) known)
    (λ found. ap (λ (w : Option Refusal). (edit_unless w (answered done e) e).answer) found.0 ∙ answer) is

refused_known : (why : Option Refusal) (finds : Refusal → Bool) (refusal : Refusal) (done : Answer) (e : Editing) → IsWhy why finds refusal → is_some why ≡ true
    → (edit_unless why (answered done e) e).answer ≡ refuses refusal
refused_known why finds refusal done e is refused =
    ⊎_elim (λ known. ap (λ (w : Option Refusal). (edit_unless w (answered done e) e).answer) known) (λ found. absurd (let none = ap is_some found.0 in cc)) is

replies_so : (why : Option Refusal) (rule : Rule) (refusal : Refusal) (old new : Known) → IsWhy why (rule.finds (known_grounds old)) refusal → new ≡ old → RepliesUnless why rule old new (reply_of (refuses refusal))
replies_so why rule refusal old new is same =
    ⊎_elim (λ known. subst (λ (w : Option Refusal). RepliesUnless w rule old new (reply_of (refuses refusal))) (sym known) (refl, same))
    (λ found. subst (λ (w : Option Refusal). RepliesUnless w rule old new (reply_of (refuses refusal))) (sym found.0) (inr (refusal, found.1, refl, same))) is

module _ {D M O T : Type 0} {mode : ModeGhosts M} (d : Ghosts D) (o : SinkMeaning O)
    (bad : Refusal) (text : T → List ℕ) (held : List ℕ → Shape → Result T TagError) (refusal : Grounds → Option Refusal) (finds : Refusal → Bool)
    (r : Result Reply StepFault) (old : File D M d mode) (out : O) (new : File D M d mode) (out' : O) where
  abbrev rule : Rule
  rule = telling_of bad text held refusal finds

  abbrev why : Option Refusal
  why = refusal (known_grounds (known_of old))

  pub record Finds (found : Result T TagError) : Type 0 where
    pub loan : loan_of new ≡ loan_of old
    pub answers : Answers d.state old held found
    pub stands : StandsAfter d.state old new (λ e. e)
    pub faults : CountsFinding d.state old new found
    pub reads : OnlyReadsOn d.state d.may_leave d.left_between (disk_of old) (disk_of new)
    pub asked : AsksAtMost d.state 81920 (disk_of old) (disk_of new)
    pub decides : Decides why finds bad (known_of old) (known_of new) found

  why_on : (e : Editing) → Stands d.state old e → refusal (grounds_of e) ≡ why
  why_on e here = ap refusal (sym (same_grounds d.state old e here))

  -- what the reply is, by what the file holds
  abbrev done : Editing → Answer
  done e = found_answer bad text (held e.bytes e.shape)

  abbrev as_known : Editing
  as_known = known_editing (known_of old)

  said_on : (answer : Answer) → IsSaid r answer (o.told out) (o.told out') → (e : Editing) → Stands d.state old e → (edit_unless why (answered (done e) e) e).answer ≡ answer
      → IsSaid r (edit_by rule e).answer (o.told out) (o.told out')
  said_on answer said e here is = subst (λ (a : Answer). IsSaid r a (o.told out) (o.told out')) (sym (ap (λ (w : Option Refusal). (edit_unless w (answered (done e) e) e).answer) (why_on e here) ∙ is)) said

  -- a reply was sent
  sends : (found : Result T TagError) (facts : Finds found) (answer : Answer) → Sends o answer r out out' → (d.state (disk_of new)).faults ≡ (d.state (disk_of old)).faults
      → RepliesBy rule (known_of old) (known_of new) (reply_of answer)
      → ((e : Editing) → Stands d.state old e → (edit_unless why (answered (done e) e) e).answer ≡ answer)
      → (is_some why ≡ true → (edit_unless why (answered (done as_known) as_known) as_known).answer ≡ answer) → Follows d o rule r old out new out'
  sends found facts answer sent calm replies same known = record {
    loan = facts.loan;
    stands = λ e here. leaves_still r _ e _ (still _ (done e) e) (facts.stands e here);
    said = λ e here. said_on answer sent.said e here (same e here);
    replies = λ decided. replied d o rule r old out new out' answer why refl (known decided) sent.said;
    silent = sent_silent r _ _ _ _ sent.sent;
    cause = sent_cause r _ _ _ _ sent.sent calm;
    memory = sent_memory r _ _ _ sent.sent;
    knows = sent_knows r _ _ rule (known_of old) (known_of new) answer _ _ sent.sent sent.said replies;
    tells = search rules;
    time = search rules;
    reads = λ none. facts.reads;
    leaves = λ changes. absurd (cc);
    rests = λ changes. absurd (cc);
    begins = λ changes. absurd (cc);
    asked = facts.asked;
    written = search rules;
  }

  -- there was no memory
  lacks_memory : (found : Result T TagError) (facts : Finds found) → SaysNothing Memory r out out' → (d.state (disk_of new)).faults ≡ (d.state (disk_of old)).faults → known_of new ≡ known_of old
      → Follows d o rule r old out new out'
  lacks_memory found facts nothing calm same = subst2 nothing.0 nothing.1
    where
      none : Follows d o rule (Err Memory) old out new out
      none = record {
        loan = facts.loan;
        stands = λ e here. facts.stands e here;
        said = λ e here. refl;
        replies = λ decided. refl;
        silent = refl;
        cause = (calm, refl);
        memory = λ is. refl;
        knows = same;
        tells = search rules;
        time = search rules;
        reads = λ none. facts.reads;
        leaves = λ changes. absurd (cc);
        rests = λ changes. absurd (cc);
        begins = λ changes. absurd (cc);
        asked = facts.asked;
        written = search rules;
      }

      subst2 : r ≡ Err Memory → out' ≡ out → Follows d o rule r old out new out'
      subst2 is at = subst (λ (x : Result Reply StepFault). Follows d o rule x old out new out') (sym is) (subst (λ (x : O). Follows d o rule (Err Memory) old out new x) (sym at) none)

  -- the disk failed
  fails : (step : Step) (found : Result T TagError) (facts : Finds found) → SaysNothing Disk r out out' → Rose (d.state (disk_of old)).faults (d.state (disk_of new)).faults
      → known_of new ≡ record (known_of old) { broken = Some step } → Follows d o rule r old out new out'
  fails step found facts nothing rose broken = subst2 nothing.0 nothing.1
    where
      none : Follows d o rule (Err Disk) old out new out
      none = record {
        loan = facts.loan;
        stands = λ e here. tt;
        said = λ e here. refl;
        replies = λ decided. refl;
        silent = refl;
        cause = (rose, refl);
        memory = λ is. absurd (cc);
        knows = (step, broken);
        tells = search rules;
        time = search rules;
        reads = λ none. facts.reads;
        leaves = λ changes. absurd (cc);
        rests = λ changes. absurd (cc);
        begins = λ changes. absurd (cc);
        asked = facts.asked;
        written = search rules;
      }

      subst2 : r ≡ Err Disk → out' ≡ out → Follows d o rule r old out new out'
      subst2 is at = subst (λ (x : Result Reply StepFault). Follows d o rule x old out new out') (sym is) (subst (λ (x : O). Follows d o rule (Err Disk) old out new x) (sym at) none)

  -- each outcome
  pub told : (found : Result T TagError) → Finds found → IsReplied o bad text found r out out' → Follows d o rule r old out new out'
  told (Ok x) facts replied = ⊎_elim
      (λ sent. sends (Ok x) facts (says (text x)) sent facts.faults
      (subst (λ (w : Option Refusal). RepliesUnless w rule (known_of old) (known_of new) reply.Ok) (sym facts.decides.0) (inl (refl, facts.decides.1)))
      (λ e here. ap (λ (w : Option Refusal). (edit_unless w (answered (done e) e) e).answer) facts.decides.0 ∙ ap (found_answer bad text) (facts.answers e here))
      (λ refused. absurd (let none = ap is_some facts.decides.0 in cc)))
      (λ nothing. lacks_memory (Ok x) facts nothing facts.faults facts.decides.1)
      replied
  told (Err BadBody) facts replied = sends (Err BadBody) facts (refuses bad) replied facts.faults (replies_so why rule bad _ _ facts.decides.0 facts.decides.1)
      (λ e here. refused_so why finds bad (done e) e facts.decides.0 (ap (found_answer bad text) (facts.answers e here)))
      (refused_known why finds bad (done as_known) as_known facts.decides.0)
  told (Err (Get get.NoSuchChunk)) facts replied = sends (Err (Get get.NoSuchChunk)) facts (refuses NoSuchChunk) replied facts.faults (replies_so why rule NoSuchChunk _ _ facts.decides.0 facts.decides.1)
      (λ e here. refused_so why finds NoSuchChunk (done e) e facts.decides.0 (ap (found_answer bad text) (facts.answers e here)))
      (refused_known why finds NoSuchChunk (done as_known) as_known facts.decides.0)
  told (Err (Get get.ChunkTooLarge)) facts replied = sends (Err (Get get.ChunkTooLarge)) facts (refuses ChunkTooLarge) replied facts.faults (replies_so why rule ChunkTooLarge _ _ facts.decides.0 facts.decides.1)
      (λ e here. refused_so why finds ChunkTooLarge (done e) e facts.decides.0 (ap (found_answer bad text) (facts.answers e here)))
      (refused_known why finds ChunkTooLarge (done as_known) as_known facts.decides.0)
  told (Err (Get (get.DiskFault step))) facts replied = fails step (Err (Get (get.DiskFault step))) facts replied (record { later = facts.faults.0; rises = facts.faults.1 }) facts.decides
  told (Err (Get get.Memory)) facts replied = lacks_memory (Err (Get get.Memory)) facts replied facts.faults facts.decides
  told (Err (Get (get.Broken step))) facts replied = absurd facts.decides
