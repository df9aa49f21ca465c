-- One command on an open file: how it ends, and what the handle knows then, by what it knew alone.
use Rattle.std.specs.Prelude.{◌≡◌, ◌⊎◌, ◌≤◌, ℕ, ℤ, List, ◌++◌, Bool, true, false, ◌&&◌, Option, None, Some, Result, Ok, Err, is_none}
use Rattle.snd_disk.specs.State.{Rises}
use Rattle.snd_disk.specs.Streams.{AppendsFront}
use Rattle.snd_disk.specs.declared.disk.Step.{Step}
use Rattle.snd_meters.specs.Gauge.{Gauge}
use Rattle.snd_edits.specs.Editing.{Editing}
use Rattle.snd_edits.specs.Known.{Known}
use Rattle.snd_edits.specs.PieceCalls.{known_put}
use Rattle.snd_edits.specs.Relaid.{place_named}
use Rattle.snd_edits.specs.WriteCalls.{known_sealed}
use Rattle.snd_chunks.specs.Heads.{new_piece}
use Rattle.snd_rules.specs.Rules.{FileEdited, Rule, known_grounds}
use Rattle.snd_rules.specs.Replies.{Answer, refuses, text_of}
use Rattle.snd_lines.specs.Refusals.{refusal_number}
use Rattle.snd_rules.specs.declared.reply.Reply.{Reply}
use Rattle.snd_rules.specs.declared.reply.Reply.TheVariants as reply
use Rattle.snd_rules.specs.declared.reply.StepFault.{StepFault}
use Rattle.snd_rules.specs.declared.reply.StepFault.TheVariants.{Disk, Out, Memory}
use Rattle.snd_lines.specs.declared.refusal.Refusal.{Refusal}
use Rattle.snd_lines.specs.declared.refusal.Refusal.TheVariants as refusal

-- the reply of an answer
abbrev pub reply_of : Answer → Reply
reply_of (refuses refusal) = reply.Refused (refusal_number refusal)
reply_of answer = reply.Ok

-- What the handle stands for afterwards: the file that the command leaves, where it was carried out or refused, also where
-- its reply did not get out; the same one for want of memory. Nothing is said after a fault of the disk.
abbrev pub LeavesFile : Result Reply StepFault → FileEdited → Editing → (Editing → Type 0) → Type 0
LeavesFile (Ok reply) edited e stands = stands edited.editing
LeavesFile (Err Out) edited e stands = stands edited.editing
LeavesFile (Err Memory) edited e stands = stands e
LeavesFile (Err Disk) edited e stands = Unit {0}

-- What was appended: the text of the answer, which the reply is of; a front of it where the sink failed; else nothing.
abbrev pub IsSaid : Result Reply StepFault → Answer → Option (List ℕ) → Option (List ℕ) → Type 0
IsSaid (Ok reply) answer old new = (reply ≡ reply_of answer) × ((t : List ℕ) → old ≡ Some t → new ≡ Some (t ++ text_of answer))
IsSaid (Err Out) answer old new = AppendsFront old new (text_of answer)
IsSaid (Err Disk) answer old new = new ≡ old
IsSaid (Err Memory) answer old new = new ≡ old

abbrev pub Says : {O : Type 0} → (O → Option (List ℕ)) → Answer → Result Reply StepFault → O → O → Type 0
Says told answer result old new = IsSaid result answer (told old) (told new)

-- nothing was appended after a fault of the disk and for want of memory
abbrev pub IsSilent : StepFault → Option (List ℕ) → Option (List ℕ) → Type 0
IsSilent Out old new = Unit {0}
IsSilent Disk old new = new ≡ old
IsSilent Memory old new = new ≡ old

-- a count has risen, and has not fallen
pub record Rose (old new : ℕ) : Type 0 where
  pub later : old ≤ new
  pub rises : Rises old new

-- The counts of faults of the disk and of the sink: each has risen where it is the cause, and is as before otherwise.
abbrev pub IsStepCause : Result Reply StepFault → ℕ → ℕ → ℕ → ℕ → Type 0
IsStepCause (Ok reply) disk disk' out out' = (disk' ≡ disk) × (out' ≡ out)
IsStepCause (Err Disk) disk disk' out out' = Rose disk disk' × (out' ≡ out)
IsStepCause (Err Out) disk disk' out out' = (disk' ≡ disk) × Rose out out'
IsStepCause (Err Memory) disk disk' out out' = (disk' ≡ disk) × (out' ≡ out)

-- The taps afterwards: with some frames, where the command was carried out or refused, also where its reply did not get out; the
-- same ones where nothing was said.
abbrev pub LeavesTaps : Result Reply StepFault → (List (List ℤ) → List Gauge → List Gauge) → (List (List ℤ) → Type 0) → List Gauge → List Gauge → Type 0
LeavesTaps (Err Disk) after are taps taps' = taps' ≡ taps
LeavesTaps (Err Memory) after are taps taps' = taps' ≡ taps
LeavesTaps result after are taps taps' = (frames : List (List ℤ)) × are frames × (taps' ≡ after frames taps)

-- ---- over every disk

-- why a command is refused
abbrev pub refusal_by : Rule → Known → Option Refusal
refusal_by rule h = rule.refusal (known_grounds h)

-- what the handle knows once it was carried out: with a chunk of some body, where the disk decides the body
abbrev pub IsKnown : Option (List ℕ) → Known → Known → Known → Type 0
IsKnown None done old new = new ≡ done
IsKnown (Some id) done old new = (body : List ℕ) × (new ≡ known_put (place_named id old.shape) (new_piece id body) old)

-- Which reply comes, and what the handle knows then: it was refused, as every disk has it; or it was carried out; or only the
-- disk decides that it is refused.
abbrev pub IsCarriedOut : Rule → Known → Known → Reply → Type 0
IsCarriedOut rule old new answer = (answer ≡ reply.Ok) × IsKnown rule.puts (rule.known old) old new

abbrev pub IsFoundOut : Rule → Known → Known → Reply → Type 0
IsFoundOut rule old new answer = (refusal : Refusal) × (rule.finds (known_grounds old) refusal ≡ true) × (answer ≡ reply.Refused (refusal_number refusal)) × (new ≡ old)

abbrev pub RepliesUnless : Option Refusal → Rule → Known → Known → Reply → Type 0
RepliesUnless (Some refusal) rule old new answer = (answer ≡ reply.Refused (refusal_number refusal)) × (new ≡ old)
RepliesUnless None rule old new answer = IsCarriedOut rule old new answer ⊎ IsFoundOut rule old new answer

abbrev pub RepliesBy : Rule → Known → Known → Reply → Type 0
RepliesBy rule old new answer = RepliesUnless (refusal_by rule old) rule old new answer

-- .. or its disk failed: nothing else, but that it may have been sealed before
abbrev pub IsBrokenAt : Bool → Step → Known → Known → Type 0
IsBrokenAt true step old new = (new ≡ record old { broken = Some step }) ⊎ (new ≡ record (known_sealed old) { broken = Some step })
IsBrokenAt false step old new = new ≡ record old { broken = Some step }

-- The reply, and what the handle knows afterwards. A fault of the disk breaks it, and nothing else does.
abbrev pub Knows : Result Reply StepFault → Rule → Known → Known → Type 0
Knows (Ok reply) rule old new = RepliesBy rule old new reply
Knows (Err Out) rule old new = (reply : Reply) × RepliesBy rule old new reply
Knows (Err Disk) rule old new = (step : Step) × IsBrokenAt rule.seals_first step old new
Knows (Err Memory) rule old new = new ≡ old

-- a command changes the file, where it is not refused
abbrev pub changes_by : Rule → Known → Bool
changes_by rule h = rule.changes && is_none (refusal_by rule h)

-- updates are automatic before it, or once it is carried out
abbrev pub IsAutomatic : Rule → Known → Type 0
IsAutomatic rule h = (h.automatic ≡ true) ⊎ ((rule.known h).automatic ≡ true)

-- The sink's count has risen where the reply did not get out, and is as before where it did. Nothing else goes wrong.
abbrev pub IsSent : Result Reply StepFault → ℕ → ℕ → Type 0
IsSent (Ok reply) faults faults' = faults' ≡ faults
IsSent (Err Out) faults faults' = Rose faults faults'
IsSent (Err Disk) faults faults' = ⊥
IsSent (Err Memory) faults faults' = ⊥
