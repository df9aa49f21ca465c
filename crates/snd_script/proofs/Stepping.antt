-- A command on an open file: what stands at the desk that it leaves.
use Rattle.std.proofs.Common.{◌≡◌, ℕ, List, Bool, true, false, ◌||◌, refl, sym, ◌∙◌, ap, arith, rules}
use Rattle.std.specs.Str.{bytes_eq}
use Rattle.snd_disk.proofs.Public.{goes_on_then, only_reads_then, same_bytes}
use Rattle.snd_disk.specs.State.{State}
use Rattle.snd_disk.specs.declared.disk.Disk.{Ghosts}
use Rattle.snd_meters.specs.Gauge.{Gauge}
use Rattle.snd_edits.specs.Editing.{Editing}
use Rattle.snd_rules.specs.Desk.{Desk, Store, open_desk, writes, open_as}
use Rattle.snd_rules.specs.Edit.{Edited}
use Rattle.snd_session.specs.Handled.{HandleStands, LeavesHandle, handle_disk, mode_of}
use Rattle.snd_rules.specs.Replies.{Answer, nothing, says, refuses, is_refusal}
use Rattle.snd_script.specs.Served.{lost_at}
use Rattle.snd_script.specs.Serving.{OpenStands}
use Rattle.snd_rules.specs.Stepped.{reply_of}
use Rattle.snd_session.specs.declared.handle.Handle.{Handle}
use Rattle.snd_rules.specs.declared.reply.Reply.TheVariants as reply

-- a reply tells whether the answer is a refusal
pub or_no_refusal : (r : Bool) (a : Answer) → reply.Ok ≡ reply_of a → r ≡ (r || is_refusal a)
or_no_refusal true a is = refl
or_no_refusal false nothing is = refl
or_no_refusal false (says text) is = refl
or_no_refusal false (refuses refusal) is = absurd cc

pub or_refusal : (r : Bool) (a : Answer) (n : ℕ) → reply.Refused n ≡ reply_of a → true ≡ (r || is_refusal a)
or_refusal true a n is = refl
or_refusal false nothing n is = absurd cc
or_refusal false (says text) n is = absurd cc
or_refusal false (refuses refusal) n is = refl

-- the name of the open file is lost where that failed
pub lost_not : (name : List ℕ) (b : Bool) → (bytes_eq name name || b) ≡ false → ⊥
lost_not name b kept = let is : (true || b) ≡ false = ap (λ x. x || b) (sym (same_bytes name)) ∙ kept in cc

-- the desk with the file of a handle open
abbrev pub held_desk : {D : Type 0} {ghosts : Ghosts D} → Store → List ℕ → Bool → List Gauge → Handle D ghosts → Editing → Desk
held_desk store name stays taps handle e = open_desk store (record { name = name; mode = open_as stays (mode_of handle); editing = e; taps = taps })

module _ {D : Type 0} {ghosts : Ghosts D} (state : D → State) (store : Store) (name : List ℕ) (stays : Bool) where
  -- the handle stands for a file, in the mode that it had
  pub stands_open : (taps taps' : List Gauge) (old new : Handle D ghosts) (e : Editing) (lost : List ℕ → Bool) → mode_of new ≡ mode_of old → taps' ≡ taps → HandleStands state new e
      → OpenStands state store name stays taps' new lost (held_desk store name stays taps old e)
  stands_open taps taps' old new e lost mode are here = record {
    editing = e;
    is = ap (λ m. open_desk store (record { name = name; mode = open_as stays m; editing = e; taps = taps })) (sym mode)
        ∙ ap (λ t. open_desk store (record { name = name; mode = open_as stays (mode_of new); editing = e; taps = t })) (sym are);
    stands = λ kept. here;
  }

  -- .. or its file failed
  pub stands_lost : (taps taps' : List Gauge) (old new : Handle D ghosts) (e : Editing) (left : List Edited) → mode_of new ≡ mode_of old → taps' ≡ taps
      → OpenStands state store name stays taps' new (lost_at (held_desk store name stays taps old e) left) (held_desk store name stays taps old e)
  stands_lost taps taps' old new e left mode are = record {
    editing = e;
    is = ap (λ m. open_desk store (record { name = name; mode = open_as stays m; editing = e; taps = taps })) (sym mode)
        ∙ ap (λ t. open_desk store (record { name = name; mode = open_as stays (mode_of new); editing = e; taps = t })) (sym are);
    stands = λ kept. absurd (lost_not name _ kept);
  }

-- nothing was done
pub leaves_handle_none : {D : Type 0} {ghosts : Ghosts D} (state : D → State) (may_leave : D → List ℕ → Type 0) (left_between : D → ℕ → ℕ → List ℕ → Type 0) (a : Handle D ghosts) → LeavesHandle state may_leave left_between a a
leaves_handle_none state may_leave left_between a = record {
  mode = refl;
  params = refl;
  loan = refl;
  tells = record { told = refl; name = refl };
  time = record { later = omega arith; same = λ s t x le left. left; kept = λ s t x left. left };
  reads = λ plain. search rules;
}

-- one command after another
pub leaves_handle_then : {D : Type 0} {ghosts : Ghosts D} (state : D → State) (may_leave : D → List ℕ → Type 0) (left_between : D → ℕ → ℕ → List ℕ → Type 0) (a b c : Handle D ghosts)
    → LeavesHandle state may_leave left_between a b → LeavesHandle state may_leave left_between b c → LeavesHandle state may_leave left_between a c
leaves_handle_then state may_leave left_between a b c first second = record {
  mode = second.mode ∙ first.mode;
  params = second.params ∙ first.params;
  loan = second.loan ∙ first.loan;
  tells = record { told = second.tells.told ∙ first.tells.told; name = second.tells.name ∙ first.tells.name };
  time = goes_on_then _ _ _ (left_between (handle_disk a)) (left_between (handle_disk b)) (left_between (handle_disk c)) first.time second.time;
  reads = λ plain. only_reads_then (state (handle_disk a)) (state (handle_disk b)) (state (handle_disk c)) (may_leave (handle_disk a)) (may_leave (handle_disk b)) (may_leave (handle_disk c)) (left_between (handle_disk a)) (left_between (handle_disk b)) (left_between (handle_disk c)) (first.reads plain) (second.reads (ap writes first.mode ∙ plain));
}
