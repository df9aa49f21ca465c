-- A file that is read while another is made of it.
use Rattle.std.proofs.Common.{◌≡◌, ◌∙◌, ap, sym, refl, subst, inl, inr, ⊎_elim, ℕ, ◌≤◌, drop, true, None, Result, Ok, Err, arith}
use Rattle.snd_blocks.specs.Frames.{has_bad}
use Rattle.snd_disk.proofs.Public.{goes_on_then, only_reads_then}
use Rattle.snd_disk.specs.declared.disk.Disk.{Ghosts}
use Rattle.snd_disk.specs.State.{Rises}
use Rattle.snd_file.specs.declared.handle.File.{File}
use Rattle.snd_edits.specs.declared.mode.Mode.{Ghosts as ModeGhosts}
use Rattle.snd_edits.specs.Editing.{Editing}
use Rattle.snd_edits.specs.Known.{Known}
use Rattle.snd_file.specs.Handle.{known_of}
use Rattle.snd_output.specs.Appended.{AppendLeaves, CountsEither, frames_ahead}
use Rattle.snd_output.specs.Ends.{BreaksByFault, CountsOneOf}
use Rattle.snd_output.specs.declared.stop.Stop.{Stop}
use Rattle.snd_output.specs.declared.stop.Stop.TheVariants.{Changed, Fault, Memory}
use Rattle.snd_inputs.specs.Copying.{CopiesInto}
use Rattle.snd_inputs.specs.Inputs.{is_bad}
use Rattle.snd_inputs.proofs.Reading.{reads_none}

pub counts_then : {T : Type 0} (r : Result T Stop) (a b c a' b' c' : ℕ) → b ≡ a → b' ≡ a' → CountsOneOf b c b' c' r → CountsOneOf a c a' c' r
counts_then (Ok x) a b c a' b' c' same same' counts = (counts.0 ∙ same, counts.1 ∙ same')
counts_then (Err Memory) a b c a' b' c' same same' counts = (counts.0 ∙ same, counts.1 ∙ same')
counts_then (Err Changed) a b c a' b' c' same same' counts = (counts.0 ∙ same, counts.1 ∙ same')
counts_then (Err Fault) a b c a' b' c' same same' counts = (
  subst (λ (n : ℕ). n ≤ c) same counts.0,
  subst (λ (n : ℕ). n ≤ c') same' counts.1,
  ⊎_elim (λ rose. inl (subst (λ (n : ℕ). Rises n c) same rose)) (λ rose. inr (subst (λ (n : ℕ). Rises n c') same' rose)) counts.2,
)

module _ {D E M N : Type 0} {m : ModeGhosts M} {n : ModeGhosts N} (d : Ghosts D) (t : Ghosts E) where
  -- nothing was put there
  pub copies_none : (from : File D M d m) (to : File E N t n) → (known_of to).broken ≡ None → CopiesInto {T = Unit {0}} d t from from to to (Ok tt)
  copies_none from to working = record {
    loan = refl;
    to_loan = refl;
    works = working;
    faults = (refl, refl);
    reads = reads_none d.state d.may_leave d.left_between _;
    tells = record { told = refl; name = refl };
    time = record { later = later_none; same = λ s u x le left. left; kept = λ s u x left. left };
  }
    where
      later_none : {k : ℕ} → k ≤ k
      later_none = omega arith

  -- one thing was put there after another
  pub copies_then : {T U : Type 0} (from from' from'' : File D M d m) (to to' to'' : File E N t n) (x : T) (r : Result U Stop)
      → CopiesInto d t from from' to to' (Ok x) → CopiesInto d t from' from'' to' to'' r → CopiesInto d t from from'' to to'' r
  copies_then from from' from'' to to' to'' x r first second = record {
    loan = second.loan ∙ first.loan;
    to_loan = second.to_loan ∙ first.to_loan;
    works = second.works;
    faults = counts_then r _ _ _ _ _ _ first.faults.0 first.faults.1 second.faults;
    reads = only_reads_then _ _ _ _ _ _ _ _ _ first.reads second.reads;
    tells = record { told = second.tells.told ∙ first.tells.told; name = second.tells.name ∙ first.tells.name };
    time = goes_on_then _ _ _ _ _ _ first.time second.time;
  }

-- ---- all frames

pub counts_appended : {T : Type 0} (r : Result T Stop) (a b c e : ℕ) → CountsEither a b c e r → CountsOneOf a b c e r
counts_appended (Ok x) a b c e counts = counts
counts_appended (Err Memory) a b c e counts = absurd counts
counts_appended (Err Fault) a b c e counts = counts
counts_appended (Err Changed) a b c e counts = counts

pub still_works : {T : Type 0} (r : Result T Stop) (n : ℕ) (from from' to to' : Known) (a b c e : ℕ) → AppendLeaves n from from' to to' r → CountsEither a b c e r → to.broken ≡ None → BreaksByFault to' r
still_works (Ok x) n from from' to to' a b c e left counts working = left.1.working ∙ working
still_works (Err Memory) n from from' to to' a b c e left counts working = absurd counts
still_works (Err Fault) n from from' to to' a b c e left counts working = tt
still_works (Err Changed) n from from' to to' a b c e left counts working = left.2

-- all frames are ahead of a file that is unread
pub all_ahead : (e : Editing) → e.place ≡ 0 → has_bad (frames_ahead e) ≡ true → is_bad e ≡ true
all_ahead e first bad = sym (ap (λ (n : ℕ). has_bad (drop n e.frames)) first) ∙ bad
