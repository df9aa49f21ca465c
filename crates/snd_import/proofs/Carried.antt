-- A disk that is read while a file is made of it: one call after another.
use Rattle.std.proofs.Common.{◌≡◌, ◌∙◌, ap, sym, refl, subst, inl, inr, ⊎_elim, ℕ, ◌+◌, ◌≤◌, None, OnOk, Result, Ok, Err, arith}
use Rattle.snd_disk.proofs.Public.{goes_on_then, only_reads_then}
use Rattle.snd_disk.specs.declared.disk.Disk.{Ghosts}
use Rattle.snd_disk.specs.Device.{AsksAtMost, GoesOnFrom, OnlyReadsOn}
use Rattle.snd_disk.specs.State.{Rises}
use Rattle.snd_edits.specs.Known.{Known}
use Rattle.snd_edits.specs.declared.mode.Mode.{Ghosts as ModeGhosts}
use Rattle.snd_file.specs.Handle.{disk_of, known_of, loan_of}
use Rattle.snd_file.specs.Outcomes.{AsksNothing, TellsOn}
use Rattle.snd_file.specs.declared.handle.File.{File}
use Rattle.snd_inputs.proofs.Public.{reads_none}
use Rattle.snd_output.specs.Appended.{CountsFault, CountsFile, GiveLeaves, IsAtEnd, IsLonger, LeavesFile}
use Rattle.snd_output.specs.Ends.{BreaksByFault, CountsOneOf, CountsStop, IsUnchanged}
use Rattle.snd_output.specs.declared.stop.Stop.{Stop}
use Rattle.snd_output.specs.declared.stop.Stop.TheVariants.{Changed, Fault, Memory}
use Rattle.snd_import.specs.Filling.{Carries}

later_none : {k : ℕ} → k ≤ k
later_none = omega arith

-- ---- what is counted

pub counts_then : {T : Type 0} (r : Result T Stop) (a b c a' b' c' : ℕ) → b ≡ a → b' ≡ a' → CountsOneOf b c b' c' r → CountsOneOf a c a' c' r
counts_then (Ok x) a b c a' b' c' same same' counts = (counts.0 ∙ same, counts.1 ∙ same')
counts_then (Err Memory) a b c a' b' c' same same' counts = (counts.0 ∙ same, counts.1 ∙ same')
counts_then (Err Changed) a b c a' b' c' same same' counts = (counts.0 ∙ same, counts.1 ∙ same')
counts_then (Err Fault) a b c a' b' c' same same' counts = (
  subst (λ (n : ℕ). n ≤ c) same counts.0,
  subst (λ (n : ℕ). n ≤ c') same' counts.1,
  ⊎_elim (λ rose. inl (subst (λ (n : ℕ). Rises n c) same rose)) (λ rose. inr (subst (λ (n : ℕ). Rises n c') same' rose)) counts.2,
)

pub counts_first : (T : Type 0) (stop : Stop) (a b c : ℕ) → CountsStop {T = T} a b (Err stop) → CountsOneOf {T = T} a b c c (Err stop)
counts_first T Fault a b c counts = (counts.0, later_none, inl counts.1)
counts_first T Memory a b c counts = (counts, refl)
counts_first T Changed a b c counts = (counts, refl)

counts_second : {T : Type 0} (r : Result T Stop) (a b c e : ℕ) → b ≡ a → CountsFault c e r → CountsOneOf a b c e r
counts_second (Ok x) a b c e same counts = (same, counts)
counts_second (Err Fault) a b c e same counts = (omega (arith, same), counts.0, inr counts.1)
counts_second (Err Memory) a b c e same counts = absurd counts
counts_second (Err Changed) a b c e same counts = absurd counts

unchanged_of : {T : Type 0} (r : Result T Stop) (c e : ℕ) → CountsFault c e r → IsUnchanged r
unchanged_of (Ok x) c e counts = tt
unchanged_of (Err Fault) c e counts = tt
unchanged_of (Err Memory) c e counts = tt
unchanged_of (Err Changed) c e counts = counts

works_of : {T : Type 0} (r : Result T Stop) (k : ℕ) (to to' : Known) (c e : ℕ) → IsAtEnd to → GiveLeaves k to to' r → CountsFault c e r → BreaksByFault to' r
works_of (Ok x) k to to' c e at_end longer counts = longer.working ∙ at_end.working
works_of (Err Fault) k to to' c e at_end left counts = tt
works_of (Err Memory) k to to' c e at_end left counts = absurd counts
works_of (Err Changed) k to to' c e at_end left counts = absurd counts

still_works : (T : Type 0) (stop : Stop) (to : Known) → to.broken ≡ None → BreaksByFault {T = T} to (Err stop)
still_works T Fault to works = tt
still_works T Memory to works = works
still_works T Changed to works = works

pub longer_of : {T : Type 0} (r : Result T Stop) (k : ℕ) (to to' : Known) → GiveLeaves k to to' r → OnOk r (IsLonger k to to')
longer_of (Ok x) k to to' left = left
longer_of (Err stop) k to to' left = tt

-- ---- calls

module _ {D E N : Type 0} {n : ModeGhosts N} (d : Ghosts D) (t : Ghosts E) where
  pub carries_none : {T : Type 0} (x : T) (from : D) (to : File E N t n) → (known_of to).broken ≡ None → Carries d t 0 from from to to (Ok x)
  carries_none x from to working = record {
    loan = refl;
    works = working;
    faults = (refl, refl);
    unchanged = tt;
    reads = reads_none d.state d.may_leave d.left_between from;
    tells = record { told = refl; name = refl };
    time = record { later = later_none; same = λ s u x le left. left; kept = λ s u x left. left };
    asked = record { later = later_none; most = omega arith };
    unasked = refl;
  }

  pub carries_then : {T U : Type 0} (m k : ℕ) (from from' from'' : D) (to to' to'' : File E N t n) (x : T) (r : Result U Stop)
      → Carries d t m from from' to to' (Ok x) → Carries d t k from' from'' to' to'' r → Carries d t (m + k) from from'' to to'' r
  carries_then m k from from' from'' to to' to'' x r first second = record {
    loan = second.loan ∙ first.loan;
    works = second.works;
    faults = counts_then r _ _ _ _ _ _ first.faults.0 first.faults.1 second.faults;
    unchanged = second.unchanged;
    reads = only_reads_then _ _ _ _ _ _ _ _ _ first.reads second.reads;
    tells = record { told = second.tells.told ∙ first.tells.told; name = second.tells.name ∙ first.tells.name };
    time = goes_on_then _ _ _ _ _ _ first.time second.time;
    asked = record { later = omega (arith, first.asked.later, second.asked.later); most = omega (arith, first.asked.most, second.asked.most) };
    unasked = second.unasked ∙ first.unasked;
  }

  pub carries_within : {T : Type 0} (m k : ℕ) (from from' : D) (to to' : File E N t n) (r : Result T Stop) → m ≤ k → Carries d t m from from' to to' r → Carries d t k from from' to to' r
  carries_within m k from from' to to' r few is = record {
    loan = is.loan;
    works = is.works;
    faults = is.faults;
    unchanged = is.unchanged;
    reads = is.reads;
    tells = is.tells;
    time = is.time;
    asked = record { later = is.asked.later; most = omega (arith, is.asked.most, few) };
    unasked = is.unasked;
  }

  -- the disk could not be read
  pub carries_read : {T : Type 0} (m : ℕ) (from from' : D) (to : File E N t n) (stop : Stop) (r : Result T Stop) → r ≡ Err stop → (known_of to).broken ≡ None
      → CountsStop {T = T} (d.state from).faults (d.state from').faults (Err stop) → IsUnchanged {T = T} (Err stop) → OnlyReadsOn d.state d.may_leave d.left_between from from' → AsksAtMost d.state m from from'
      → Carries d t m from from' to to r
  carries_read {T = T} m from from' to stop r is working counts unchanged reads asked = subst (Carries d t m from from' to to) (sym is) (record {
    loan = refl;
    works = still_works T stop (known_of to) working;
    faults = counts_first T stop _ _ _ counts;
    unchanged = unchanged;
    reads = reads;
    tells = record { told = refl; name = refl };
    time = record { later = later_none; same = λ s u x le left. left; kept = λ s u x left. left };
    asked = asked;
    unasked = refl;
  })

  -- it was read, and the file was given something
  pub carries_given : {T : Type 0} (m k : ℕ) (from from' : D) (to to' : File E N t n) (r : Result T Stop) → IsAtEnd (known_of to) → (d.state from').faults ≡ (d.state from).faults
      → OnlyReadsOn d.state d.may_leave d.left_between from from' → AsksAtMost d.state m from from' → loan_of to' ≡ loan_of to → LeavesFile k to to' r → CountsFile t.state to to' r
      → TellsOn t.state to to' → GoesOnFrom t.state t.left_between (disk_of to) (disk_of to') → AsksNothing t.state to to' → Carries d t m from from' to to' r
  carries_given m k from from' to to' r at_end calm reads asked loan left counts tells time unasked = record {
    loan = loan;
    works = works_of r k (known_of to) (known_of to') _ _ at_end left counts;
    faults = counts_second r _ _ _ _ calm counts;
    unchanged = unchanged_of r _ _ counts;
    reads = reads;
    tells = tells;
    time = time;
    asked = asked;
    unasked = unasked;
  }
