-- Steps of an update as runs of calls.
use Rattle.std.proofs.Common.{◌≡◌, ℕ, ◌≤◌, true, List, [], ◌∷◌, ◌++◌, length, Option, None, Some, option_map, append-nil, ap, inl, inr, ⊎_elim, refl, subst, arith}
use Rattle.std.specs.Prelude.{nat_lt}
use Rattle.snd_disk.specs.Runs.{Since}
use Rattle.snd_disk.specs.State.{State}
use Rattle.snd_disk.proofs.Public.{runs_join, made_front}
use Rattle.snd_layout.specs.declared.field.Field.{Field}
use Rattle.snd_layout.specs.Shape.{Shape}
use Rattle.snd_patch.specs.Images.{held_closing}
use Rattle.snd_patch.specs.Sealed.{closed, held_field, over_closing}
use Rattle.snd_layout.specs.Filled.{over_field}
use Rattle.snd_container.specs.Values.{closed_end}

-- the same field with the same bytes
pub held_same : (b : List ℕ) (o p : Option Field) (v w : List ℕ) → o ≡ p → v ≡ w → held_field o b v ≡ held_field p b w
held_same b o p v w one two = rw (one, two) refl

pub put_same : (b : List ℕ) (o p : Option Field) (v w : List ℕ) → o ≡ p → v ≡ w → over_field o b v ≡ over_field p b w
put_same b o p v w one two = rw (one, two) refl

module _ {D : Type 0} (state : D → State) (may_leave : D → List ℕ → Type 0) (left_between : D → ℕ → ℕ → List ℕ → Type 0) where
  -- no call
  pub still : ((d : D) (s t : ℕ) (x : List ℕ) → (state d).clock ≤ s → left_between d s t x → may_leave d x) → (d : D) → Since state may_leave left_between d d []
  still only_now d = record {
    later = omega arith;
    now = λ x left. left;
    between = λ t x left. only_now d (state d).clock t x (omega arith) left;
    earlier = λ s t x left. inl left;
    same = λ s t x le left. left;
    kept = λ s t x left. left;
  }

  -- a run and then a sync
  pub then_synced : (a b c : D) (held : List (List ℕ)) → Since state may_leave left_between a b held → Since state may_leave left_between b c [] → Since state may_leave left_between a c held
  then_synced a b c held first second = subst (λ (l : List (List ℕ)). Since state may_leave left_between a c l) (append-nil held) (runs_join state may_leave left_between a b c held [] first second)

  pub one_as : (a b : D) (l m : List ℕ) → l ≡ m → Since state may_leave left_between a b (l ∷ []) → Since state may_leave left_between a b (m ∷ [])
  one_as a b l m is run = subst (λ (k : List ℕ). Since state may_leave left_between a b (k ∷ [])) is run

  pub held_as : (a b : D) (l m : List (List ℕ)) → l ≡ m → Since state may_leave left_between a b l → Since state may_leave left_between a b m
  held_as a b l m is run = subst (λ (k : List (List ℕ)). Since state may_leave left_between a b k) is run

  -- more may have been held
  pub more_held : (a b : D) (held more : List (List ℕ)) → Since state may_leave left_between a b held → Since state may_leave left_between a b (held ++ more)
  more_held a b held more run = record {
    later = run.later;
    now = λ x left. made_front (may_leave a) held more x (run.now x left);
    between = λ t x left. made_front (may_leave a) held more x (run.between t x left);
    earlier = λ s t x left. ⊎_elim (λ past. inl past) (λ made. inr (made_front (may_leave a) held more x made)) (run.earlier s t x left);
    same = run.same;
    kept = run.kept;
  }

-- what closes the data is put where it is not all there
pub held_missing : (b : List ℕ) (h : Shape) (n : ℕ) → nat_lt (length b) (closed_end h n) ≡ true → over_closing b h n ∷ [] ≡ held_closing b h n
held_missing b h n missing = rw missing refl

pub closed_missing : (b : List ℕ) (h : Shape) (n : ℕ) → nat_lt (length b) (closed_end h n) ≡ true → over_closing b h n ≡ closed b h n
closed_missing b h n missing = rw missing refl

pub mapped_as : (f g : List ℕ → List ℕ) (o : Option (List ℕ)) → ((b : List ℕ) → o ≡ Some b → f b ≡ g b) → option_map f o ≡ option_map g o
mapped_as f g None same = refl
mapped_as f g (Some b) same = ap (λ (l : List ℕ). Some l) (same b refl)
