-- What the steps of writing leave of a disk.
use Rattle.std.proofs.Common.{◌≡◌, subst, inl, ℕ, ◌≤◌, List, arith}
use Rattle.std.specs.Prelude.{OnOk, Result}
use Rattle.snd_disk.specs.State.{IsWritten, State}
use Rattle.snd_layout.specs.Shape.{Shape, end}
use Rattle.snd_patch.specs.Steps.{Updates}
use Rattle.snd_frames.specs.Writing.{PutsAt}

module _ {D : Type 0} (state : D → State) (left_between : D → ℕ → ℕ → List ℕ → Type 0) (h : Shape) where
  -- what keeps the frames before one keeps those before an earlier one
  pub updates_before : (n m most : ℕ) (a b : D) → end h n ≤ end h m → Updates state left_between h m most a b → Updates state left_between h n most a b
  updates_before n m most a b before only = record {
    beside = λ l told. let one = only.beside l told in (one.0, one.1, λ i lt other. one.2 i (omega (arith, lt, before)) other);
    tells = only.tells;
    time = only.time;
    written = only.written;
    asked = only.asked;
  }

  pub puts_update : (n most : ℕ) (a b : D) → PutsAt state left_between (end h n) most a b → Updates state left_between h n most a b
  puts_update n most a b only = record {
    beside = λ l told. let one = only.beside l told in (one.0, one.1, λ i lt other. one.2 i (inl lt));
    tells = only.tells;
    time = only.time;
    written = only.written;
    asked = only.asked;
  }

pub written_data : {E : Type 0} (r : Result Unit E) (old new : State) (at at' : ℕ) (s t : List ℕ) → at ≡ at' → s ≡ t → OnOk r (IsWritten at s old new) → OnOk r (IsWritten at' t old new)
written_data r old new at at' s t is same done = subst (λ (m : ℕ). OnOk r (IsWritten m t old new)) is (subst (λ (l : List ℕ). OnOk r (IsWritten at l old new)) same done)
