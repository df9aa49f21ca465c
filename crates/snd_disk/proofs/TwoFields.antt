-- The three steps of a change of two fields.
use Rattle.std.proofs.Common.{◌≡◌, ◌⊎◌, inl, inr, ⊎_elim, ℕ, ◌+◌, ◌<◌, ◌≤◌, List, [], ◌∷◌, length, ◌∙◌, arith}
use Rattle.snd_disk.specs.Bytes.{over}
use Rattle.snd_disk.specs.State.{State}
use Rattle.snd_disk.specs.Runs.{Since, HasFieldOf, HasAt, IsBeside, IsWriting, AreApart, IsPatching}
use Rattle.snd_disk.proofs.Fields.{same_length, over_beside, over_in, one_field_changes}

module _ (b : List ℕ) (at : ℕ) (v : List ℕ) (at' : ℕ) (w : List ℕ) (fits : at + length v ≤ length b) (fits' : at' + length w ≤ length b) (apart : AreApart at (length v) at' (length w)) where
  -- a place of the one field is beside the other
  first_beside : (j : ℕ) → j < length v → IsBeside (at + j) at' (length w)
  first_beside j lt = ⊎_elim (λ h. inl (omega arith)) (λ h. inr (omega arith)) apart

  second_beside : (j : ℕ) → j < length w → IsBeside (at' + j) at (length v)
  second_beside j lt = ⊎_elim (λ h. inr (omega arith)) (λ h. inl (omega arith)) apart

  -- while the first field is written
  pub writing_first : (x : List ℕ) → IsWriting b at v x → IsPatching b at v at' w x
  writing_first x h =
      let old : HasFieldOf x b at' (length w) = λ j lt. h.beside (at' + j) (second_beside j lt) in
      record {
        size = h.size;
        beside = λ i beside beside'. h.beside i beside;
        first = h.whole;
        second = λ one. inl old;
        ordered = inl old;
      }

  fits_then : at' + length w ≤ length (over b at v)
  fits_then = omega (arith, fits', same_length b at v fits)

  -- while the second is
  pub writing_second : (x : List ℕ) → IsWriting (over b at v) at' w x → IsPatching b at v at' w x
  writing_second x h =
      let new : HasAt x at v = λ j lt. h.beside (at + j) (first_beside j lt) ∙ over_in b at v fits j lt in
      record {
        size = h.size ∙ same_length b at v fits;
        beside = λ i beside beside'. h.beside i beside' ∙ over_beside b at v fits i beside;
        first = λ one. inr new;
        second = λ one. ⊎_elim (λ old. inl (λ j lt. old j lt ∙ over_beside b at v fits (at' + j) (second_beside j lt))) (λ new. inr new) (h.whole one);
        ordered = inr new;
      }

  module _ {D : Type 0} (state : D → State) (may_leave : D → List ℕ → Type 0) (left_between : D → ℕ → ℕ → List ℕ → Type 0) (old : D) where
    -- what may have been left at each moment so far
    abbrev pub SoFar : D → Type 0
    SoFar d = (t : ℕ) (x : List ℕ) → left_between d (state old).clock t x → may_leave old x ⊎ IsPatching b at v at' w x

    pub settled : (d : D) → Since state may_leave left_between old d [] → SoFar d
    settled d run t x left = inl (run.between t x left)

    pub first_put : (d e : D) → SoFar d → ((x : List ℕ) → may_leave d x → x ≡ b) → Since state may_leave left_between d e (over b at v ∷ []) → SoFar e
    first_put d e so_far only run t x left =
        ⊎_elim (so_far t x) (λ made. inr (writing_first x (one_field_changes b at v fits (may_leave d) only x made))) (run.earlier (state old).clock t x left)

    pub second_put : (d e : D) → SoFar d → ((x : List ℕ) → may_leave d x → x ≡ over b at v) → Since state may_leave left_between d e (over (over b at v) at' w ∷ []) → SoFar e
    second_put d e so_far only run t x left =
        ⊎_elim (so_far t x) (λ made. inr (writing_second x (one_field_changes (over b at v) at' w fits_then (may_leave d) only x made))) (run.earlier (state old).clock t x left)
