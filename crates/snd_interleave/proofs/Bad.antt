-- Inputs of which one has a bad block.
use Rattle.std.proofs.Common.{◌≡◌, ◌∙◌, sym, subst, ℕ, zero, suc, ◌<◌, ◌≤◌, true, false, List, [], ◌∷◌, None, Some, length, get_or, Result, Ok, Err, arith}
use Rattle.std.proofs.lemmas.List.Quantifiers.{position-Some}
use Rattle.snd_disk.specs.declared.disk.Disk.{Ghosts}
use Rattle.snd_disk.specs.State.{State}
use Rattle.snd_inputs.proofs.Public.{none_bad}
use Rattle.snd_inputs.specs.Inputs.{first_bad, is_bad}
use Rattle.snd_inputs.specs.Opening.{Holds}
use Rattle.snd_inputs.specs.declared.input.Input.{Input}
use Rattle.snd_edits.specs.Editing.{Editing, first_editing}
use Rattle.snd_output.specs.Appended.{CountsFault}
use Rattle.snd_output.specs.Ends.{IfChanged}
use Rattle.snd_output.specs.declared.stop.Stop.{Stop}
use Rattle.snd_output.specs.declared.stop.Stop.TheVariants.{Changed, Fault, Memory}
use Rattle.snd_interleave.specs.Channels.{HoldAll, layouts_of, most_frames}

module _ {D : Type 0} {ghosts : Ghosts D} (state : D → State) (xs : List (Input D ghosts)) (es : List Editing) (i : ℕ) (x : Input D ghosts) (within : i < length xs) (is : x ≡ get_or xs i x) (hold : HoldAll state xs es) where
  -- the state that one of them holds
  pub held_at : Holds state x (get_or es i (first_editing [] x.layout))
  held_at = subst (λ (y : Input D ghosts). Holds state y (get_or es i (first_editing [] x.layout))) (sym is) (hold.each i x (first_editing [] x.layout) within)

  pub one_bad : first_bad es ≡ None → ((e : Editing) → Holds state x e → is_bad e ≡ true) → ⊥
  one_bad none bad =
      let d = first_editing [] x.layout in
      let no : true ≡ false = sym (bad (get_or es i d) held_at) ∙ none_bad es none i d (omega (arith, within, hold.count)) in
      cc

-- a place at which one has is one of them
pub bad_within : (es : List Editing) (at : ℕ) → Some at ≡ first_bad es → at < length es
bad_within [] at is = absurd (cc)
bad_within (e ∷ es) at is = (position-Some is_bad (e ∷ es) at e (sym is)).0

-- a call that only writes
pub only_writes : {T : Type 0} (P : Type 0) (a b : ℕ) (r : Result T Stop) → CountsFault a b r → IfChanged P r
only_writes P a b (Ok t) counts = tt
only_writes P a b (Err Fault) counts = tt
only_writes P a b (Err Memory) counts = absurd counts
only_writes P a b (Err Changed) counts = absurd counts

-- no input has more frames than the one that has the most
pub few_frames : {D : Type 0} {ghosts : Ghosts D} (xs : List (Input D ghosts)) (k : ℕ) (d : Input D ghosts) → k < length xs → (get_or xs k d).layout.frames ≤ most_frames (layouts_of xs)
few_frames [] k d lt = absurd (omega (arith, lt))
few_frames (x ∷ xs) zero d lt = omega arith
few_frames (x ∷ xs) (suc k) d lt = let later = few_frames xs k d (omega (arith, lt)) in omega (arith, later)
