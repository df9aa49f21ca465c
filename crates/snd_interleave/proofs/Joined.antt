-- Frames of two channels that are put one behind the other.
use Rattle.std.proofs.Common.{◌≡◌, ◌≢◌, ◌∙◌, ap, subst, inl, inr, ℕ, ◌+◌, ◌*◌, ◌<◌, List, get_or, arith}
use Rattle.std.proofs.lemmas.Bool.{cases_lt}
use Rattle.snd_interleave.specs.Held.{AreJoined, SamePair, frame_of}

module _ (one other block new frame : List ℕ) (i next : ℕ) (by_one : next ≡ i + 1) (is : frame ≡ frame_of one other i) (first : SamePair new (i * 2 + 0) frame 0) (second : SamePair new (i * 2 + 1) frame 1)
    (others : (k : ℕ) → k ≢ i * 2 + 0 → k ≢ i * 2 + 1 → SamePair new k block k) (so_far : AreJoined i one other block) where
  stays : (j k : ℕ) → j < i → k < 2 → SamePair new (j * 2 + k) block (j * 2 + k)
  stays j k before few = others (j * 2 + k) (λ same. omega (arith, before, few, same)) (λ same. omega (arith, before, few, same))

  at_left : (j : ℕ) → j < next → SamePair new (j * 2 + 0) one j
  at_left j lt = elim (cases_lt j i) [
    | inl before ↦
        let was = so_far.left j before in
        let still = stays j 0 before (omega arith) in
        (still.0 ∙ was.0, still.1 ∙ was.1)
    | inr not ↦ subst (λ (n : ℕ). SamePair new (n * 2 + 0) one n) (omega (arith, lt, by_one, not)) (first.0 ∙ ap (λ (l : List ℕ). get_or l 0 0) is, first.1 ∙ ap (λ (l : List ℕ). get_or l 1 0) is)
  ]

  at_right : (j : ℕ) → j < next → SamePair new (j * 2 + 1) other j
  at_right j lt = elim (cases_lt j i) [
    | inl before ↦
        let was = so_far.right j before in
        let still = stays j 1 before (omega arith) in
        (still.0 ∙ was.0, still.1 ∙ was.1)
    | inr not ↦ subst (λ (n : ℕ). SamePair new (n * 2 + 1) other n) (omega (arith, lt, by_one, not)) (second.0 ∙ ap (λ (l : List ℕ). get_or l 2 0) is, second.1 ∙ ap (λ (l : List ℕ). get_or l 3 0) is)
  ]

  pub frame_joined : AreJoined next one other new
  frame_joined = record { left = at_left; right = at_right }
