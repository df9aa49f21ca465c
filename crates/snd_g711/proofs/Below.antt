-- A test of every number below a limit, which computes, and what it says of one number.
use Rattle.std.proofs.Common.{◌≡◌, ℕ, zero, suc, ◌<◌, inl, inr, Bool, true, ◌&&◌, sym, subst, arith}
use Rattle.std.proofs.lemmas.Bool.{cases_lt}
use lib.Dec.{T}
use lib.Ieee.Fits.{and_l, and_r}

abbrev pub all_below : (ℕ → Bool) → ℕ → Bool
all_below p zero = true
all_below p (suc n) = p n && all_below p n

pub every_below : (p : ℕ → Bool) (n : ℕ) → T (all_below p n) → (i : ℕ) → i < n → T (p i)
every_below p zero h i lt = absurd (omega arith)
every_below p (suc n) h i lt =
    elim (cases_lt i n) [
      | inl below ↦ every_below p n (and_r (p n) (all_below p n) h) i below
      | inr le ↦ last (omega arith)
    ]
  where
    last : i ≡ n → T (p i)
    last e = subst (λ (k : ℕ). T (p k)) (sym e) (and_l (p n) (all_below p n) h)
