-- Values of 16 bits, also as they pass through 32.
use Rattle.std.proofs.Common.{◌≡◌, ap, ◌∙◌, sym, subst, ℕ, ℤ, zero, suc, ◌<◌, pos, neg_ℤ, to_z, of_z, FitsSigned, arith}
use Rattle.std.specs.Int.{w16, w32}
use Rattle.std.proofs.lemmas.Int.{to_z-of_z}

-- a magnitude below 2 ^ 15 fits 16 bits with either sign
pub fits_positive : (m : ℕ) → m < 32768 → FitsSigned w16 (pos m)
fits_positive m h = record { sfits = h }

pub fits_negative : (m : ℕ) → m < 32768 → FitsSigned w16 (neg_ℤ (pos m))
fits_negative zero h = record { sfits = omega arith }
fits_negative (suc m) h = record { sfits = omega arith }

-- a value of 16 bits, through 32 bits
pub wide : (z : ℤ) → FitsSigned w16 z → FitsSigned w32 z
wide z f = record { sfits = omega (arith, f.sfits) }

pub through_wide : (v z : ℤ) → v ≡ z → FitsSigned w16 z → to_z w32 (of_z w32 v) ≡ z
through_wide v z e f = ap (λ (x : ℤ). to_z w32 (of_z w32 x)) e ∙ to_z-of_z w32 z (wide z f)

pub narrowed : (v z : ℤ) → v ≡ z → FitsSigned w16 z → to_z w16 (of_z w16 (to_z w32 (of_z w32 v))) ≡ z
narrowed v z e f = ap (λ (x : ℤ). to_z w16 (of_z w16 x)) (through_wide v z e f) ∙ to_z-of_z w16 z f

pub fits_wide : (v z : ℤ) → v ≡ z → FitsSigned w16 z → FitsSigned w16 (to_z w32 (of_z w32 v))
fits_wide v z e f = let P : ℤ → Type 0 = FitsSigned w16 in subst P (sym (through_wide v z e f)) f
