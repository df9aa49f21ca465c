-- What the mu-law's code becomes as a float, which computes.
use Rattle.std.proofs.Common.{◌≡◌, sym, subst, ◌∙◌, ap, ℕ, pos, ◌+◌, ◌-◌, ◌*◌, ◌<◌, FitsSigned, to_z, arith}
use Rattle.std.specs.Prelude.{nat_eq, not}
use Rattle.std.specs.Int.{w32}
use Rattle.std.proofs.lemmas.Int.{to_z-of_z}
use lib.Dec.{T, eqb→eq}
use lib.Ieee.{Float, binary32, add, is_nan, nan_bits, of_bits, to_bits}
use Rattle.snd_g711.specs.Mulaw.{mulaw_magnitude}
use Rattle.snd_g711.proofs.Below.{every_below}
use Rattle.snd_g711.proofs.MulawLemmas.{biased-lt}
use Rattle.snd_g711.proofs.Widths.{fits_positive, wide}

abbrev pub pattern : ℕ → ℕ
pattern code = code * 524288 + 1124335616

abbrev pub moved : ℕ → Float
moved code = add binary32 (of_bits binary32 (pattern code)) (of_bits binary32 1258290936)

module _ (code : ℕ) (h : code < 128) where
  pub pattern_is_number : T (not (nan_bits binary32 (pattern code)))
  unfolding nan_bits
  pattern_is_number = every_below (λ k. not (nan_bits binary32 (pattern k))) 128 tt code h

  pub moved_is_number : T (not (is_nan (moved code)))
  unfolding is_nan add of_bits
  moved_is_number = every_below (λ k. not (is_nan (moved k))) 128 tt code h

  pub moved_bits : to_bits binary32 (moved code) ≡ 1258291200 + mulaw_magnitude code
  unfolding to_bits add of_bits
  moved_bits = eqb→eq _ _ (every_below (λ k. nat_eq (to_bits binary32 (moved k)) (1258291200 + mulaw_magnitude k)) 128 tt code h)

  magnitude_is : to_bits binary32 (moved code) - 1258291200 ≡ mulaw_magnitude code
  magnitude_is = omega (arith, moved_bits)

  magnitude_fits : FitsSigned w32 (pos (mulaw_magnitude code))
  magnitude_fits = wide _ (fits_positive (mulaw_magnitude code) (omega (arith, biased-lt code h)))

  pub moved_fits : FitsSigned w32 (pos (to_bits binary32 (moved code) - 1258291200))
  moved_fits = subst (λ (k : ℕ). FitsSigned w32 (pos k)) (sym magnitude_is) magnitude_fits

  pub moved_is : to_z w32 (to_bits binary32 (moved code) - 1258291200) ≡ pos (mulaw_magnitude code)
  moved_is = ap (λ (k : ℕ). to_z w32 k) magnitude_is ∙ to_z-of_z w32 (pos (mulaw_magnitude code)) magnitude_fits
