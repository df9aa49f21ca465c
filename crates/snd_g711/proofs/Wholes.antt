-- A whole number below 2 ^ 15 as a float: it stands in the last digits of what is 2 ^ 23 and the number, and 2 ^ 23 is taken away.
use Rattle.std.proofs.Common.{◌≡◌, refl, sym, subst, ◌∙◌, ap, ℕ, pos, ◌+◌, ◌-◌, ◌*◌, ◌/◌, ◌%◌, ◌^◌, ◌<◌, ◌≤◌, suc, Bool, true, false, ◌&&◌, cond, arith}
use Rattle.std.specs.Prelude.{not}
use mathlib.Core.Bool.{true≢false}
use lib.Arith.{lt→nleb}
use lib.Dec.{T, eqb, leb, ltb}
use lib.Ieee.{Float, nan, inf, fin, binary32, down, nan_bits, odd, of_bits, of_fields, round, sub, sum, up}
use lib.Ieee.Exact.{HasValue, odd_sign, round_exact}
use lib.Ieee.Fits.{down_pos}
use lib.Pow.{pow_pos}
use native.Mathlib.Nat.{add-mul, eq_of_mul-eq-mul_right, mul_right_comm, mul-one}

abbrev pub beside_ones : ℕ → Float
beside_ones n = of_bits binary32 (1258291200 + n)

abbrev pub moved : ℕ → Float
moved n = sub binary32 (beside_ones n) (of_bits binary32 1258291200)

is_false : (b : Bool) → T (not b) → b ≡ false
is_false true h = absurd h
is_false false h = refl

fields_of : (b : ℕ) → of_bits binary32 b ≡ of_fields binary32 (leb 2147483648 b) (b % 2147483648 / 8388608) (b % 8388608)
unfolding of_bits
fields_of b = refl

normal : (t : ℕ) → of_fields binary32 false 150 t ≡ odd 24 false (8388608 + t) 149 149
unfolding of_fields
normal t = refl

module _ (n : ℕ) (small : n < 32768) where
  is_positive : leb 2147483648 (1258291200 + n) ≡ false
  is_positive = is_false _ (lt→nleb 2147483648 (1258291200 + n) (omega arith))

  exponent : (1258291200 + n) % 2147483648 / 8388608 ≡ 150
  exponent = omega arith

  digits : (1258291200 + n) % 8388608 ≡ n
  digits = omega arith

  pattern : beside_ones n ≡ odd 24 false (8388608 + n) 149 149
  pattern =
      fields_of (1258291200 + n)
      ∙ ap (λ (s : Bool). of_fields binary32 s ((1258291200 + n) % 2147483648 / 8388608) ((1258291200 + n) % 8388608)) is_positive
      ∙ ap (λ (x : ℕ). of_fields binary32 false x ((1258291200 + n) % 8388608)) exponent
      ∙ ap (λ (t : ℕ). of_fields binary32 false 150 t) digits
      ∙ normal n

  pub pattern_is_number : T (not (nan_bits binary32 (1258291200 + n)))
  unfolding nan_bits
  pattern_is_number = subst (λ (x : ℕ). T (not (eqb x 255 && not (eqb ((1258291200 + n) % 8388608) 0)))) (sym exponent) tt

  beside_value : HasValue (beside_ones n) false ((8388608 + n) * 2 ^ 149) (2 ^ 149)
  beside_value = subst (λ (x : Float). HasValue x false ((8388608 + n) * 2 ^ 149) (2 ^ 149)) (sym pattern) (odd_sign 24 false (8388608 + n) 149 149)

ones_are : of_bits binary32 1258291200 ≡ fin false 1 (pos 23)
unfolding of_bits
ones_are = refl

less : (a b c : ℕ) → b ≤ a → sum binary32 false a true b c ≡ round binary32 false (a - b) c
unfolding sum
less a b c h = ap (λ (t : Bool). cond t (round binary32 true (b - a) c) (round binary32 false (a - b) c)) (is_false (ltb a b) (lt→nleb (suc a) b (omega (arith, h))))

-- the same number, in parts of d
of_parts : (x : Float) (n d : ℕ) → 0 < d → HasValue x false (n * d) d → HasValue x false n 1
of_parts nan n d some h = h
of_parts (inf s) n d some h = h
of_parts (fin s m e) n d some h = (h.0, mul-one _ ∙ eq_of_mul-eq-mul_right d some (m * up e) (n * down e) (h.1 ∙ mul_right_comm n d (down e)))

exact : (n d : ℕ) → n < 32768 → 0 < d → HasValue (round binary32 false (n * d) d) false n 1
exact n d small some = of_parts _ n d some (round_exact binary32 false (n * d) d n 149 some (omega arith) (omega arith) (mul_right_comm n d (2 ^ 149)))

difference : (x : Float) (n : ℕ) → n < 32768 → HasValue x false ((8388608 + n) * 2 ^ 149) (2 ^ 149) → HasValue (sub binary32 x (fin false 1 (pos 23))) false n 1
unfolding sub
difference nan n small h = absurd h
difference (inf s) n small h = absurd h
difference (fin true m e) n small h = absurd (true≢false h.0)
difference (fin false m e) n small h =
    subst (λ (x : Float). HasValue x false n 1) (sym (less (m * up e * 1) (1 * 8388608 * down e) (down e * 1) (omega (arith, whole)) ∙ reduced)) (exact n (down e) small (down_pos e))
  where
    whole : m * up e ≡ 8388608 * down e + n * down e
    whole = eq_of_mul-eq-mul_right (2 ^ 149) (pow_pos 149) (m * up e) ((8388608 + n) * down e) (h.1 ∙ mul_right_comm (8388608 + n) (2 ^ 149) (down e)) ∙ add-mul 8388608 n (down e)

    reduced : round binary32 false (m * up e * 1 - 1 * 8388608 * down e) (down e * 1) ≡ round binary32 false (n * down e) (down e)
    reduced = ap (λ (k : ℕ). round binary32 false k (down e * 1)) (omega (arith, whole)) ∙ ap (λ (k : ℕ). round binary32 false (n * down e) k) (mul-one (down e))

pub moved_value : (n : ℕ) → n < 32768 → HasValue (moved n) false n 1
moved_value n small = subst (λ (y : Float). HasValue (sub binary32 (beside_ones n) y) false n 1) (sym ones_are) (difference (beside_ones n) n small (beside_value n small))
