-- Where the code that is chosen for a target leads.
use Rattle.std.proofs.Common.{◌≡◌, ℕ, suc, ℤ, pos, negsuc, ◌+◌, ◌/◌, ◌≤◌, ◌+ℤ◌, ◌-ℤ◌, ◌≤ℤ◌, ◌<ℤ◌, unsigned_abs, Bool, true, false, refl, sym, ap, ◌∙◌, arith}
use Rattle.std.specs.Prelude.{◌==◌, bit_and, nat_le, if◌then◌else◌}
use Rattle.std.specs.Int.{int_min, is_negative}
use Rattle.std.proofs.lemmas.Int.{ints}
use Rattle.std.proofs.lemmas.Bool.Decides.{nat_tests}
use Rattle.snd_ima_adpcm.specs.Step.{step_size, part_if, distance, moved, code_for, distance_bits, distance_rest, rest_after}
use Rattle.snd_ima_adpcm.specs.Frames.{clamp}
use Rattle.snd_ima_adpcm.specs.Ima.{ima_predictor, ima_code}

-- a code of four bits
abbrev code_of : Bool → Bool → Bool → Bool → ℕ
code_of sign four two one = (if sign then 8 else 0) + ((if four then 4 else 0) + (if two then 2 else 0) + (if one then 1 else 0))

parts-of : (sign four two one : Bool) (e s h q : ℕ) →
    e + part_if (code_of sign four two one) 4 s + part_if (code_of sign four two one) 2 h + part_if (code_of sign four two one) 1 q
    ≡ e + (if four then s else 0) + (if two then h else 0) + (if one then q else 0)
parts-of true true true true e s h q = refl
parts-of true true true false e s h q = refl
parts-of true true false true e s h q = refl
parts-of true true false false e s h q = refl
parts-of true false true true e s h q = refl
parts-of true false true false e s h q = refl
parts-of true false false true e s h q = refl
parts-of true false false false e s h q = refl
parts-of false true true true e s h q = refl
parts-of false true true false e s h q = refl
parts-of false true false true e s h q = refl
parts-of false true false false e s h q = refl
parts-of false false true true e s h q = refl
parts-of false false true false e s h q = refl
parts-of false false false true e s h q = refl
parts-of false false false false e s h q = refl

-- the bit of the sign
sign-of : (sign four two one : Bool) (x y : ℤ) → (if bit_and (code_of sign four two one) 8 == 0 then x else y) ≡ (if sign then y else x)
sign-of true true true true x y = refl
sign-of true true true false x y = refl
sign-of true true false true x y = refl
sign-of true true false false x y = refl
sign-of true false true true x y = refl
sign-of true false true false x y = refl
sign-of true false false true x y = refl
sign-of true false false false x y = refl
sign-of false true true true x y = refl
sign-of false true true false x y = refl
sign-of false true false true x y = refl
sign-of false true false false x y = refl
sign-of false false true true x y = refl
sign-of false false true false x y = refl
sign-of false false false true x y = refl
sign-of false false false false x y = refl

part-and-rest : (part rest : ℕ) → (if nat_le part rest then part else 0) + rest_after part rest ≡ rest
part-and-rest part rest = grind (arith, nat_tests)

sum : (whole e a b c d r1 r2 r3 : ℕ) → whole ≡ e + a + b + c → a + r1 ≡ d → b + r2 ≡ r1 → c + r3 ≡ r2 → whole + r3 ≡ e + d
sum whole e a b c d r1 r2 r3 p q r s = omega arith

-- the parts and what is left are the distance, and an eighth of the step
distance-and-rest : (sign : Bool) (s d : ℕ) → distance s ((if sign then 8 else 0) + distance_bits s d) + distance_rest s d ≡ s / 8 + d
distance-and-rest sign s d =
    let first = rest_after s d in
    let second = rest_after (s / 2) first in
    let parts : distance s ((if sign then 8 else 0) + distance_bits s d) ≡ s / 8 + (if nat_le s d then s else 0) + (if nat_le (s / 2) first then s / 2 else 0) + (if nat_le (s / 4) second then s / 4 else 0) =
    parts-of sign (nat_le s d) (nat_le (s / 2) first) (nat_le (s / 4) second) (s / 8) s (s / 2) (s / 4) in
    sum _ _ _ _ _ _ _ _ _ parts (part-and-rest s d) (part-and-rest (s / 2) first) (part-and-rest (s / 4) second)

sign-moves : (sign : Bool) (p : ℤ) (s d : ℕ) → moved p s ((if sign then 8 else 0) + distance_bits s d)
    ≡ (if sign then p -ℤ pos (distance s ((if sign then 8 else 0) + distance_bits s d)) else p +ℤ pos (distance s ((if sign then 8 else 0) + distance_bits s d)))
sign-moves sign p s d = sign-of sign (nat_le s d) (nat_le (s / 2) (rest_after s d)) (nat_le (s / 4) (rest_after (s / 2) (rest_after s d)))
    (p +ℤ pos (distance s ((if sign then 8 else 0) + distance_bits s d))) (p -ℤ pos (distance s ((if sign then 8 else 0) + distance_bits s d)))

past-above : (x : ℤ) (d dist rest e : ℕ) → dist + rest ≡ e + d → (x -ℤ pos d) +ℤ pos dist ≡ x +ℤ (pos e -ℤ pos rest)
past-above x d dist rest e sum = omega (arith, ints)

past-below : (x : ℤ) (d dist rest e : ℕ) → dist + rest ≡ e + suc d → (x -ℤ negsuc d) -ℤ pos dist ≡ x -ℤ (pos e -ℤ pos rest)
past-below x d dist rest e sum = omega (arith, ints)

not-below : (d : ℕ) → is_negative (pos d) ≡ false
not-below d = grind (arith, nat_tests)

up : (x : ℤ) (s d : ℕ) → moved (x -ℤ pos d) s (0 + distance_bits s d) ≡ x +ℤ (pos (s / 8) -ℤ pos (distance_rest s d))
up x s d = sign-moves false (x -ℤ pos d) s d ∙ past-above x d (distance s (0 + distance_bits s d)) (distance_rest s d) (s / 8) (distance-and-rest false s d)

down : (x : ℤ) (s d : ℕ) → moved (x -ℤ negsuc d) s (8 + distance_bits s (suc d)) ≡ x -ℤ (pos (s / 8) -ℤ pos (distance_rest s (suc d)))
down x s d = sign-moves true (x -ℤ negsuc d) s (suc d) ∙ past-below x d (distance s (8 + distance_bits s (suc d))) (distance_rest s (suc d)) (s / 8) (distance-and-rest true s (suc d))

pub reached_up : (x z : ℤ) (s : ℕ) → pos 0 ≤ℤ z → moved (x -ℤ z) s (code_for s z) ≡ x +ℤ (pos (s / 8) -ℤ pos (distance_rest s (unsigned_abs z)))
reached_up x (pos d) s le = ap (λ b. moved (x -ℤ pos d) s ((if b then 8 else 0) + distance_bits s d)) (not-below d) ∙ up x s d
reached_up x (negsuc d) s le = absurd (omega (arith, ints))

pub reached_down : (x z : ℤ) (s : ℕ) → z <ℤ pos 0 → moved (x -ℤ z) s (code_for s z) ≡ x -ℤ (pos (s / 8) -ℤ pos (distance_rest s (unsigned_abs z)))
reached_down x (pos d) s lt = absurd (omega (arith, ints))
reached_down x (negsuc d) s lt = down x s d

-- the predictor after a sample's code
back : (x p : ℤ) → x -ℤ (x -ℤ p) ≡ p
back x p = omega (arith, ints)

pub predictor_of_sample : (p x way r target : ℤ) (i s : ℕ) → r ≡ clamp (negsuc 32767) (pos 32767) (moved (target -ℤ way) s (code_for s way)) → s ≡ step_size i → target ≡ x → way ≡ x -ℤ p →
    ima_predictor p i (ima_code p i x) ≡ r
unfolding ima_predictor ima_code
predictor_of_sample p x way r target i s r_is step_is target_is way_is =
    sym (r_is ∙ ap (λ z. clamp (negsuc 32767) (pos 32767) z)
    (ap (λ y. moved (y -ℤ way) s (code_for s way)) target_is ∙ ap (λ w. moved (x -ℤ w) s (code_for s w)) way_is
    ∙ ap (λ q. moved q s (code_for s (x -ℤ p))) (back x p) ∙ ap (λ k. moved p k (code_for k (x -ℤ p))) step_is))

-- where there is room past the target for no more
up_to_room : (x y : ℤ) → x ≤ℤ pos 32767 → negsuc 32767 ≤ℤ (x +ℤ y) → x +ℤ int_min y (pos 32767 -ℤ x) ≡ clamp (negsuc 32767) (pos 32767) (x +ℤ y)
up_to_room x y most from = grind (arith, ints)

down_to_room : (x y : ℤ) → negsuc 32767 ≤ℤ x → (x -ℤ y) ≤ℤ pos 32767 → x -ℤ int_min y (x +ℤ pos 32768) ≡ clamp (negsuc 32767) (pos 32767) (x -ℤ y)
down_to_room x y least from = grind (arith, ints)

pub held_up : (x z p : ℤ) (e rest : ℕ) → x ≤ℤ pos 32767 → negsuc 32767 ≤ℤ (x -ℤ z) → pos 0 ≤ℤ z → rest ≤ unsigned_abs z → p ≡ int_min (pos e -ℤ pos rest) (pos 32767 -ℤ x) →
    x +ℤ p ≡ clamp (negsuc 32767) (pos 32767) (x +ℤ (pos e -ℤ pos rest))
held_up x (pos d) p e rest most from le few is = rw is (up_to_room x (pos e -ℤ pos rest) most (omega (arith, ints)))
held_up x (negsuc d) p e rest most from le few is = absurd (omega (arith, ints))

pub held_down : (x z p : ℤ) (e rest : ℕ) → negsuc 32767 ≤ℤ x → (x -ℤ z) ≤ℤ pos 32767 → z <ℤ pos 0 → rest ≤ unsigned_abs z → p ≡ int_min (pos e -ℤ pos rest) (x +ℤ pos 32768) →
    x -ℤ p ≡ clamp (negsuc 32767) (pos 32767) (x -ℤ (pos e -ℤ pos rest))
held_down x (pos d) p e rest least from lt few is = absurd (omega (arith, ints))
held_down x (negsuc d) p e rest least from lt few is = rw is (down_to_room x (pos e -ℤ pos rest) least (omega (arith, ints)))
