-- A whole number below 2 ^ 15 as a float: its exponent and the first digits of its fraction are the segment and the step.
use Rattle.std.proofs.Common.{◌≡◌, sym, ◌∙◌, ap, ℕ, suc, ◌+◌, ◌-◌, ◌*◌, ◌/◌, ◌^◌, ◌<◌, ◌≤◌, ◌⊎◌, inl, inr, false, cond, arith}
use Rattle.std.specs.Prelude.{not}
use Rattle.std.proofs.lemmas.Bool.{cases_lt}
use lib.Dec.{T, leb, leb→le}
use lib.Pow.{pow_mono}
use lib.Ieee.{Float, nan, inf, fin, binary32, down, is_nan, of_bits, size, sub, to_bits, up}
use lib.Ieee.Digits.{size-le, size-lt}
use lib.Ieee.Exact.{HasValue}
use lib.Ieee.Fits.{down_pos}
use native.Mathlib.Nat.{mul-div_cancel, mul-one, mul_right_comm}
use Rattle.snd_g711.specs.Segment.{segment_and_step}
use Rattle.snd_g711.proofs.Below.{every_below}
use Rattle.snd_g711.proofs.Wholes.{moved, moved_value}
use Rattle.snd_g711.proofs.Segments.{code_at, segment_0, segment_1, segment_2, segment_3, segment_4, segment_5, segment_6, segment_7}

number_is : (x : Float) (n : ℕ) → HasValue x false n 1 → T (not (is_nan x))
unfolding is_nan
number_is nan n h = absurd h
number_is (inf s) n h = absurd h
number_is (fin s m e) n h = tt

pub is_number : (n : ℕ) → n < 32768 → T (not (is_nan (moved n)))
is_number n small = number_is _ n (moved_value n small)

-- in units of the smallest float
units_of : (m d n : ℕ) → 0 < d → m * 1 ≡ n * d → m * 2 ^ 149 / d ≡ n * 2 ^ 149
units_of m d n some h =
    ap (λ (x : ℕ). x * 2 ^ 149 / d) (sym (mul-one m) ∙ h) ∙ ap (λ (x : ℕ). x / d) (mul_right_comm n d (2 ^ 149)) ∙ mul-div_cancel (n * 2 ^ 149) some

bits_of : ℕ → ℕ
bits_of units = 0 + (size units - 24) * 8388608 + units / 2 ^ (size units - 24)

bits_are : (x : Float) (n : ℕ) → HasValue x false n 1 → to_bits binary32 x ≡ bits_of (n * 2 ^ 149)
unfolding to_bits bits_of
bits_are nan n h = absurd h
bits_are (inf s) n h = absurd h
bits_are (fin s m e) n h =
    ap (λ b. cond b 2147483648 0 + (size (m * up e * 2 ^ 149 / down e) - 24) * 8388608 + m * up e * 2 ^ 149 / down e / 2 ^ (size (m * up e * 2 ^ 149 / down e) - 24)) h.0
    ∙ ap (λ (u : ℕ). bits_of u) (units_of (m * up e) (down e) n (down_pos e) h.1)

size_is : (n j : ℕ) → 2 ^ j ≤ n → n < 2 ^ suc j → size n ≡ suc j
size_is n j least most = go (cases_lt (size n) (suc j))
  where
    go : (size n < suc j) ⊎ (suc j ≤ size n) → size n ≡ suc j
    go (inl few) = let fits : 2 ^ size n ≤ 2 ^ j = pow_mono (omega arith) in absurd (omega (arith, size-lt n))
    go (inr enough) = omega (arith, size-le n (suc j) most)

-- .. from its highest digit on
bits_at : (n j : ℕ) → 2 ^ j ≤ n * 2 ^ 149 → n * 2 ^ 149 < 2 ^ suc j → bits_of (n * 2 ^ 149) ≡ 0 + (suc j - 24) * 8388608 + n * 2 ^ 149 / 2 ^ (suc j - 24)
unfolding bits_of
bits_at n j least most = ap (λ (k : ℕ). 0 + (k - 24) * 8388608 + n * 2 ^ 149 / 2 ^ (k - 24)) (size_is (n * 2 ^ 149) j least most)

digits_are : (n : ℕ) → 128 ≤ n → n < 32768 → bits_of (n * 2 ^ 149) / 524288 ≡ 2144 + segment_and_step n
digits_are n low high = go (cases_lt n 256) (cases_lt n 512) (cases_lt n 1024) (cases_lt n 2048) (cases_lt n 4096) (cases_lt n 8192) (cases_lt n 16384)
  where
    go : (n < 256) ⊎ (256 ≤ n) → (n < 512) ⊎ (512 ≤ n) → (n < 1024) ⊎ (1024 ≤ n) → (n < 2048) ⊎ (2048 ≤ n) → (n < 4096) ⊎ (4096 ≤ n) → (n < 8192) ⊎ (8192 ≤ n) → (n < 16384) ⊎ (16384 ≤ n)
        → bits_of (n * 2 ^ 149) / 524288 ≡ 2144 + segment_and_step n
    go (inl h) b c d e f g = omega (arith, bits_at n 156 (omega arith) (omega arith), code_at n 0 (segment_0 n h))
    go (inr l) (inl h) c d e f g = omega (arith, bits_at n 157 (omega arith) (omega arith), code_at n 1 (segment_1 n l h))
    go (inr a) (inr l) (inl h) d e f g = omega (arith, bits_at n 158 (omega arith) (omega arith), code_at n 2 (segment_2 n l h))
    go (inr a) (inr b) (inr l) (inl h) e f g = omega (arith, bits_at n 159 (omega arith) (omega arith), code_at n 3 (segment_3 n l h))
    go (inr a) (inr b) (inr c) (inr l) (inl h) f g = omega (arith, bits_at n 160 (omega arith) (omega arith), code_at n 4 (segment_4 n l h))
    go (inr a) (inr b) (inr c) (inr d) (inr l) (inl h) g = omega (arith, bits_at n 161 (omega arith) (omega arith), code_at n 5 (segment_5 n l h))
    go (inr a) (inr b) (inr c) (inr d) (inr e) (inr l) (inl h) = omega (arith, bits_at n 162 (omega arith) (omega arith), code_at n 6 (segment_6 n l h))
    go (inr a) (inr b) (inr c) (inr d) (inr e) (inr f) (inr l) = omega (arith, bits_at n 163 (omega arith) (omega arith), code_at n 7 (segment_7 n l))

pub digits_of : (n : ℕ) → 128 ≤ n → n < 32768 → to_bits binary32 (moved n) / 524288 ≡ 2144 + segment_and_step n
digits_of n low high = ap (λ (b : ℕ). b / 524288) (bits_are _ n (moved_value n high)) ∙ digits_are n low high

-- below 128 there are no more of them than steps
pub few_digits : (n : ℕ) → n < 128 → to_bits binary32 (moved n) / 524288 ≤ 2128 + n / 8
unfolding to_bits sub of_bits
few_digits n low = leb→le _ _ (every_below (λ k. leb (to_bits binary32 (moved k) / 524288) (2128 + k / 8)) 128 tt n low)
