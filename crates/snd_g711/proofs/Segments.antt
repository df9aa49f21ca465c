-- The segment of a magnitude between two ends, and the code that follows.
use Rattle.std.proofs.Common.{◌≡◌, ap, ℕ, ◌+◌, ◌*◌, ◌/◌, ◌%◌, ◌^◌, ◌<◌, ◌≤◌, ◌⊎◌, inl, inr, arith}
use Rattle.std.proofs.lemmas.Bool.{cases_lt}
use Rattle.std.proofs.lemmas.Bool.Decides.{nat_tests}
use Rattle.snd_g711.specs.Segment.{segment, segment_and_step}

pub segment_0 : (n : ℕ) → n < 256 → segment n ≡ 0
segment_0 n h = grind (arith, nat_tests)

pub segment_1 : (n : ℕ) → 256 ≤ n → n < 512 → segment n ≡ 1
segment_1 n g h = grind (arith, nat_tests)

pub segment_2 : (n : ℕ) → 512 ≤ n → n < 1024 → segment n ≡ 2
segment_2 n g h = grind (arith, nat_tests)

pub segment_3 : (n : ℕ) → 1024 ≤ n → n < 2048 → segment n ≡ 3
segment_3 n g h = grind (arith, nat_tests)

pub segment_4 : (n : ℕ) → 2048 ≤ n → n < 4096 → segment n ≡ 4
segment_4 n g h = grind (arith, nat_tests)

pub segment_5 : (n : ℕ) → 4096 ≤ n → n < 8192 → segment n ≡ 5
segment_5 n g h = grind (arith, nat_tests)

pub segment_6 : (n : ℕ) → 8192 ≤ n → n < 16384 → segment n ≡ 6
segment_6 n g h = grind (arith, nat_tests)

pub segment_7 : (n : ℕ) → 16384 ≤ n → segment n ≡ 7
segment_7 n g = grind (arith, nat_tests)

pub segment-le : (n : ℕ) → segment n ≤ 7
segment-le n = grind (arith, nat_tests)

pub code_at : (n e : ℕ) → segment n ≡ e → segment_and_step n ≡ e * 16 + n / 2 ^ (e + 3) % 16
unfolding segment_and_step
code_at n e h = ap (λ (s : ℕ). s * 16 + n / 2 ^ (s + 3) % 16) h

pub segment_and_step-lt : (n : ℕ) → segment_and_step n < 128
unfolding segment_and_step
segment_and_step-lt n = omega (arith, segment-le n)

-- half the magnitude is one segment, sixteen steps, down
pub code-half : (n : ℕ) → 256 ≤ n → n < 32768 → segment_and_step n ≡ 16 + segment_and_step (n / 2)
code-half n low high = go (cases_lt n 512) (cases_lt n 1024) (cases_lt n 2048) (cases_lt n 4096) (cases_lt n 8192) (cases_lt n 16384)
  where
    go : (n < 512) ⊎ (512 ≤ n) → (n < 1024) ⊎ (1024 ≤ n) → (n < 2048) ⊎ (2048 ≤ n) → (n < 4096) ⊎ (4096 ≤ n) → (n < 8192) ⊎ (8192 ≤ n) → (n < 16384) ⊎ (16384 ≤ n) → segment_and_step n ≡ 16 + segment_and_step (n / 2)
    go (inl h) b c d e f = omega (arith, code_at n 1 (segment_1 n low h), code_at (n / 2) 0 (segment_0 (n / 2) (omega arith)))
    go (inr l) (inl h) c d e f = omega (arith, code_at n 2 (segment_2 n l h), code_at (n / 2) 1 (segment_1 (n / 2) (omega arith) (omega arith)))
    go (inr a) (inr l) (inl h) d e f = omega (arith, code_at n 3 (segment_3 n l h), code_at (n / 2) 2 (segment_2 (n / 2) (omega arith) (omega arith)))
    go (inr a) (inr b) (inr l) (inl h) e f = omega (arith, code_at n 4 (segment_4 n l h), code_at (n / 2) 3 (segment_3 (n / 2) (omega arith) (omega arith)))
    go (inr a) (inr b) (inr c) (inr l) (inl h) f = omega (arith, code_at n 5 (segment_5 n l h), code_at (n / 2) 4 (segment_4 (n / 2) (omega arith) (omega arith)))
    go (inr a) (inr b) (inr c) (inr d) (inr l) (inl h) = omega (arith, code_at n 6 (segment_6 n l h), code_at (n / 2) 5 (segment_5 (n / 2) (omega arith) (omega arith)))
    go (inr a) (inr b) (inr c) (inr d) (inr e) (inr l) = omega (arith, code_at n 7 (segment_7 n l), code_at (n / 2) 6 (segment_6 (n / 2) (omega arith) (omega arith)))
