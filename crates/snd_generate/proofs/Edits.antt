-- The numbers that are generated and edited.
use Rattle.std.proofs.Common.{◌≡◌, refl, ℕ, zero, suc, ◌*◌, ◌/◌, ◌<◌, ◌≤◌, ℤ, pos, neg_ℤ, ◌-ℤ◌, to_z, of_z, w32, List, [], ◌∷◌, All, arith}
use Rattle.std.proofs.lemmas.Int.{ints}
use Rattle.std.proofs.lemmas.List.Elements.{All-cons, All-nil}
use Rattle.snd_pcm.specs.Width.{HasWidth}
use Rattle.snd_generate.specs.Edited.{edited, frames_kept, overwritten}
use Rattle.snd_generate.specs.Generating.{AreNumbers}
use Rattle.snd_generate.specs.Numbers.{numbers_from}
use Rattle.snd_generate.proofs.Generator.{length-numbers, numbers_fit}
use Rattle.snd_generate.proofs.States.{cut_numbers, put_numbers}

-- the numbers of a frame that is put
pub pair_fits : (i : ℕ) → i < 4 → All (HasWidth 16) (pos i ∷ neg_ℤ (pos i) ∷ [])
pair_fits i few =
    All-cons (HasWidth 16) (pos i) (neg_ℤ (pos i) ∷ []) (omega (arith, ints, few), omega (arith, ints, few))
    (All-cons (HasWidth 16) (neg_ℤ (pos i)) [] (omega (arith, ints, few), omega (arith, ints, few)) (All-nil (HasWidth 16)))

-- .. as the code says them
pub negated : (i : ℕ) → i < 4 → to_z w32 (of_z w32 (pos 0 -ℤ pos i)) ≡ neg_ℤ (pos i)
negated zero few = refl
negated (suc zero) few = refl
negated (suc (suc zero)) few = refl
negated (suc (suc (suc zero))) few = refl
negated (suc (suc (suc (suc i)))) few = absurd (omega (arith, few))

-- its place is within the file
pub within : (n i : ℕ) → 1 ≤ n → i < 4 → i * n / 4 < n
within n zero some few = omega (arith, some)
within n (suc zero) some few = omega (arith, some)
within n (suc (suc zero)) some few = omega (arith, some)
within n (suc (suc (suc zero))) some few = omega (arith, some)
within n (suc (suc (suc (suc i)))) some few = absurd (omega (arith, few))

pub overwritten_numbers : (n i : ℕ) (xs : List ℤ) → i ≤ 4 → AreNumbers n xs → AreNumbers n (overwritten n i xs)
overwritten_numbers n zero xs few are = are
overwritten_numbers n (suc i) xs few are =
    let before = overwritten_numbers n i xs (omega (arith, few)) are in
    put_numbers n (i * n / 4) (overwritten n i xs) (pos i ∷ neg_ℤ (pos i) ∷ []) before refl (pair_fits i (omega (arith, few))) (within n i before.some (omega (arith, few)))

pub edited_numbers : (n : ℕ) (xs : List ℤ) → AreNumbers n xs → AreNumbers (frames_kept n) (edited n xs)
edited_numbers n xs are =
    let four = overwritten_numbers n 4 xs (omega arith) are in
    cut_numbers n (frames_kept n) (overwritten n 4 xs) four (omega (arith, are.some)) (omega arith)

pub generated_numbers : (n seed : ℕ) → 1 ≤ n → n ≤ 10000000 → AreNumbers n (numbers_from (2 * n) seed)
generated_numbers n seed some most = record { count = length-numbers (2 * n) seed; some = some; most = most; in_range = numbers_fit (2 * n) seed }
