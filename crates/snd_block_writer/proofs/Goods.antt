-- A block that is written is not bad, and holds as many samples as it should.
use Rattle.std.proofs.Common.{◌≡◌, ◌⊎◌, ◌∙◌, refl, sym, ap, subst, inl, inr, ℕ, ℤ, pos, negsuc, zero, suc, ◌+◌, ◌-◌, ◌*◌, ◌/◌, ◌%◌, ◌≤◌, false, ltb, List, [], ◌∷◌, length, drop, arith}
use Rattle.std.specs.Prelude.{◌==◌, IsTrue, nat_le}
use Rattle.std.proofs.lemmas.Bool.{and_parts, cases_Bool, eqb-true, le-ltb, leb-true}
use Rattle.std.proofs.lemmas.List.{length-drop}
use Rattle.snd_ima_adpcm.proofs.Public.{length-firsts, length-ima_code_bytes, length-seconds}
use Rattle.snd_ima_adpcm.specs.Frames.{firsts, high_half_first, low_half_first, of_channel, seconds}
use Rattle.snd_ima_adpcm.specs.Ima.{Indices, ima_block, ima_bytes, ima_channel, ima_code, ima_code_bytes, ima_first, ima_index, ima_index_after, ima_next_index, ima_next_indices, ima_predictor, ima_samples, ima_start_index, is_bad_ima_block}
use Rattle.snd_ms_adpcm.specs.Microsoft.{is_bad_ms_block, least_number, ms_block, ms_bytes, ms_channel, ms_delta, ms_number_for, ms_sample, ms_samples, ms_start_error}
use Rattle.snd_fields.specs.Blocks.{is_ima_align, ima_samples_per_block, is_ms_align, ms_samples_per_block}
use Rattle.snd_block_writer.proofs.Sizes.{length-alternating}

-- ---- the heads of IMA blocks

-- both indices are of steps
pub record AreIndices (indices : Indices) : Type 0 where
  pub left : indices.0 ≤ 88
  pub right : indices.1 ≤ 88

index_kept : (index code : ℕ) → ima_index index code ≤ 88
unfolding ima_index
index_kept index code = omega arith

index_after : (predictor : ℤ) (index : ℕ) (xs : List ℤ) → index ≤ 88 → ima_index_after predictor index xs ≤ 88
index_after predictor index [] small = small
index_after predictor index (x ∷ xs) small =
    index_after (ima_predictor predictor index (ima_code predictor index x)) (ima_index index (ima_code predictor index x)) xs (index_kept index (ima_code predictor index x))

next_index : (index : ℕ) (xs : List ℤ) → index ≤ 88 → ima_next_index index xs ≤ 88
next_index index [] small = small
next_index index (x ∷ xs) small = index_after x index xs small

pub indices_kept : (channels : ℕ) (indices : Indices) (xs : List ℤ) → (channels ≡ 1) ⊎ (channels ≡ 2) → AreIndices indices → AreIndices (ima_next_indices channels indices xs)
indices_kept channels indices xs (inl one) are = rw one (record { left = next_index indices.0 xs are.left; right = are.right })
indices_kept channels indices xs (inr two) are = rw two (record { left = next_index indices.0 (firsts xs) are.left; right = next_index indices.1 (seconds xs) are.right })

good_mono : (indices : Indices) (xs : List ℤ) → 1 ≤ length xs → AreIndices indices → is_bad_ima_block 1 (ima_bytes 1 indices xs) ≡ false
good_mono indices [] some are = absurd (omega arith)
good_mono indices (pos x ∷ xs) some are = rw (le-ltb 88 indices.0 are.left) refl
good_mono indices (negsuc x ∷ xs) some are = rw (le-ltb 88 indices.0 are.left) refl

good_stereo : (indices : Indices) (xs : List ℤ) → 2 ≤ length xs → AreIndices indices → is_bad_ima_block 2 (ima_bytes 2 indices xs) ≡ false
good_stereo indices [] some are = absurd (omega arith)
good_stereo indices (x ∷ []) some are = absurd (omega arith)
good_stereo indices (pos x ∷ pos y ∷ xs) some are = rw (le-ltb 88 indices.0 are.left, le-ltb 88 indices.1 are.right) refl
good_stereo indices (pos x ∷ negsuc y ∷ xs) some are = rw (le-ltb 88 indices.0 are.left, le-ltb 88 indices.1 are.right) refl
good_stereo indices (negsuc x ∷ pos y ∷ xs) some are = rw (le-ltb 88 indices.0 are.left, le-ltb 88 indices.1 are.right) refl
good_stereo indices (negsuc x ∷ negsuc y ∷ xs) some are = rw (le-ltb 88 indices.0 are.left, le-ltb 88 indices.1 are.right) refl

pub good_ima : (channels align : ℕ) (indices : Indices) (xs : List ℤ) → (channels ≡ 1) ⊎ (channels ≡ 2) → length xs ≡ channels * ima_samples_per_block channels align → AreIndices indices
    → is_bad_ima_block channels (ima_bytes channels indices xs) ≡ false
good_ima channels align indices xs (inl one) =
    subst (λ (n : ℕ). length xs ≡ n * ima_samples_per_block n align → AreIndices indices → is_bad_ima_block n (ima_bytes n indices xs) ≡ false) (sym one)
    (λ size are. good_mono indices xs (omega (arith, size)) are)
good_ima channels align indices xs (inr two) =
    subst (λ (n : ℕ). length xs ≡ n * ima_samples_per_block n align → AreIndices indices → is_bad_ima_block n (ima_bytes n indices xs) ≡ false) (sym two)
    (λ size are. good_stereo indices xs (omega (arith, size)) are)

-- ---- the heads of Microsoft's blocks

least_within : (f : ℕ → ℕ) (n : ℕ) → least_number f n ≤ n
unfolding least_number
least_within f zero = omega arith
least_within f (suc n) = elim (cases_Bool (ltb (f (suc n)) (f (least_number f n)))) [
  | inl less ↦ rw less (omega arith)
  | inr more ↦ rw more (omega (arith, least_within f n))
]

number_within : (xs : List ℤ) → ms_number_for xs ≤ 6
unfolding ms_number_for
number_within xs = least_within (ms_start_error xs) 6

pub good_ms : (channels : ℕ) (xs : List ℤ) → (channels ≡ 1) ⊎ (channels ≡ 2) → is_bad_ms_block channels (ms_bytes channels xs) ≡ false
good_ms channels xs (inl one) = subst (λ (n : ℕ). is_bad_ms_block n (ms_bytes n xs) ≡ false) (sym one) (rw (le-ltb 6 (ms_number_for xs) (number_within xs)) refl)
good_ms channels xs (inr two) =
    subst (λ (n : ℕ). is_bad_ms_block n (ms_bytes n xs) ≡ false) (sym two)
    (rw (le-ltb 6 (ms_number_for (firsts xs)) (number_within (firsts xs)), le-ltb 6 (ms_number_for (seconds xs)) (number_within (seconds xs))) refl)

-- ---- the samples of a block

length-low_half : (bytes : List ℕ) → length (low_half_first bytes) ≡ 2 * length bytes
length-low_half [] = refl
length-low_half (byte ∷ bytes) = omega (arith, length-low_half bytes)

length-high_half : (bytes : List ℕ) → length (high_half_first bytes) ≡ 2 * length bytes
length-high_half [] = refl
length-high_half (byte ∷ bytes) = omega (arith, length-high_half bytes)

length-ima_samples : (predictor : ℤ) (index : ℕ) (codes : List ℕ) → length (ima_samples predictor index codes) ≡ length codes
length-ima_samples predictor index [] = refl
length-ima_samples predictor index (code ∷ codes) = ap suc (length-ima_samples (ima_predictor predictor index code) (ima_index index code) codes)

length-ima_channel : (channels channel : ℕ) (block : List ℕ) → length (ima_channel channels channel block) ≡ 2 * (length block / channels - 4) + 1
length-ima_channel channels channel block =
    let codes = low_half_first (ima_code_bytes channels channel block) in
    omega (
      arith,
      length-ima_samples (ima_first channel block) (ima_start_index channel block) codes,
      length-low_half (ima_code_bytes channels channel block),
      length-ima_code_bytes channels channel block,
    )

samples_mono : (align : ℕ) (block : List ℕ) → IsTrue (is_ima_align 1 align) → length block ≡ align → length (ima_block 1 block) ≡ 1 * ima_samples_per_block 1 align
samples_mono align block aligned size =
    let least : 4 * 1 ≤ align = leb-true (4 * 1) align (and_parts (nat_le (4 * 1) align) ((align - 4 * 1) % (4 * 1) == 0) aligned).0 in
    omega (arith, length-ima_channel 1 0 block, size, least)

samples_stereo : (align : ℕ) (block : List ℕ) → IsTrue (is_ima_align 2 align) → length block ≡ align → length (ima_block 2 block) ≡ 2 * ima_samples_per_block 2 align
samples_stereo align block aligned size =
    let parts = and_parts (nat_le (4 * 2) align) ((align - 4 * 2) % (4 * 2) == 0) aligned in
    let least : 4 * 2 ≤ align = leb-true (4 * 2) align parts.0 in
    let none : (align - 4 * 2) % (4 * 2) ≡ 0 = eqb-true ((align - 4 * 2) % (4 * 2)) 0 parts.1 in
    let one = length-ima_channel 2 0 block in
    let two = length-ima_channel 2 1 block in
    omega (arith, length-alternating (ima_channel 2 0 block) (ima_channel 2 1 block) (one ∙ sym two), one, size, least, none)

pub samples_ima : (channels align : ℕ) (block : List ℕ) → (channels ≡ 1) ⊎ (channels ≡ 2) → IsTrue (is_ima_align channels align) → length block ≡ align
    → length (ima_block channels block) ≡ channels * ima_samples_per_block channels align
samples_ima channels align block (inl one) =
    subst (λ (n : ℕ). IsTrue (is_ima_align n align) → length block ≡ align → length (ima_block n block) ≡ n * ima_samples_per_block n align) (sym one) (samples_mono align block)
samples_ima channels align block (inr two) =
    subst (λ (n : ℕ). IsTrue (is_ima_align n align) → length block ≡ align → length (ima_block n block) ≡ n * ima_samples_per_block n align) (sym two) (samples_stereo align block)

length-ms_samples : (newer_by older_by newer older delta : ℤ) (codes : List ℕ) → length (ms_samples newer_by older_by newer older delta codes) ≡ length codes
length-ms_samples newer_by older_by newer older delta [] = refl
length-ms_samples newer_by older_by newer older delta (code ∷ codes) =
    ap suc (length-ms_samples newer_by older_by (ms_sample newer_by older_by newer older delta code) newer (ms_delta delta code) codes)

length-ms_channel : (channels channel : ℕ) (block : List ℕ) → length (ms_channel channels channel block) ≡ length (of_channel channels channel (high_half_first (drop (7 * channels) block))) + 2
length-ms_channel channels channel block =
    let codes = of_channel channels channel (high_half_first (drop (7 * channels) block)) in
    ap (λ (m : ℕ). suc (suc m)) (length-ms_samples _ _ _ _ _ codes) ∙ (let e : suc (suc (length codes)) ≡ length codes + 2 = omega arith in e)

ms_mono : (align : ℕ) (block : List ℕ) → IsTrue (is_ms_align 1 align) → length block ≡ align → length (ms_block 1 block) ≡ 1 * ms_samples_per_block 1 align
ms_mono align block aligned size =
    let least : 7 * 1 ≤ align = leb-true (7 * 1) align (and_parts (nat_le (7 * 1) align) ((align - 7 * 1) * 2 % 1 == 0) aligned).0 in
    let codes = high_half_first (drop (7 * 1) block) in
    let count : length (ms_block 1 block) ≡ length codes + 2 = length-ms_channel 1 0 block in
    omega (arith, count, length-high_half (drop (7 * 1) block), length-drop (7 * 1) block, size, least)

ms_stereo : (align : ℕ) (block : List ℕ) → IsTrue (is_ms_align 2 align) → length block ≡ align → length (ms_block 2 block) ≡ 2 * ms_samples_per_block 2 align
ms_stereo align block aligned size =
    let least : 7 * 2 ≤ align = leb-true (7 * 2) align (and_parts (nat_le (7 * 2) align) ((align - 7 * 2) * 2 % 2 == 0) aligned).0 in
    let codes = high_half_first (drop (7 * 2) block) in
    let left : length (ms_channel 2 0 block) ≡ length (firsts codes) + 2 = length-ms_channel 2 0 block in
    let right : length (ms_channel 2 1 block) ≡ length (seconds codes) + 2 = length-ms_channel 2 1 block in
    let half = length-firsts codes in
    let other = length-seconds codes in
    let all = length-high_half (drop (7 * 2) block) in
    let same : length (ms_channel 2 0 block) ≡ length (ms_channel 2 1 block) = omega (arith, left, right, half, other, all) in
    omega (arith, length-alternating (ms_channel 2 0 block) (ms_channel 2 1 block) same, left, half, all, length-drop (7 * 2) block, size, least)

pub samples_ms : (channels align : ℕ) (block : List ℕ) → (channels ≡ 1) ⊎ (channels ≡ 2) → IsTrue (is_ms_align channels align) → length block ≡ align
    → length (ms_block channels block) ≡ channels * ms_samples_per_block channels align
samples_ms channels align block (inl one) =
    subst (λ (n : ℕ). IsTrue (is_ms_align n align) → length block ≡ align → length (ms_block n block) ≡ n * ms_samples_per_block n align) (sym one) (ms_mono align block)
samples_ms channels align block (inr two) =
    subst (λ (n : ℕ). IsTrue (is_ms_align n align) → length block ≡ align → length (ms_block n block) ≡ n * ms_samples_per_block n align) (sym two) (ms_stereo align block)
