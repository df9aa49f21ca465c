-- How many samples a block has, whatever its bytes are.
use Rattle.std.proofs.Common.{◌≡◌, ◌⊎◌, ℕ, ℤ, ◌+◌, ◌-◌, ◌*◌, ◌/◌, ◌%◌, List, [], ◌∷◌, length, refl, sym, subst, ◌∙◌, arith, ⊎_elim}
use Rattle.std.specs.Prelude.{IsTrue, ◌==◌, nat_le}
use Rattle.std.proofs.lemmas.Bool.{and_parts, leb-true}
use Rattle.snd_fields.specs.Blocks.{is_ima_align}
use Rattle.snd_ima_adpcm.specs.Frames.{alternating, high_half_first, low_half_first}
use Rattle.snd_ima_adpcm.specs.Ima.{ima_block, ima_channel, ima_code_bytes, ima_first, ima_index, ima_numbers, ima_predictor, ima_samples, ima_start_index}
use Rattle.snd_ima_adpcm.proofs.ImaCodes.{length-ima_code_bytes}

pub length-alternating : (xs ys : List ℤ) → length xs ≡ length ys → length (alternating xs ys) ≡ 2 * length xs
length-alternating [] ys same = refl
length-alternating (x ∷ xs) [] same = absurd (omega (arith, same))
length-alternating (x ∷ xs) (y ∷ ys) same = omega (arith, length-alternating xs ys (omega (arith, same)))

length-low_half_first : (bytes : List ℕ) → length (low_half_first bytes) ≡ 2 * length bytes
length-low_half_first [] = refl
length-low_half_first (byte ∷ bytes) = omega (arith, length-low_half_first bytes)

pub length-high_half_first : (bytes : List ℕ) → length (high_half_first bytes) ≡ 2 * length bytes
length-high_half_first [] = refl
length-high_half_first (byte ∷ bytes) = omega (arith, length-high_half_first bytes)

-- ---- IMA

length-ima_samples : (p : ℤ) (i : ℕ) (codes : List ℕ) → length (ima_samples p i codes) ≡ length codes
length-ima_samples p i [] = refl
length-ima_samples p i (code ∷ codes) = omega (arith, length-ima_samples (ima_predictor p i code) (ima_index i code) codes)

length-ima_channel : (channels channel : ℕ) (block : List ℕ) → length (ima_channel channels channel block) ≡ 1 + 2 * (length block / channels - 4)
length-ima_channel channels channel block =
    let bytes = ima_code_bytes channels channel block in
    omega (arith, length-ima_samples (ima_first channel block) (ima_start_index channel block) (low_half_first bytes), length-low_half_first bytes, length-ima_code_bytes channels channel block)

ima_mono : (block : List ℕ) → IsTrue (is_ima_align 1 (length block)) → length (ima_block 1 block) ≡ ima_numbers 1 (length block)
ima_mono block form =
    let head = leb-true (4 * 1) (length block) (and_parts (nat_le (4 * 1) (length block)) ((length block - 4 * 1) % (4 * 1) == 0) form).0 in
    omega (arith, head, length-ima_channel 1 0 block)

ima_stereo : (block : List ℕ) → IsTrue (is_ima_align 2 (length block)) → length (ima_block 2 block) ≡ ima_numbers 2 (length block)
ima_stereo block form =
    let head = leb-true (4 * 2) (length block) (and_parts (nat_le (4 * 2) (length block)) ((length block - 4 * 2) % (4 * 2) == 0) form).0 in
    let whole : (length block - 8) % 8 ≡ 0 = grind (arith, form) in
    omega (arith, head, whole, length-ima_channel 2 0 block, length-alternating (ima_channel 2 0 block) (ima_channel 2 1 block) (length-ima_channel 2 0 block ∙ sym (length-ima_channel 2 1 block)))

pub count_ima_block : (channels : ℕ) (block : List ℕ) → (channels ≡ 1) ⊎ (channels ≡ 2) → IsTrue (is_ima_align channels (length block)) → length (ima_block channels block) ≡ ima_numbers channels (length block)
count_ima_block channels block few form =
    let counts : ℕ → Type 0 = λ c. IsTrue (is_ima_align c (length block)) → length (ima_block c block) ≡ ima_numbers c (length block) in
    ⊎_elim (λ one. subst counts (sym one) (ima_mono block) form) (λ two. subst counts (sym two) (ima_stereo block) form) few
