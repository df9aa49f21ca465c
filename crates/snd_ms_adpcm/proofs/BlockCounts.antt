-- How many samples a block has, whatever its bytes are.
use Rattle.std.proofs.Common.{◌≡◌, ◌⊎◌, ℕ, ℤ, ◌+◌, ◌-◌, ◌*◌, ◌%◌, List, [], ◌∷◌, length, drop, refl, sym, subst, ◌∙◌, arith, ⊎_elim}
use Rattle.std.specs.Prelude.{IsTrue, ◌==◌, nat_le}
use Rattle.std.proofs.lemmas.Bool.{and_parts, leb-true}
use Rattle.std.proofs.lemmas.List.{length-drop}
use Rattle.snd_fields.specs.Blocks.{is_ms_align}
use Rattle.snd_ima_adpcm.specs.Frames.{high_half_first, of_channel}
use Rattle.snd_ima_adpcm.proofs.Public.{length-alternating, length-firsts, length-high_half_first, length-seconds}
use Rattle.snd_ms_adpcm.specs.Microsoft.{ms_block, ms_channel, ms_delta, ms_newer, ms_number, ms_numbers, ms_older, ms_sample, ms_samples, ms_start_delta, newer_weight, older_weight}

length-ms_samples : (newer_by older_by newer older delta : ℤ) (codes : List ℕ) → length (ms_samples newer_by older_by newer older delta codes) ≡ length codes
length-ms_samples newer_by older_by newer older delta [] = refl
length-ms_samples newer_by older_by newer older delta (code ∷ codes) =
    omega (arith, length-ms_samples newer_by older_by (ms_sample newer_by older_by newer older delta code) newer (ms_delta delta code) codes)

length-ms_channel : (channels channel : ℕ) (block : List ℕ) → length (ms_channel channels channel block) ≡ 2 + length (of_channel channels channel (high_half_first (drop (7 * channels) block)))
length-ms_channel channels channel block =
    omega (
      arith,
      length-ms_samples (newer_weight (ms_number channel block)) (older_weight (ms_number channel block)) (ms_newer channels channel block) (ms_older channels channel block) (ms_start_delta channels channel block)
          (of_channel channels channel (high_half_first (drop (7 * channels) block))),
    )

ms_mono : (block : List ℕ) → IsTrue (is_ms_align 1 (length block)) → length (ms_block 1 block) ≡ ms_numbers 1 (length block)
ms_mono block form =
    let head = leb-true (7 * 1) (length block) (and_parts (nat_le (7 * 1) (length block)) ((length block - 7 * 1) * 2 % 1 == 0) form).0 in
    let codes = drop 7 block in
    omega (arith, head, length-ms_channel 1 0 block, length-high_half_first codes, length-drop 7 block)

ms_stereo : (block : List ℕ) → IsTrue (is_ms_align 2 (length block)) → length (ms_block 2 block) ≡ ms_numbers 2 (length block)
ms_stereo block form =
    let head = leb-true (7 * 2) (length block) (and_parts (nat_le (7 * 2) (length block)) ((length block - 7 * 2) * 2 % 2 == 0) form).0 in
    let codes = high_half_first (drop 14 block) in
    let size : length codes ≡ 2 * (length block - 14) = omega (arith, length-high_half_first (drop 14 block), length-drop 14 block) in
    let left : length (ms_channel 2 0 block) ≡ length block - 12 = omega (arith, head, size, length-ms_channel 2 0 block, length-firsts codes) in
    let right : length (ms_channel 2 1 block) ≡ length block - 12 = omega (arith, head, size, length-ms_channel 2 1 block, length-seconds codes) in
    omega (arith, head, left, length-alternating (ms_channel 2 0 block) (ms_channel 2 1 block) (left ∙ sym right))

pub count_ms_block : (channels : ℕ) (block : List ℕ) → (channels ≡ 1) ⊎ (channels ≡ 2) → IsTrue (is_ms_align channels (length block)) → length (ms_block channels block) ≡ ms_numbers channels (length block)
count_ms_block channels block few form =
    let counts : ℕ → Type 0 = λ c. IsTrue (is_ms_align c (length block)) → length (ms_block c block) ≡ ms_numbers c (length block) in
    ⊎_elim (λ one. subst counts (sym one) (ms_mono block) form) (λ two. subst counts (sym two) (ms_stereo block) form) few
