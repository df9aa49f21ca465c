-- The data bytes that the writing rules give are bytes.
use Rattle.std.proofs.Common.{ℕ, ℤ, ◌-ℤ◌, ◌<◌, ◌≤◌, List, [], ◌∷◌, ◌++◌, All, arith}
use Rattle.std.specs.List.{AllByRecursion}
use Rattle.std.specs.Prelude.{◌==◌}
use Rattle.std.proofs.lemmas.Bool.{cond_both}
use Rattle.std.proofs.lemmas.Bool.Decides.{nat_tests}
use Rattle.std.proofs.lemmas.List.Elements.{All-append, All-cons, All-from_recursion, All-head, All-nil, recursion_from_All}
use Rattle.snd_fields.specs.Laws.{IsByte}
use Rattle.snd_ima_adpcm.specs.Frames.{Is16Bit, bytes_16, firsts, fours, seconds}
use Rattle.snd_ima_adpcm.specs.Ima.{Indices, ima_body, ima_bytes, ima_code, ima_codes, ima_head, ima_index, ima_index_after, ima_next_index, ima_next_indices, ima_numbers, ima_predictor}
use Rattle.snd_ima_adpcm.specs.Laws.{ImaDataAreBytes, ima_rule}
use Rattle.snd_ima_adpcm.specs.Step.{code_for, step_size}
use Rattle.snd_ima_adpcm.proofs.Coding.{IsCode, list_bytes, low_first_bytes, number_bytes}
use Rattle.snd_ima_adpcm.proofs.Pairs.{All-firsts, All-seconds}

code_for_small : (step : ℕ) (way : ℤ) → code_for step way < 16
code_for_small step way = grind (arith, nat_tests)

ima_code_small : (predictor : ℤ) (index : ℕ) (sample : ℤ) → IsCode (ima_code predictor index sample)
unfolding ima_code
ima_code_small predictor index sample = code_for_small (step_size index) (sample -ℤ predictor)

ima_codes_small : (predictor : ℤ) (index : ℕ) (samples : List ℤ) → All IsCode (ima_codes predictor index samples)
ima_codes_small predictor index [] = All-nil IsCode
ima_codes_small predictor index (sample ∷ samples) =
    let code = ima_code predictor index sample in
    All-cons IsCode code (ima_codes (ima_predictor predictor index code) (ima_index index code) samples) (ima_code_small predictor index sample)
    (ima_codes_small (ima_predictor predictor index code) (ima_index index code) samples)

abbrev IsIndex : ℕ → Type 0
IsIndex index = index ≤ 88

ima_index_most : (index code : ℕ) → IsIndex (ima_index index code)
unfolding ima_index
ima_index_most index code = omega arith

index_after_most : (predictor : ℤ) (index : ℕ) (samples : List ℤ) → IsIndex index → IsIndex (ima_index_after predictor index samples)
index_after_most predictor index [] is = is
index_after_most predictor index (sample ∷ samples) is =
    let code = ima_code predictor index sample in
    index_after_most (ima_predictor predictor index code) (ima_index index code) samples (ima_index_most index code)

next_index_most : (index : ℕ) (samples : List ℤ) → IsIndex index → IsIndex (ima_next_index index samples)
next_index_most index [] is = is
next_index_most index (first ∷ samples) is = index_after_most first index samples is

head_bytes : (index : ℕ) (samples : List ℤ) → IsIndex index → All Is16Bit samples → All IsByte (ima_head index samples)
head_bytes index [] is all = All-nil IsByte
head_bytes index (first ∷ samples) is all =
    All-append IsByte (bytes_16 first) (index ∷ 0 ∷ []) (number_bytes first (All-head Is16Bit first samples all))
    (All-cons IsByte index (0 ∷ []) (omega (arith, is)) (All-cons IsByte 0 [] (omega arith) (All-nil IsByte)))

body_bytes : (index : ℕ) (samples : List ℤ) → All IsByte (ima_body index samples)
body_bytes index [] = All-nil IsByte
body_bytes index (first ∷ samples) = low_first_bytes (ima_codes first index samples) (ima_codes_small first index samples)

fours_by_recursion : (xs ys : List ℕ) → AllByRecursion IsByte xs → AllByRecursion IsByte ys → AllByRecursion IsByte (fours xs ys)
fours_by_recursion (a ∷ b ∷ c ∷ d ∷ xs) (e ∷ f ∷ g ∷ h ∷ ys) (p, (q, (r, (s, left)))) (t, (u, (v, (w, right)))) =
    (p, (q, (r, (s, (t, (u, (v, (w, fours_by_recursion xs ys left right))))))))
fours_by_recursion xs ys left right = tt

fours_bytes : (xs ys : List ℕ) → All IsByte xs → All IsByte ys → All IsByte (fours xs ys)
fours_bytes xs ys left right = All-from_recursion IsByte (fours xs ys) (fours_by_recursion xs ys (recursion_from_All IsByte xs left) (recursion_from_All IsByte ys right))

abbrev AreIndices : Indices → Type 0
AreIndices indices = IsIndex indices.0 × IsIndex indices.1

ima_block_bytes : (channels : ℕ) (indices : Indices) (samples : List ℤ) → AreIndices indices → All Is16Bit samples → All IsByte (ima_bytes channels indices samples)
ima_block_bytes channels indices samples are all =
    let left = firsts samples in
    let right = seconds samples in
    let heads = ima_head indices.0 left ++ ima_head indices.1 right in
    let bodies = fours (ima_body indices.0 left) (ima_body indices.1 right) in
    cond_both (channels == 1) (ima_head indices.0 samples ++ ima_body indices.0 samples) (heads ++ bodies) (All IsByte)
    (λ one. All-append IsByte (ima_head indices.0 samples) (ima_body indices.0 samples) (head_bytes indices.0 samples are.0 all) (body_bytes indices.0 samples))
    (λ two. All-append IsByte heads bodies
    (All-append IsByte (ima_head indices.0 left) (ima_head indices.1 right) (head_bytes indices.0 left are.0 (All-firsts Is16Bit samples all)) (head_bytes indices.1 right are.1 (All-seconds Is16Bit samples all)))
    (fours_bytes (ima_body indices.0 left) (ima_body indices.1 right) (body_bytes indices.0 left) (body_bytes indices.1 right)))

next_indices_most : (channels : ℕ) (indices : Indices) (samples : List ℤ) → AreIndices indices → AreIndices (ima_next_indices channels indices samples)
next_indices_most channels indices samples are =
    cond_both (channels == 1) (ima_next_index indices.0 samples, indices.1) (ima_next_index indices.0 (firsts samples), ima_next_index indices.1 (seconds samples)) AreIndices
    (λ one. (next_index_most indices.0 samples are.0, are.1))
    (λ two. (next_index_most indices.0 (firsts samples) are.0, next_index_most indices.1 (seconds samples) are.1))

pub ima_data_bytes : ImaDataAreBytes
ima_data_bytes channels align xs all =
    list_bytes (ima_rule channels) AreIndices (record { bytes = ima_block_bytes channels; next = next_indices_most channels }) (ima_numbers channels align) (0, 0) xs (omega arith, omega arith) all
