-- The data bytes that the writing rules give are bytes.
use Rattle.std.proofs.Common.{ℕ, ℤ, zero, suc, pos, negsuc, ◌*◌, ◌<◌, ◌≤◌, ◌+ℤ◌, ◌-ℤ◌, ◌*ℤ◌, ◌≤ℤ◌, unsigned_abs, List, [], ◌∷◌, ◌++◌, All, length, take, drop, get_or, refl, inl, inr, arith}
use Rattle.std.specs.Prelude.{◌==◌}
use Rattle.std.proofs.lemmas.Bool.{cases_lt, cond_both}
use Rattle.std.proofs.lemmas.Bool.Decides.{nat_tests}
use Rattle.std.proofs.lemmas.Int.{ints}
use Rattle.std.proofs.lemmas.List.{length-take, get_or_past}
use Rattle.std.proofs.lemmas.List.Elements.{All-append, All-cons, All-drop, All-head, All-nil, All-tail, All-take}
use Rattle.snd_fields.specs.Laws.{IsByte}
use Rattle.snd_ima_adpcm.specs.Frames.{Is16Bit, alternating, bytes_16, bytes_high_half_first, clamp, clamp_16, firsts, floor_div, in_frames, in_turn, of_channel, seconds}
use Rattle.snd_ima_adpcm.proofs.Public.{All-firsts, All-seconds, IsCode, abs_within, alternating_all, clamp_least, clamp_most, high_first_bytes, list_bytes, number_bytes, word_bytes, zero_has_16}
use Rattle.snd_ms_adpcm.specs.Laws.{MsDataAreBytes, ms_rule}
use Rattle.snd_ms_adpcm.specs.Microsoft.{code_of_number, least_number, ms_bytes, ms_code, ms_codes, ms_codes_for, ms_delta, ms_delta_for, ms_error, ms_error_sum, ms_newer_of, ms_number_for, ms_numbers, ms_older_of, ms_prediction, ms_sample, ms_start_error, newer_weight, older_weight}

least_number_most : (f : ℕ → ℕ) (n : ℕ) → least_number f n ≤ n
unfolding least_number
least_number_most f zero = omega arith
least_number_most f (suc n) = grind (arith, nat_tests, least_number_most f n)

number_for_most : (samples : List ℤ) → ms_number_for samples ≤ 6
unfolding ms_number_for
number_for_most samples = least_number_most (ms_start_error samples) 6

far_most : (x z : ℤ) → Is16Bit x → negsuc 32767 ≤ℤ z → z ≤ℤ pos 32767 → unsigned_abs (x -ℤ z) ≤ 65535
far_most x z is least most = abs_within (x -ℤ z) 65534 (omega (arith, ints)) (omega (arith, ints))

error_most : (number : ℕ) (newer older sample : ℤ) → Is16Bit sample → ms_error number newer older sample ≤ 65535
unfolding ms_error
error_most number newer older sample is =
    let z = ms_prediction (newer_weight number) (older_weight number) newer older in
    far_most sample (clamp_16 z) is (clamp_least _ z refl) (clamp_most _ z refl)

error_sum_most : (number : ℕ) (newer older : ℤ) (samples : List ℤ) → All Is16Bit samples → ms_error_sum number newer older samples ≤ 65535 * length samples
error_sum_most number newer older [] all = omega arith
error_sum_most number newer older (sample ∷ samples) all =
    omega (arith, error_most number newer older sample (All-head Is16Bit sample samples all), error_sum_most number sample newer samples (All-tail Is16Bit sample samples all))

delta_for_most : (samples : List ℤ) → All Is16Bit samples → ms_delta_for samples < 65536
unfolding ms_delta_for
delta_for_most samples all =
    let some = take 3 (drop 2 samples) in
    omega (arith, length-take 3 (drop 2 samples), error_sum_most (ms_number_for samples) (ms_newer_of samples) (ms_older_of samples) some (All-take Is16Bit 3 (drop 2 samples) (All-drop Is16Bit 2 samples all)))

sample_at_has_16 : (samples : List ℤ) (k : ℕ) → All Is16Bit samples → Is16Bit (get_or samples k (pos 0))
sample_at_has_16 samples k all = elim (cases_lt k (length samples)) [ inl lt ↦ all k (pos 0) lt | inr le ↦ rw (get_or_past samples k (pos 0) le) zero_has_16 ]

code_small : (z : ℤ) → z ≤ℤ pos 7 → code_of_number z < 16
code_small (pos n) most = omega (arith, ints)
code_small (negsuc n) most = omega arith

clamped_most : (z : ℤ) → clamp (negsuc 7) (pos 7) z ≤ℤ pos 7
clamped_most z = grind (arith, ints)

ms_code_small : (newer_by older_by newer older delta sample : ℤ) → IsCode (ms_code newer_by older_by newer older delta sample)
unfolding ms_code
ms_code_small newer_by older_by newer older delta sample =
    let deltas = floor_div (pos 2 *ℤ (sample -ℤ ms_prediction newer_by older_by newer older) +ℤ delta) (2 * unsigned_abs delta) in
    code_small (clamp (negsuc 7) (pos 7) deltas) (clamped_most deltas)

ms_codes_small : (newer_by older_by newer older delta : ℤ) (samples : List ℤ) → All IsCode (ms_codes newer_by older_by newer older delta samples)
ms_codes_small newer_by older_by newer older delta [] = All-nil IsCode
ms_codes_small newer_by older_by newer older delta (sample ∷ samples) =
    let code = ms_code newer_by older_by newer older delta sample in
    let next = ms_sample newer_by older_by newer older delta code in
    All-cons IsCode code (ms_codes newer_by older_by next newer (ms_delta delta code) samples) (ms_code_small newer_by older_by newer older delta sample)
    (ms_codes_small newer_by older_by next newer (ms_delta delta code) samples)

codes_for_small : (samples : List ℤ) → All IsCode (ms_codes_for samples)
codes_for_small samples =
    ms_codes_small (newer_weight (ms_number_for samples)) (older_weight (ms_number_for samples)) (ms_newer_of samples) (ms_older_of samples) (pos (ms_delta_for samples)) (drop 2 samples)

channel_has_16 : (channels channel : ℕ) (samples : List ℤ) → All Is16Bit samples → All Is16Bit (of_channel channels channel samples)
channel_has_16 channels channel samples all =
    cond_both (channels == 1) samples _ (All Is16Bit) (λ one. all)
    (λ two. cond_both (channel == 0) (firsts samples) (seconds samples) (All Is16Bit) (λ left. All-firsts Is16Bit samples all) (λ right. All-seconds Is16Bit samples all))

in_turn_bytes : (channels : ℕ) (bytes_of : ℕ → List ℕ) → ((channel : ℕ) → All IsByte (bytes_of channel)) → All IsByte (in_turn channels bytes_of)
in_turn_bytes channels bytes_of all =
    cond_both (channels == 1) (bytes_of 0) (bytes_of 0 ++ bytes_of 1) (All IsByte) (λ one. all 0) (λ two. All-append IsByte (bytes_of 0) (bytes_of 1) (all 0) (all 1))

in_frames_small : (channels : ℕ) (codes_of : ℕ → List ℕ) → ((channel : ℕ) → All IsCode (codes_of channel)) → All IsCode (in_frames channels codes_of)
in_frames_small channels codes_of all =
    cond_both (channels == 1) (codes_of 0) (alternating (codes_of 0) (codes_of 1)) (All IsCode) (λ one. all 0) (λ two. alternating_all IsCode (codes_of 0) (codes_of 1) (all 0) (all 1))

five_bytes : (a b c d e : List ℕ) → All IsByte a → All IsByte b → All IsByte c → All IsByte d → All IsByte e → All IsByte (a ++ b ++ c ++ d ++ e)
five_bytes a b c d e p q r s t = All-append IsByte (a ++ b ++ c ++ d) e (All-append IsByte (a ++ b ++ c) d (All-append IsByte (a ++ b) c (All-append IsByte a b p q) r) s) t

ms_block_bytes : (channels : ℕ) (samples : List ℤ) → All Is16Bit samples → All IsByte (ms_bytes channels samples)
ms_block_bytes channels samples all =
    let of = λ (channel : ℕ). of_channel channels channel samples in
    let of_16 : (channel : ℕ) → All Is16Bit (of channel) = λ channel. channel_has_16 channels channel samples all in
    let numbers = λ (channel : ℕ). ms_number_for (of channel) ∷ [] in
    let deltas = λ (channel : ℕ). bytes_16 (pos (ms_delta_for (of channel))) in
    let newers = λ (channel : ℕ). bytes_16 (ms_newer_of (of channel)) in
    let olders = λ (channel : ℕ). bytes_16 (ms_older_of (of channel)) in
    let codes = in_frames channels (λ channel. ms_codes_for (of channel)) in
    five_bytes (in_turn channels numbers) (in_turn channels deltas) (in_turn channels newers) (in_turn channels olders) (bytes_high_half_first codes)
    (in_turn_bytes channels numbers (λ channel. All-cons IsByte (ms_number_for (of channel)) [] (omega (arith, number_for_most (of channel))) (All-nil IsByte)))
    (in_turn_bytes channels deltas (λ channel. word_bytes (ms_delta_for (of channel)) (delta_for_most (of channel) (of_16 channel))))
    (in_turn_bytes channels newers (λ channel. number_bytes (ms_newer_of (of channel)) (sample_at_has_16 (of channel) 1 (of_16 channel))))
    (in_turn_bytes channels olders (λ channel. number_bytes (ms_older_of (of channel)) (sample_at_has_16 (of channel) 0 (of_16 channel))))
    (high_first_bytes codes (in_frames_small channels (λ channel. ms_codes_for (of channel)) (λ channel. codes_for_small (of channel))))

pub ms_data_bytes : MsDataAreBytes
ms_data_bytes channels align xs all =
    list_bytes (ms_rule channels) (λ state. Unit {0}) (record { bytes = λ state samples good. ms_block_bytes channels samples; next = λ state samples good. tt }) (ms_numbers channels align) tt xs tt all
