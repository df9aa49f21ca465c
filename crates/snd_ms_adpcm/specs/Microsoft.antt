-- Microsoft ADPCM in WAVE files (format tag 2), as Microsoft's "New Multimedia Data Types and Data Techniques" (1994) gives it.
-- That paper leaves the rounding of quotients and the greatest delta open: here quotients are rounded down, and a delta is at most 1048576.
use Rattle.std.specs.Prelude.{◌+◌, ◌-◌, ◌*◌, ◌/◌, ℕ, zero, suc, max, ℤ, pos, negsuc, ◌+ℤ◌, ◌-ℤ◌, ◌*ℤ◌, unsigned_abs, List, [], ◌∷◌, ◌++◌, take, drop, Bool, nat_lt, slice_index, slice_index_or, if◌then◌else◌}
use Rattle.std.specs.List.{range_with_len, list_any}
use Rattle.snd_fields.specs.Blocks.{is_ms_align, ms_samples_per_block, newer_weights, older_weights}
use Rattle.snd_ima_adpcm.specs.Frames.{number_16, in_frames, in_turn, of_channel, high_half_first, floor_div, clamp, clamp_16, bytes_16, bytes_high_half_first, IsWholeBlock}

-- ---- one code

-- the weights of the newer and of the older sample, by predictor number 0 to 6
unfoldable pub newer_weight : ℕ → ℤ
newer_weight number = slice_index_or newer_weights number (pos 0)

unfoldable pub older_weight : ℕ → ℤ
older_weight number = slice_index_or older_weights number (pos 0)

-- what a code multiplies the delta by, in parts of 256
unfoldable pub adaptations : List ℤ
adaptations = pos 230 ∷ pos 230 ∷ pos 230 ∷ pos 230 ∷ pos 307 ∷ pos 409 ∷ pos 512 ∷ pos 614 ∷ pos 768 ∷ pos 614 ∷ pos 512 ∷ pos 409 ∷ pos 307 ∷ pos 230 ∷ pos 230 ∷ pos 230 ∷ []

unfoldable pub adaptation : ℕ → ℤ
adaptation code = slice_index_or adaptations code (pos 0)

-- the sample that two weights foretell from the two before
abbrev pub ms_prediction : ℤ → ℤ → ℤ → ℤ → ℤ
ms_prediction newer_by older_by newer older = floor_div (newer *ℤ newer_by +ℤ older *ℤ older_by) 256

-- a code as a number from -8 to 7
abbrev pub signed_code : ℕ → ℤ
signed_code code = if nat_lt code 8 then pos code else negsuc (15 - code)

-- the sample of a code
unfoldable pub ms_sample : ℤ → ℤ → ℤ → ℤ → ℤ → ℕ → ℤ
ms_sample newer_by older_by newer older delta code = clamp_16 (ms_prediction newer_by older_by newer older +ℤ signed_code code *ℤ delta)

-- the delta after a code
unfoldable pub ms_delta : ℤ → ℕ → ℤ
ms_delta delta code = clamp (pos 16) (pos 1048576) (floor_div (delta *ℤ adaptation code) 256)

-- the samples of a list of codes
abbrev pub ms_samples : ℤ → ℤ → ℤ → ℤ → ℤ → List ℕ → List ℤ
ms_samples newer_by older_by newer older delta [] = []
ms_samples newer_by older_by newer older delta (code ∷ codes) =
    ms_sample newer_by older_by newer older delta code ∷ ms_samples newer_by older_by (ms_sample newer_by older_by newer older delta code) newer (ms_delta delta code) codes

-- ---- the layout of a block: the channels' predictor numbers, deltas, newer samples and older samples; then the codes, the channels in turn

-- the numbers of a block: the samples of all its channels
abbrev pub ms_numbers : ℕ → ℕ → ℕ
ms_numbers channels align = channels * ms_samples_per_block channels align

abbrev pub number_at : List ℕ → ℕ → ℤ
number_at block at = number_16 (slice_index block at) (slice_index block (at + 1))

abbrev pub ms_number : ℕ → List ℕ → ℕ
ms_number channel block = slice_index block channel

abbrev pub ms_start_delta : ℕ → ℕ → List ℕ → ℤ
ms_start_delta channels channel block = number_at block (channels + 2 * channel)

abbrev pub ms_newer : ℕ → ℕ → List ℕ → ℤ
ms_newer channels channel block = number_at block (3 * channels + 2 * channel)

abbrev pub ms_older : ℕ → ℕ → List ℕ → ℤ
ms_older channels channel block = number_at block (5 * channels + 2 * channel)

-- ---- reading a block

-- a block whose head has a predictor number above 6 has no samples
abbrev pub is_bad_ms_block : ℕ → List ℕ → Bool
is_bad_ms_block channels block = list_any (λ channel. nat_lt 6 (ms_number channel block)) (range_with_len 0 channels)

-- the samples of one channel
abbrev pub ms_channel : ℕ → ℕ → List ℕ → List ℤ
ms_channel channels channel block =
    ms_older channels channel block ∷ ms_newer channels channel block ∷
    ms_samples (newer_weight (ms_number channel block)) (older_weight (ms_number channel block))
    (ms_newer channels channel block) (ms_older channels channel block) (ms_start_delta channels channel block)
    (of_channel channels channel (high_half_first (drop (7 * channels) block)))

-- the samples of a block
abbrev pub ms_block : ℕ → List ℕ → List ℤ
ms_block channels block = in_frames channels (λ channel. ms_channel channels channel block)

-- ---- writing a block

-- the lowest of the numbers 0 to n at which f is least
unfoldable pub least_number : (ℕ → ℕ) → ℕ → ℕ
least_number f zero = 0
least_number f (suc n) = if nat_lt (f (suc n)) (f (least_number f n)) then suc n else least_number f n

-- how far a sample is from what a predictor foretells from the two before
unfoldable pub ms_error : ℕ → ℤ → ℤ → ℤ → ℕ
ms_error number newer older sample = unsigned_abs (sample -ℤ clamp_16 (ms_prediction (newer_weight number) (older_weight number) newer older))

-- the sum over a list of samples
abbrev pub ms_error_sum : ℕ → ℤ → ℤ → List ℤ → ℕ
ms_error_sum number newer older [] = 0
ms_error_sum number newer older (sample ∷ samples) = ms_error number newer older sample + ms_error_sum number sample newer samples

-- from a channel's samples in a block: its older and its newer sample, which are the first two
abbrev pub ms_older_of : List ℤ → ℤ
ms_older_of samples = slice_index_or samples 0 (pos 0)

abbrev pub ms_newer_of : List ℤ → ℤ
ms_newer_of samples = slice_index_or samples 1 (pos 0)

-- what a predictor's errors are at the third, the fourth and the fifth, or at as many of these as there are
abbrev pub ms_start_error : List ℤ → ℕ → ℕ
ms_start_error samples number = ms_error_sum number (ms_newer_of samples) (ms_older_of samples) (take 3 (drop 2 samples))

-- the predictor that the block takes, and its first delta
unfoldable pub ms_number_for : List ℤ → ℕ
ms_number_for samples = least_number (ms_start_error samples) 6

unfoldable pub ms_delta_for : List ℤ → ℕ
ms_delta_for samples = max 16 (ms_start_error samples (ms_number_for samples) / 12)

-- a number from -8 to 7 as a code
abbrev pub code_of_number : ℤ → ℕ
code_of_number (pos n) = n
code_of_number (negsuc n) = 15 - n

-- the code of a sample: how many deltas lie between the prediction and it, to the nearest, and from -8 to 7
unfoldable pub ms_code : ℤ → ℤ → ℤ → ℤ → ℤ → ℤ → ℕ
ms_code newer_by older_by newer older delta sample =
    code_of_number (clamp (negsuc 7) (pos 7) (floor_div (pos 2 *ℤ (sample -ℤ ms_prediction newer_by older_by newer older) +ℤ delta) (2 * unsigned_abs delta)))

-- the codes of a list of samples
abbrev pub ms_codes : ℤ → ℤ → ℤ → ℤ → ℤ → List ℤ → List ℕ
ms_codes newer_by older_by newer older delta [] = []
ms_codes newer_by older_by newer older delta (sample ∷ samples) =
    ms_code newer_by older_by newer older delta sample
    ∷ ms_codes newer_by older_by (ms_sample newer_by older_by newer older delta (ms_code newer_by older_by newer older delta sample)) newer (ms_delta delta (ms_code newer_by older_by newer older delta sample)) samples

-- the codes of a channel's samples in a block
abbrev pub ms_codes_for : List ℤ → List ℕ
ms_codes_for samples =
    ms_codes (newer_weight (ms_number_for samples)) (older_weight (ms_number_for samples)) (ms_newer_of samples) (ms_older_of samples) (pos (ms_delta_for samples)) (drop 2 samples)

-- the bytes of a block, from its samples frame by frame
abbrev pub ms_bytes : ℕ → List ℤ → List ℕ
ms_bytes channels samples =
    in_turn channels (λ channel. ms_number_for (of_channel channels channel samples) ∷ [])
    ++ in_turn channels (λ channel. bytes_16 (pos (ms_delta_for (of_channel channels channel samples))))
    ++ in_turn channels (λ channel. bytes_16 (ms_newer_of (of_channel channels channel samples)))
    ++ in_turn channels (λ channel. bytes_16 (ms_older_of (of_channel channels channel samples)))
    ++ bytes_high_half_first (in_frames channels (λ channel. ms_codes_for (of_channel channels channel samples)))

-- so many numbers are the samples of a whole block
abbrev pub IsMsBlock : ℕ → ℕ → Type 0
IsMsBlock channels count = IsWholeBlock is_ms_align ms_samples_per_block channels count
