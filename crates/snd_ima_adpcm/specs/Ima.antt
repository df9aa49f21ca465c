-- IMA ADPCM in WAVE files (format tag 0x11), as Microsoft's "New Multimedia Data Types and Data Techniques" (1994) lays out its blocks.
use Rattle.std.specs.Prelude.{◌+◌, ◌-◌, ◌*◌, ◌/◌, ◌%◌, ℕ, ℤ, ◌-ℤ◌, List, [], ◌∷◌, ◌++◌, map, length, Bool, ◌==◌, nat_lt, slice_index, if◌then◌else◌}
use Rattle.std.specs.List.{range_with_len, list_any}
use Rattle.snd_fields.specs.Blocks.{is_ima_align, ima_samples_per_block}
use Rattle.snd_ima_adpcm.specs.Step.{step_size, moved, next_index, code_for}
use Rattle.snd_ima_adpcm.specs.Frames.{number_16, in_frames, low_half_first, clamp_16, bytes_16, bytes_low_half_first, firsts, seconds, fours, IsWholeBlock}

-- ---- one code

-- the predictor after a code, which is the code's sample
unfoldable pub ima_predictor : ℤ → ℕ → ℕ → ℤ
ima_predictor predictor index code = clamp_16 (moved predictor (step_size index) code)

unfoldable pub ima_index : ℕ → ℕ → ℕ
ima_index index code = next_index 0 88 index code

-- the samples of a list of codes
abbrev pub ima_samples : ℤ → ℕ → List ℕ → List ℤ
ima_samples predictor index [] = []
ima_samples predictor index (code ∷ codes) = ima_predictor predictor index code ∷ ima_samples (ima_predictor predictor index code) (ima_index index code) codes

-- ---- the layout of a block: a head of 4 bytes for each channel, then 4 bytes of codes for each channel in turn

-- the numbers of a block: the samples of all its channels
abbrev pub ima_numbers : ℕ → ℕ → ℕ
ima_numbers channels align = channels * ima_samples_per_block channels align

-- where byte n of a channel's codes lies
abbrev pub ima_place : ℕ → ℕ → ℕ → ℕ
ima_place channels channel n = 4 * channels + 4 * (channels * (n / 4) + channel) + n % 4

-- the bytes of a channel's codes
unfoldable pub ima_code_bytes : ℕ → ℕ → List ℕ → List ℕ
ima_code_bytes channels channel block = map (λ n. slice_index block (ima_place channels channel n)) (range_with_len 0 (length block / channels - 4))

-- ---- reading a block

-- a channel's head: the first sample in 2 bytes, the index, and a byte that says nothing
abbrev pub ima_first : ℕ → List ℕ → ℤ
ima_first channel block = number_16 (slice_index block (4 * channel)) (slice_index block (4 * channel + 1))

abbrev pub ima_start_index : ℕ → List ℕ → ℕ
ima_start_index channel block = slice_index block (4 * channel + 2)

-- a block whose head has an index above 88 has no samples
abbrev pub is_bad_ima_block : ℕ → List ℕ → Bool
is_bad_ima_block channels block = list_any (λ channel. nat_lt 88 (ima_start_index channel block)) (range_with_len 0 channels)

-- the samples of one channel
abbrev pub ima_channel : ℕ → ℕ → List ℕ → List ℤ
ima_channel channels channel block = ima_first channel block ∷ ima_samples (ima_first channel block) (ima_start_index channel block) (low_half_first (ima_code_bytes channels channel block))

-- the samples of a block
abbrev pub ima_block : ℕ → List ℕ → List ℤ
ima_block channels block = in_frames channels (λ channel. ima_channel channels channel block)

-- ---- writing a block

-- the code of a sample, by the predictor and the index before it
unfoldable pub ima_code : ℤ → ℕ → ℤ → ℕ
ima_code predictor index sample = code_for (step_size index) (sample -ℤ predictor)

-- the codes of a list of samples
abbrev pub ima_codes : ℤ → ℕ → List ℤ → List ℕ
ima_codes predictor index [] = []
ima_codes predictor index (sample ∷ samples) =
    ima_code predictor index sample ∷ ima_codes (ima_predictor predictor index (ima_code predictor index sample)) (ima_index index (ima_code predictor index sample)) samples

-- the predictor and the index after them
abbrev pub ima_predictor_after : ℤ → ℕ → List ℤ → ℤ
ima_predictor_after predictor index [] = predictor
ima_predictor_after predictor index (sample ∷ samples) =
    ima_predictor_after (ima_predictor predictor index (ima_code predictor index sample)) (ima_index index (ima_code predictor index sample)) samples

abbrev pub ima_index_after : ℤ → ℕ → List ℤ → ℕ
ima_index_after predictor index [] = index
ima_index_after predictor index (sample ∷ samples) =
    ima_index_after (ima_predictor predictor index (ima_code predictor index sample)) (ima_index index (ima_code predictor index sample)) samples

-- from a channel's samples in a block and its index before: its head, its bytes of codes, and its index afterwards. The first sample is the block's first predictor.
abbrev pub ima_head : ℕ → List ℤ → List ℕ
ima_head index [] = []
ima_head index (first ∷ samples) = bytes_16 first ++ index ∷ 0 ∷ []

abbrev pub ima_body : ℕ → List ℤ → List ℕ
ima_body index [] = []
ima_body index (first ∷ samples) = bytes_low_half_first (ima_codes first index samples)

abbrev pub ima_next_index : ℕ → List ℤ → ℕ
ima_next_index index [] = index
ima_next_index index (first ∷ samples) = ima_index_after first index samples

-- the indices that are carried from block to block, of the first and of the second channel
abbrev pub Indices : Type 0
Indices = ℕ × ℕ

-- the bytes of a block, from its samples frame by frame
abbrev pub ima_bytes : ℕ → Indices → List ℤ → List ℕ
ima_bytes channels indices samples =
    if channels == 1
    then ima_head indices.0 samples ++ ima_body indices.0 samples
    else (ima_head indices.0 (firsts samples) ++ ima_head indices.1 (seconds samples) ++ fours (ima_body indices.0 (firsts samples)) (ima_body indices.1 (seconds samples)))

-- the indices after it
abbrev pub ima_next_indices : ℕ → Indices → List ℤ → Indices
ima_next_indices channels indices samples =
    if channels == 1
    then (ima_next_index indices.0 samples, indices.1)
    else (ima_next_index indices.0 (firsts samples), ima_next_index indices.1 (seconds samples))

-- so many numbers are the samples of a whole block
abbrev pub IsImaBlock : ℕ → ℕ → Type 0
IsImaBlock channels count = IsWholeBlock is_ima_align ima_samples_per_block channels count
