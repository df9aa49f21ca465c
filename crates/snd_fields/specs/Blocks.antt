-- The blocks of ADPCM in WAVE files, which both the fields of a file's head and the codecs speak of. After Microsoft's
-- "New Multimedia Data Types and Data Techniques" 3.0 (1994), which calls their size nBlockAlign, the samples of a channel in
-- a block wSamplesPerBlock, and the weights of its own codec iCoef1 and iCoef2.
use Rattle.std.specs.Prelude.{ℕ, ◌+◌, ◌-◌, ◌*◌, ◌/◌, ◌%◌, ◌==◌, Bool, ◌&&◌, nat_le, ℤ, pos, negsuc, List, [], ◌∷◌}

-- An IMA ADPCM block has a head of 4 bytes for each channel, which holds one sample. Behind it stand groups of 4 bytes for
-- each channel, a sample each 4 bits.
abbrev pub is_ima_align : ℕ → ℕ → Bool
is_ima_align channels align = nat_le (4 * channels) align && ((align - 4 * channels) % (4 * channels) == 0)

-- the samples of one channel in a block
abbrev pub ima_samples_per_block : ℕ → ℕ → ℕ
ima_samples_per_block channels align = (align - 4 * channels) * 2 / channels + 1

-- A Microsoft ADPCM block has a head of 7 bytes for each channel, which holds two samples. Behind it stand the other samples,
-- of 4 bits each.
abbrev pub is_ms_align : ℕ → ℕ → Bool
is_ms_align channels align = nat_le (7 * channels) align && ((align - 7 * channels) * 2 % channels == 0)

abbrev pub ms_samples_per_block : ℕ → ℕ → ℕ
ms_samples_per_block channels align = (align - 7 * channels) * 2 / channels + 2

-- the weights of Microsoft's codec for the newer and for the older sample, by predictor number 0 to 6
abbrev pub newer_weights : List ℤ
newer_weights = pos 256 ∷ pos 512 ∷ pos 0 ∷ pos 192 ∷ pos 240 ∷ pos 460 ∷ pos 392 ∷ []

abbrev pub older_weights : List ℤ
older_weights = pos 0 ∷ negsuc 255 ∷ pos 0 ∷ pos 64 ∷ pos 0 ∷ negsuc 207 ∷ negsuc 231 ∷ []
