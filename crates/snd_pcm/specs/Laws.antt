-- The laws of linear samples, for each codec and order.
use Rattle.std.specs.Prelude.{◌≡◌, ℕ, ◌*◌, ◌/◌, ◌≤◌, ◌<◌, ℤ, List, ◌++◌, All, length, slice_index_or, take, drop}
use Rattle.snd_fields.specs.Laws.{IsByte}
use Rattle.snd_pcm.specs.declared.linear.Linear.{Linear}
use Rattle.snd_pcm.specs.Pcm.{InRange, byte_count, sample, sample_bytes, samples, samples_bytes}

-- a written sample reads back
abbrev pub SampleReadsBack : Type 0
SampleReadsBack = (form : Linear) (x : ℤ) → InRange form x → sample form (sample_bytes form x) ≡ x

abbrev pub SamplesReadBack : Type 0
SamplesReadBack = (form : Linear) (xs : List ℤ) → All (InRange form) xs → samples form (samples_bytes form xs) ≡ xs

-- a read sample's bytes are written back, and it is in range
abbrev pub SampleIsWrittenBack : Type 0
SampleIsWrittenBack = (form : Linear) (bytes : List ℕ) → length bytes ≡ byte_count form → All IsByte bytes →
    (sample_bytes form (sample form bytes) ≡ bytes) × InRange form (sample form bytes)

abbrev pub SamplesAreWrittenBack : Type 0
SamplesAreWrittenBack = (form : Linear) (bytes : List ℕ) (n : ℕ) → length bytes ≡ byte_count form * n → All IsByte bytes →
    samples_bytes form (samples form bytes) ≡ bytes

abbrev pub SamplesAreInRange : Type 0
SamplesAreInRange = (form : Linear) (bytes : List ℕ) → All IsByte bytes → All (InRange form) (samples form bytes)

-- how many samples bytes hold, which they are, and how many bytes samples have, each a byte
abbrev pub CountOfSamples : Type 0
CountOfSamples = (form : Linear) (bytes : List ℕ) → length (samples form bytes) ≡ length bytes / byte_count form

abbrev pub SampleAtPlace : Type 0
SampleAtPlace = (form : Linear) (bytes : List ℕ) (i : ℕ) (d : ℤ) → i < length bytes / byte_count form →
    slice_index_or (samples form bytes) i d ≡ sample form (take (byte_count form) (drop (byte_count form * i) bytes))

abbrev pub CountOfBytes : Type 0
CountOfBytes = (form : Linear) (xs : List ℤ) → (length (samples_bytes form xs) ≡ byte_count form * length xs) × All IsByte (samples_bytes form xs)

-- samples of joined bytes, and bytes of joined samples
abbrev pub SamplesOfJoined : Type 0
SamplesOfJoined = (form : Linear) (a b : List ℕ) (n : ℕ) → length a ≡ byte_count form * n → samples form (a ++ b) ≡ samples form a ++ samples form b

abbrev pub BytesOfJoined : Type 0
BytesOfJoined = (form : Linear) (xs ys : List ℤ) → samples_bytes form (xs ++ ys) ≡ samples_bytes form xs ++ samples_bytes form ys

-- the first n samples, and the others
abbrev pub SamplesOfParts : Type 0
SamplesOfParts = (form : Linear) (bytes : List ℕ) (n : ℕ) → byte_count form * n ≤ length bytes →
    (samples form (take (byte_count form * n) bytes) ≡ take n (samples form bytes)) × (samples form (drop (byte_count form * n) bytes) ≡ drop n (samples form bytes))
