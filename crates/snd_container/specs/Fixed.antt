-- The samples of a codec with a fixed number of bytes for each: linear ones, and those of the two laws of ITU-T
-- Recommendation G.711 (1988), "Pulse code modulation (PCM) of voice frequencies", which have one byte for a number of 16 bits.
use Rattle.std.specs.Prelude.{◌≡◌, ◌*◌, ℕ, ℤ, negsuc, List, All, length, map, ◌==◌, if◌then◌else◌}
use Rattle.snd_fields.specs.Laws.{IsByte}
use Rattle.snd_fields.specs.declared.field.Order.TheVariants.{Little}
use Rattle.snd_g711.specs.Alaw.{alaw_byte, alaw_value}
use Rattle.snd_g711.specs.Mulaw.{mulaw_byte, mulaw_value}
use Rattle.snd_pcm.specs.Pcm.{InRange as InLinearRange, byte_count as linear_byte_count, samples as linear_samples, samples_bytes as linear_bytes}
use Rattle.snd_pcm.specs.declared.linear.Linear as linear
use Rattle.snd_container.specs.declared.fixed.Fixed.{Fixed}
use Rattle.snd_container.specs.declared.fixed.Fixed.TheVariants.{Linear, MuLaw, ALaw}

-- how many bytes a sample has
abbrev pub byte_count : Fixed → ℕ
byte_count (Linear form) = linear_byte_count form
byte_count MuLaw = 1
byte_count ALaw = 1

-- the linear form whose range the numbers have that may be written; for the laws it has 16 bits
abbrev pub range_form : Fixed → linear.Linear
range_form (Linear form) = form
range_form MuLaw = linear.TheVariants.S16 Little
range_form ALaw = linear.TheVariants.S16 Little

abbrev pub InRange : Fixed → ℤ → Type 0
InRange form x = InLinearRange (range_form form) x

-- the samples that bytes hold, one after the other, and the bytes of samples
abbrev pub samples : Fixed → List ℕ → List ℤ
samples (Linear form) bytes = linear_samples form bytes
samples MuLaw bytes = map mulaw_value bytes
samples ALaw bytes = map alaw_value bytes

abbrev pub samples_bytes : Fixed → List ℤ → List ℕ
samples_bytes (Linear form) xs = linear_bytes form xs
samples_bytes MuLaw xs = map mulaw_byte xs
samples_bytes ALaw xs = map alaw_byte xs

-- the number that is kept of one that is written: a linear codec keeps it, and a law the one that its byte stands for
abbrev pub kept_number : Fixed → ℤ → ℤ
kept_number (Linear form) x = x
kept_number MuLaw x = mulaw_value (mulaw_byte x)
kept_number ALaw x = alaw_value (alaw_byte x)

-- Numbers of which bytes are the samples: those that they stand for, but that the second zero of the mu-law, 0x7F, is written of -1.
abbrev pub mulaw_source : ℕ → ℤ
mulaw_source byte = if byte == 0x7F then negsuc 0 else mulaw_value byte

abbrev pub sources : Fixed → List ℕ → List ℤ
sources (Linear form) bytes = linear_samples form bytes
sources MuLaw bytes = map mulaw_source bytes
sources ALaw bytes = map alaw_value bytes

-- ---- the laws of kept numbers

-- bytes of numbers stand for those that are kept of them
abbrev pub NumbersAreKept : Type 0
NumbersAreKept = (form : Fixed) (xs : List ℤ) → All (InRange form) xs → samples form (samples_bytes form xs) ≡ map (kept_number form) xs

-- a number that was kept is kept as it is
abbrev pub KeptNumbersStay : Type 0
KeptNumbersStay = (form : Fixed) (x : ℤ) → kept_number form (kept_number form x) ≡ kept_number form x

-- whole samples are the bytes of their sources
abbrev pub BytesAreKept : Type 0
BytesAreKept = (form : Fixed) (bytes : List ℕ) (n : ℕ) → length bytes ≡ byte_count form * n → All IsByte bytes → samples_bytes form (sources form bytes) ≡ bytes
