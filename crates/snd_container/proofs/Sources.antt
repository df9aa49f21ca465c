-- Numbers of which bytes are the samples.
use Rattle.std.proofs.Common.{◌≡◌, ◌∙◌, ap, ℕ, ◌*◌, ◌/◌, ◌<◌, ℤ, pos, negsuc, FitsSigned, List, All, Bool, true, false, length, map, get_or, nat_eq, arith}
use Rattle.std.specs.Prelude.{◌==◌, if◌then◌else◌}
use Rattle.std.specs.Int.{w16}
use Rattle.std.proofs.lemmas.Int.{ints}
use Rattle.std.proofs.lemmas.List.{ext_get_or, get_or-map, length-map}
use Rattle.std.proofs.lemmas.List.Elements.{All-map, All-get_or}
use lib.Dec.{eqb→eq}
use Rattle.snd_fields.specs.Laws.{IsByte}
use Rattle.snd_g711.proofs.AlawLemmas.{alaw_value_fits, round_trip as alaw_round_trip}
use Rattle.snd_g711.proofs.Below.{every_below}
use Rattle.snd_g711.proofs.MulawLemmas.{mulaw_value_fits}
use Rattle.snd_g711.specs.Alaw.{alaw_byte, alaw_value}
use Rattle.snd_g711.specs.Mulaw.{mulaw_byte, mulaw_value}
use Rattle.snd_g711.specs.Segment.{segment_and_step}
use Rattle.snd_pcm.proofs.RoundTrips.{samples_are_in_range, samples_are_written_back}
use Rattle.snd_container.specs.Fixed.{InRange, byte_count, mulaw_source, samples, samples_bytes, sources}
use Rattle.snd_container.specs.declared.fixed.Fixed.{Fixed}
use Rattle.snd_container.specs.declared.fixed.Fixed.TheVariants.{Linear, MuLaw, ALaw}
use Rattle.snd_container.proofs.FixedSamples.{length-samples}

-- ---- how many they are, and their range

pub length-sources : (form : Fixed) (b : List ℕ) → length (sources form b) ≡ length b / byte_count form
length-sources (Linear form) b = length-samples (Linear form) b
length-sources MuLaw b = length-map b mulaw_source ∙ (let e : length b ≡ length b / 1 = omega arith in e)
length-sources ALaw b = length-samples ALaw b

sixteen : (x : ℤ) → FitsSigned w16 x → InRange MuLaw x
sixteen x fits = (omega (arith, ints, fits), omega (arith, ints, fits))

source_fits : (byte : ℕ) → FitsSigned w16 (mulaw_source byte)
source_fits byte = go (byte == 127)
  where
    go : (zero : Bool) → FitsSigned w16 (if zero then negsuc 0 else mulaw_value byte)
    go true = record { sfits = omega arith }
    go false = mulaw_value_fits byte

-- the numbers of samples are in the range of their codec
pub samples_fit : (form : Fixed) (bytes : List ℕ) → All IsByte bytes → All (InRange form) (samples form bytes)
samples_fit (Linear form) bytes all = samples_are_in_range form bytes all
samples_fit MuLaw bytes all = All-map (InRange MuLaw) mulaw_value bytes (λ k d lt. sixteen (mulaw_value (get_or bytes k d)) (mulaw_value_fits (get_or bytes k d)))
samples_fit ALaw bytes all = All-map (InRange ALaw) alaw_value bytes (λ k d lt. sixteen (alaw_value (get_or bytes k d)) (alaw_value_fits (get_or bytes k d)))

pub sources_fit : (form : Fixed) (bytes : List ℕ) → All IsByte bytes → All (InRange form) (sources form bytes)
sources_fit (Linear form) bytes all = samples_are_in_range form bytes all
sources_fit MuLaw bytes all = All-map (InRange MuLaw) mulaw_source bytes (λ k d lt. sixteen (mulaw_source (get_or bytes k d)) (source_fits (get_or bytes k d)))
sources_fit ALaw bytes all = samples_fit ALaw bytes all

-- ---- their bytes are those of which they were made

source_back : (byte : ℕ) → byte < 256 → mulaw_byte (mulaw_source byte) ≡ byte
unfolding mulaw_byte mulaw_value segment_and_step
source_back byte h = eqb→eq _ _ (every_below (λ k. nat_eq (mulaw_byte (mulaw_source k)) k) 256 tt byte h)

-- where each byte comes back
back : (f : ℕ → ℤ) (g : ℤ → ℕ) → ((n : ℕ) → n < 256 → g (f n) ≡ n) → (b : List ℕ) → All IsByte b → map g (map f b) ≡ b
back f g each b all =
    ext_get_or 0 (map g (map f b)) b (length-map (map f b) g ∙ length-map b f)
    (λ j lt.
    let in_map : j < length (map f b) = omega (arith, lt, length-map (map f b) g) in
    let in_bytes : j < length b = omega (arith, in_map, length-map b f) in
    get_or-map g (map f b) j (pos 0) 0 in_map ∙ ap g (get_or-map f b j 0 (pos 0) in_bytes) ∙ each (get_or b j 0) (All-get_or IsByte b j 0 in_bytes all))

pub sources_written : (form : Fixed) (b : List ℕ) (n : ℕ) → length b ≡ byte_count form * n → All IsByte b → samples_bytes form (sources form b) ≡ b
sources_written (Linear form) b n size all = samples_are_written_back form b n size all
sources_written MuLaw b n size all = back mulaw_source mulaw_byte source_back b all
sources_written ALaw b n size all = back alaw_value alaw_byte alaw_round_trip b all
