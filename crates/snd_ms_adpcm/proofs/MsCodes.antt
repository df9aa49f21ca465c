-- The codes of a channel in a Microsoft block, one by one.
use Rattle.std.proofs.Common.{◌≡◌, ℕ, ℤ, ◌*◌, ◌+ℤ◌, ◌*ℤ◌, List, [], ◌∷◌, drop, refl}
use Rattle.std.specs.List.{All}
use Rattle.std.proofs.lemmas.List.Elements.{All-nil, All-cons}
use Rattle.snd_ima_adpcm.proofs.Public.{clamp_least, clamp_most}
use Rattle.snd_ms_adpcm.specs.declared.microsoft_state.MsState.{MsState}
use Rattle.snd_ima_adpcm.specs.Frames.{Is16Bit, high_half_first, of_channel}
use Rattle.snd_ms_adpcm.specs.States.{ms_samples_from}
use Rattle.snd_ms_adpcm.specs.Microsoft.{ms_prediction, signed_code, ms_samples, ms_sample, ms_delta, ms_channel, ms_newer, ms_older, ms_start_delta, ms_number, newer_weight, older_weight}

-- what a state makes of the codes still to come
abbrev pub rest_of : MsState → List ℕ → List ℤ
rest_of s codes = ms_samples s.newer_by s.older_by s.newer s.older s.delta codes

pub rest_of-code : (s t : MsState) (code : ℕ) (codes : List ℕ) →
    t.newer ≡ ms_sample s.newer_by s.older_by s.newer s.older s.delta code → t.older ≡ s.newer → t.delta ≡ ms_delta s.delta code → t.newer_by ≡ s.newer_by → t.older_by ≡ s.older_by →
    rest_of s (code ∷ codes) ≡ t.newer ∷ rest_of t codes
rest_of-code s t code codes newer older delta newer_by older_by = rw (newer, older, delta, newer_by, older_by) refl

-- a head's state and the codes give the channel's samples
pub of_head : (channels channel : ℕ) (block codes : List ℕ) (s : MsState) →
    s.newer ≡ ms_newer channels channel block → s.older ≡ ms_older channels channel block → s.delta ≡ ms_start_delta channels channel block →
    s.newer_by ≡ newer_weight (ms_number channel block) → s.older_by ≡ older_weight (ms_number channel block) →
    codes ≡ of_channel channels channel (high_half_first (drop (7 * channels) block)) →
    s.older ∷ s.newer ∷ rest_of s codes ≡ ms_channel channels channel block
of_head channels channel block codes s newer older delta newer_by older_by codes_are = rw (newer, older, delta, newer_by, older_by, codes_are) refl

-- samples have 16 bits
sample_range : (newer_by older_by newer older delta : ℤ) (code : ℕ) → Is16Bit (ms_sample newer_by older_by newer older delta code)
unfolding ms_sample
sample_range newer_by older_by newer older delta code =
    let z = ms_prediction newer_by older_by newer older +ℤ signed_code code *ℤ delta in
    record { least = clamp_least _ z refl; most = clamp_most _ z refl }

pub samples_range : (newer_by older_by newer older delta : ℤ) (codes : List ℕ) → All Is16Bit (ms_samples newer_by older_by newer older delta codes)
samples_range newer_by older_by newer older delta [] = All-nil Is16Bit
samples_range newer_by older_by newer older delta (code ∷ codes) =
    let x = ms_sample newer_by older_by newer older delta code in
    All-cons Is16Bit x (ms_samples newer_by older_by x newer (ms_delta delta code) codes) (sample_range newer_by older_by newer older delta code) (samples_range newer_by older_by x newer (ms_delta delta code) codes)

pub samples_from_range : (s : MsState) (codes : List ℕ) → All Is16Bit (ms_samples_from s codes)
samples_from_range s codes =
    All-cons Is16Bit s.older (s.newer ∷ rest_of s codes) s.older_range (All-cons Is16Bit s.newer (rest_of s codes) s.newer_range (samples_range s.newer_by s.older_by s.newer s.older s.delta codes))
