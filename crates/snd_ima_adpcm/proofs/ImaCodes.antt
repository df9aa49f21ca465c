-- The codes of a channel in an IMA block, byte by byte.
use Rattle.std.proofs.Common.{◌≡◌, ℕ, ℤ, ◌%◌, ◌+◌, ◌-◌, ◌/◌, ◌<◌, ◌≤◌, List, [], ◌∷◌, length, get_or, drop, refl, ap, subst, ◌∙◌, arith}
use Rattle.std.specs.List.{All}
use Rattle.std.proofs.lemmas.List.Elements.{All-nil, All-cons}
use Rattle.snd_ima_adpcm.proofs.Numbers.{clamp_least, clamp_most}
use Rattle.std.proofs.lemmas.List.{drop_more, drop_all}
use Rattle.std.proofs.lemmas.List.FromFn.{length-map-range_with_len, get_or-map-range_with_len}
use Rattle.snd_ima_adpcm.specs.Frames.{Is16Bit, low_half_first}
use Rattle.snd_ima_adpcm.specs.Step.{step_size, moved}
use Rattle.snd_ima_adpcm.specs.Ima.{ima_channel, ima_code_bytes, ima_first, ima_place, ima_samples, ima_predictor, ima_index, ima_start_index}

pub length-ima_code_bytes : (channels channel : ℕ) (block : List ℕ) → length (ima_code_bytes channels channel block) ≡ length block / channels - 4
unfolding ima_code_bytes
length-ima_code_bytes channels channel block = length-map-range_with_len (λ n. get_or block (ima_place channels channel n) 0) 0 (length block / channels - 4)

pub ima_code_bytes-more : (channels channel : ℕ) (block : List ℕ) (n : ℕ) → n < length block / channels - 4 →
    drop n (ima_code_bytes channels channel block) ≡ get_or block (ima_place channels channel n) 0 ∷ drop (n + 1) (ima_code_bytes channels channel block)
ima_code_bytes-more channels channel block n lt =
    let read : get_or (ima_code_bytes channels channel block) n 0 ≡ get_or block (ima_place channels channel n) 0 = unfold ima_code_bytes in get_or-map-range_with_len (λ n. get_or block (ima_place channels channel n) 0) 0 (length block / channels - 4) n n 0 lt (omega arith) in
    let within : n < length (ima_code_bytes channels channel block) = omega (arith, length-ima_code_bytes channels channel block) in
    drop_more (ima_code_bytes channels channel block) n 0 within ∙ ap (λ b. b ∷ drop (n + 1) (ima_code_bytes channels channel block)) read

-- the same where the place is written as the code writes it
pub ima_code_bytes-more_at : (channels channel : ℕ) (block : List ℕ) (n place : ℕ) → n < length block / channels - 4 → ima_place channels channel n ≡ place →
    drop n (ima_code_bytes channels channel block) ≡ get_or block place 0 ∷ drop (n + 1) (ima_code_bytes channels channel block)
ima_code_bytes-more_at channels channel block n place lt is =
    ima_code_bytes-more channels channel block n lt ∙ ap (λ p. get_or block p 0 ∷ drop (n + 1) (ima_code_bytes channels channel block)) is

pub ima_code_bytes-end : (channels channel : ℕ) (block : List ℕ) (n : ℕ) → length block / channels - 4 ≤ n → drop n (ima_code_bytes channels channel block) ≡ []
ima_code_bytes-end channels channel block n le = drop_all n (ima_code_bytes channels channel block) (omega (arith, length-ima_code_bytes channels channel block))

-- the two codes of a byte
pub ima_samples-byte : (p p1 p2 : ℤ) (i i1 i2 b : ℕ) (bs : List ℕ) →
    p1 ≡ ima_predictor p i (b % 16) → i1 ≡ ima_index i (b % 16) → p2 ≡ ima_predictor p1 i1 (b / 16) → i2 ≡ ima_index i1 (b / 16) →
    ima_samples p i (low_half_first (b ∷ bs)) ≡ p1 ∷ p2 ∷ ima_samples p2 i2 (low_half_first bs)
ima_samples-byte p p1 p2 i i1 i2 b bs e1 f1 e2 f2 = cc

-- samples have 16 bits
predictor_range : (p : ℤ) (i code : ℕ) → Is16Bit (ima_predictor p i code)
unfolding ima_predictor
predictor_range p i code = record { least = clamp_least _ (moved p (step_size i) code) refl; most = clamp_most _ (moved p (step_size i) code) refl }

pub samples_range : (p : ℤ) (i : ℕ) (codes : List ℕ) → All Is16Bit (ima_samples p i codes)
samples_range p i [] = All-nil Is16Bit
samples_range p i (code ∷ codes) = All-cons Is16Bit (ima_predictor p i code) (ima_samples (ima_predictor p i code) (ima_index i code) codes) (predictor_range p i code) (samples_range (ima_predictor p i code) (ima_index i code) codes)

-- so have those of a channel, where its head has
pub channel_range : (channels channel : ℕ) (block : List ℕ) (first : ℤ) → Is16Bit first → first ≡ ima_first channel block → All Is16Bit (ima_channel channels channel block)
channel_range channels channel block first good is =
    let head : Is16Bit (ima_first channel block) = subst (λ x. Is16Bit x) is good in
    All-cons Is16Bit (ima_first channel block) _ head (samples_range (ima_first channel block) (ima_start_index channel block) (low_half_first (ima_code_bytes channels channel block)))
