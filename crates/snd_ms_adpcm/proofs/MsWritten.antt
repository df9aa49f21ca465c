-- The choice of a predictor, and the codes that the writing rule gives.
use Rattle.std.proofs.Common.{◌≡◌, ℕ, ℤ, pos, negsuc, ◌+◌, ◌*◌, ◌/◌, max, List, [], ◌∷◌, ◌++◌, get_or, take, drop, Bool, true, false, cond, ltb, refl, sym, ap, ◌∙◌, add-one, append_assoc}
use Rattle.snd_ms_adpcm.specs.declared.microsoft_state.MsState.{MsState}
use Rattle.snd_ima_adpcm.specs.Frames.{bytes_high_half_first, bytes_16, firsts, seconds, alternating}
use Rattle.snd_ms_adpcm.specs.Microsoft.{least_number, ms_code, ms_codes, ms_sample, ms_delta, newer_weight, older_weight, ms_start_error, ms_number_for, ms_delta_for, ms_newer_of, ms_older_of, ms_codes_for, ms_bytes}

pub least_number-zero : (f : ℕ → ℕ) → least_number f 0 ≡ 0
unfolding least_number
least_number-zero f = refl

least_number-more : (f : ℕ → ℕ) (n : ℕ) → least_number f (n + 1) ≡ cond (ltb (f (n + 1)) (f (least_number f n))) (n + 1) (least_number f n)
unfolding least_number
least_number-more f n = rw add-one refl

at_cond : (f : ℕ → ℕ) (b : Bool) (m n : ℕ) → cond b (f m) (f n) ≡ f (cond b m n)
at_cond f true m n = refl
at_cond f false m n = refl

-- one more number: b is the best so far, with its value, and o the next one
pub choice_step : (f : ℕ → ℕ) (n b b_value o o_value r r_value : ℕ) → b ≡ least_number f n → b_value ≡ f (least_number f n) → o ≡ n + 1 → o_value ≡ f (n + 1) →
    r ≡ cond (ltb o_value b_value) o b → r_value ≡ cond (ltb o_value b_value) o_value b_value → (r ≡ least_number f (n + 1)) × (r_value ≡ f (least_number f (n + 1)))
choice_step f n b b_value o o_value r r_value eb ebv eo eov er erv =
    let number : cond (ltb o_value b_value) o b ≡ least_number f (n + 1) = rw (eb, ebv, eo, eov) (sym (least_number-more f n)) in
    let value : cond (ltb o_value b_value) o_value b_value ≡ f (least_number f (n + 1)) =
    rw (ebv, eov) (at_cond f (ltb (f (n + 1)) (f (least_number f n))) (n + 1) (least_number f n) ∙ ap f (sym (least_number-more f n))) in
    (er ∙ number, erv ∙ value)

-- t follows s, after a sample's code
pub record Follows (s : MsState) (sample : ℤ) (code : ℕ) (t : MsState) : Type 0 where
  pub coded : code ≡ ms_code s.newer_by s.older_by s.newer s.older s.delta sample
  pub newer : t.newer ≡ ms_sample s.newer_by s.older_by s.newer s.older s.delta (ms_code s.newer_by s.older_by s.newer s.older s.delta sample)
  pub older : t.older ≡ s.newer
  pub delta : t.delta ≡ ms_delta s.delta (ms_code s.newer_by s.older_by s.newer s.older s.delta sample)
  pub newer_by : t.newer_by ≡ s.newer_by
  pub older_by : t.older_by ≡ s.older_by

-- the codes that a state gives to the samples still to come
abbrev pub codes_of : MsState → List ℤ → List ℕ
codes_of s samples = ms_codes s.newer_by s.older_by s.newer s.older s.delta samples

pub codes_of-sample : (s t : MsState) (sample : ℤ) (code : ℕ) (samples : List ℤ) → Follows s sample code t → codes_of s (sample ∷ samples) ≡ code ∷ codes_of t samples
codes_of-sample s t sample code samples f = rw (f.coded, f.newer, f.older, f.delta, f.newer_by, f.older_by) refl

-- one more byte
pub one_byte : (bytes new whole : List ℕ) (one two : ℕ) (codes rest : List ℕ) → new ≡ bytes ++ (16 * one + two) ∷ [] → codes ≡ one ∷ two ∷ rest → bytes ++ bytes_high_half_first codes ≡ whole → new ++ bytes_high_half_first rest ≡ whole
one_byte bytes new whole one two codes rest p q h = rw p (simp append_assoc (rw q at h))

-- a block's start, by a channel's samples
pub record Starts (samples : List ℤ) (number : ℕ) (s : MsState) : Type 0 where
  pub number_is : number ≡ ms_number_for samples
  pub newer_by : s.newer_by ≡ newer_weight (ms_number_for samples)
  pub older_by : s.older_by ≡ older_weight (ms_number_for samples)
  pub newer : s.newer ≡ ms_newer_of samples
  pub older : s.older ≡ ms_older_of samples
  pub delta : s.delta ≡ pos (ms_delta_for samples)

-- the first five samples decide it
start_error-front : (samples : List ℤ) → ms_start_error (take 5 samples) ≡ ms_start_error samples
start_error-front [] = refl
start_error-front (a ∷ []) = refl
start_error-front (a ∷ b ∷ []) = refl
start_error-front (a ∷ b ∷ c ∷ []) = refl
start_error-front (a ∷ b ∷ c ∷ d ∷ []) = refl
start_error-front (a ∷ b ∷ c ∷ d ∷ e ∷ samples) = refl

number-front : (samples : List ℤ) → ms_number_for (take 5 samples) ≡ ms_number_for samples
unfolding ms_number_for
number-front samples = ap (λ f. least_number f 6) (start_error-front samples)

delta-front : (samples : List ℤ) → ms_delta_for (take 5 samples) ≡ ms_delta_for samples
unfolding ms_delta_for
delta-front samples = ap (λ f. max 16 (f (ms_number_for (take 5 samples)) / 12)) (start_error-front samples) ∙ ap (λ n. max 16 (ms_start_error samples n / 12)) (number-front samples)

newer-front : (samples : List ℤ) → ms_newer_of (take 5 samples) ≡ ms_newer_of samples
newer-front [] = refl
newer-front (a ∷ []) = refl
newer-front (a ∷ b ∷ samples) = refl

older-front : (samples : List ℤ) → ms_older_of (take 5 samples) ≡ ms_older_of samples
older-front [] = refl
older-front (a ∷ samples) = refl

pub starts_whole : (samples front : List ℤ) (number : ℕ) (s : MsState) → front ≡ take 5 samples → Starts front number s → Starts samples number s
starts_whole samples front number s e f =
    let same : ms_number_for front ≡ ms_number_for samples = ap ms_number_for e ∙ number-front samples in
    record {
      number_is = f.number_is ∙ same;
      newer_by = f.newer_by ∙ ap newer_weight same;
      older_by = f.older_by ∙ ap older_weight same;
      newer = f.newer ∙ ap ms_newer_of e ∙ newer-front samples;
      older = f.older ∙ ap ms_older_of e ∙ older-front samples;
      delta = f.delta ∙ ap (λ l. pos (ms_delta_for l)) e ∙ ap pos (delta-front samples);
    }

pub codes_for_is : (samples : List ℤ) (number : ℕ) (s : MsState) → Starts samples number s → codes_of s (drop 2 samples) ≡ ms_codes_for samples
codes_for_is samples number s f = rw (f.newer_by, f.older_by, f.newer, f.older, f.delta) refl

-- a block of one channel
pub mono_block : (samples rest : List ℤ) (number : ℕ) (s : MsState) (out : List ℕ) → Starts samples number s → rest ≡ drop 2 samples →
    out ≡ (number ∷ []) ++ bytes_16 s.delta ++ bytes_16 s.newer ++ bytes_16 s.older ++ bytes_high_half_first (codes_of s rest) → out ≡ ms_bytes 1 samples
mono_block samples rest number s out f rest_is out_is =
    let codes : codes_of s rest ≡ ms_codes_for samples = ap (codes_of s) rest_is ∙ codes_for_is samples number s f in
    rw (out_is, codes, f.number_is, f.delta, f.newer, f.older) refl

-- a block of two
firsts-rest : (samples : List ℤ) → firsts (drop 4 samples) ≡ drop 2 (firsts samples)
firsts-rest [] = refl
firsts-rest (a ∷ []) = refl
firsts-rest (a ∷ b ∷ []) = refl
firsts-rest (a ∷ b ∷ c ∷ []) = refl
firsts-rest (a ∷ b ∷ c ∷ d ∷ samples) = refl

seconds-rest : (samples : List ℤ) → seconds (drop 4 samples) ≡ drop 2 (seconds samples)
seconds-rest [] = refl
seconds-rest (a ∷ []) = refl
seconds-rest (a ∷ b ∷ []) = refl
seconds-rest (a ∷ b ∷ c ∷ []) = refl
seconds-rest (a ∷ b ∷ c ∷ d ∷ samples) = refl

pub stereo_block : (samples rest : List ℤ) (m n : ℕ) (l r : MsState) (out : List ℕ) → Starts (firsts samples) m l → Starts (seconds samples) n r → rest ≡ drop 4 samples →
    out ≡ (m ∷ n ∷ []) ++ (bytes_16 l.delta ++ bytes_16 r.delta) ++ (bytes_16 l.newer ++ bytes_16 r.newer) ++ (bytes_16 l.older ++ bytes_16 r.older)
    ++ bytes_high_half_first (alternating (codes_of l (firsts rest)) (codes_of r (seconds rest))) →
    out ≡ ms_bytes 2 samples
stereo_block samples rest m n l r out f g rest_is out_is =
    let left : codes_of l (firsts rest) ≡ ms_codes_for (firsts samples) = ap (λ xs. codes_of l (firsts xs)) rest_is ∙ ap (codes_of l) (firsts-rest samples) ∙ codes_for_is (firsts samples) m l f in
    let right : codes_of r (seconds rest) ≡ ms_codes_for (seconds samples) = ap (λ xs. codes_of r (seconds xs)) rest_is ∙ ap (codes_of r) (seconds-rest samples) ∙ codes_for_is (seconds samples) n r g in
    rw (out_is, left, right, f.number_is, f.delta, f.newer, f.older, g.number_is, g.delta, g.newer, g.older) refl

-- a number's two bytes, one by one
pub two_bytes : (x : ℤ) (bytes : List ℕ) → bytes ≡ bytes_16 x → bytes_16 x ≡ get_or bytes 0 0 ∷ get_or bytes 1 0 ∷ []
two_bytes (pos n) bytes is = rw is refl
two_bytes (negsuc n) bytes is = rw is refl
