-- Samples that have a fixed number of bytes each: counted, joined and cut, and what is kept of numbers.
use Rattle.std.proofs.Common.{◌≡◌, ◌∙◌, ap, sym, refl, ◌⊎◌, ⊎_elim, inl, inr, ℕ, ◌+◌, ◌*◌, ◌/◌, ◌<◌, ◌≤◌, ◌^◌, ℤ, pos, List, ◌++◌, All, length, map, take, drop, get_or, arith}
use Rattle.std.specs.Prelude.{if◌then◌else◌}
use Rattle.std.specs.Int.{is_negative}
use Rattle.std.proofs.lemmas.Bool.{cases_Bool}
use Rattle.std.proofs.lemmas.List.{drop-map, ext_get_or, get_or-map, length-map, map-append, map-id, take-map}
use Rattle.std.proofs.lemmas.List.Elements.{All-map}
use Rattle.std.proofs.lemmas.Nat.{xor_of_8}
use Rattle.std.proofs.lemmas.Simd.{map-map}
use Rattle.snd_fields.specs.Laws.{IsByte}
use Rattle.snd_g711.proofs.AlawLemmas.{code-lt, round_trip as alaw_round_trip}
use Rattle.snd_g711.proofs.MulawLemmas.{keeps_decoded}
use Rattle.snd_g711.specs.Alaw.{alaw_byte, alaw_code, alaw_distance, alaw_value}
use Rattle.snd_g711.specs.Mulaw.{mulaw_byte, mulaw_value}
use Rattle.snd_pcm.proofs.RoundTrips.{bytes_of_joined as linear_bytes_of_joined, count_of_bytes as linear_count_of_bytes, samples_are_written_back, samples_of_joined as linear_samples_of_joined, samples_of_parts as linear_samples_of_parts, samples_read_back}
use Rattle.snd_pcm.proofs.Series.{byte_count_pos as linear_byte_count_pos, length-samples as linear_length-samples}
use Rattle.snd_pcm.specs.Pcm.{samples as linear_samples, samples_bytes as linear_bytes}
use Rattle.snd_container.specs.Fixed.{KeptNumbersStay, NumbersAreKept, byte_count, samples, samples_bytes}
use Rattle.snd_container.specs.declared.fixed.Fixed.{Fixed}
use Rattle.snd_container.specs.declared.fixed.Fixed.TheVariants.{Linear, MuLaw, ALaw}

pub byte_count_pos : (form : Fixed) → 0 < byte_count form
byte_count_pos (Linear form) = linear_byte_count_pos form
byte_count_pos MuLaw = omega arith
byte_count_pos ALaw = omega arith

-- ---- one byte for each sample

module _ (f : ℕ → ℤ) where
  count_of_one : (b : List ℕ) → length (map f b) ≡ length b / 1
  count_of_one b = length-map b f ∙ (let e : length b ≡ length b / 1 = omega arith in e)

  parts_of_one : (b : List ℕ) (n : ℕ) → (map f (take (1 * n) b) ≡ take n (map f b)) × (map f (drop (1 * n) b) ≡ drop n (map f b))
  parts_of_one b n =
      let once : 1 * n ≡ n = omega arith in
      (ap (λ (m : ℕ). map f (take m b)) once ∙ sym (take-map f n b), ap (λ (m : ℕ). map f (drop m b)) once ∙ sym (drop-map f n b))

  -- bytes of which each is that of one list or of another, where both have the same numbers
  mixed_of_one : (p q r : List ℕ) → length p ≡ length r → length q ≡ length r → map f p ≡ map f q
      → ((j : ℕ) → j < length r → (get_or r j 0 ≡ get_or p j 0) ⊎ (get_or r j 0 ≡ get_or q j 0)) → map f r ≡ map f p
  mixed_of_one p q r one two same each =
      let value = λ (l : List ℕ) (j : ℕ) (lt : j < length l). get_or-map f l j 0 (pos 0) lt in
      ext_get_or (pos 0) (map f r) (map f p) (length-map r f ∙ sym one ∙ sym (length-map p f))
      (λ j lt.
      let below : j < length r = omega (arith, lt, length-map r f) in
      let of_p : get_or (map f p) j (pos 0) ≡ f (get_or p j 0) = value p j (omega (arith, below, one)) in
      let of_q : get_or (map f q) j (pos 0) ≡ f (get_or q j 0) = value q j (omega (arith, below, two)) in
      value r j below
      ∙ ⊎_elim
      (λ (first : get_or r j 0 ≡ get_or p j 0). ap f first ∙ sym of_p)
      (λ (second : get_or r j 0 ≡ get_or q j 0). ap f second ∙ sym of_q ∙ sym (ap (λ (l : List ℤ). get_or l j (pos 0)) same))
      (each j below))

module _ (g : ℤ → ℕ) where
  bytes_of_one : (xs : List ℤ) → ((x : ℤ) → IsByte (g x)) → (length (map g xs) ≡ 1 * length xs) × All IsByte (map g xs)
  bytes_of_one xs are = (length-map xs g ∙ (let e : length xs ≡ 1 * length xs = omega arith in e), All-map IsByte g xs (λ k d lt. are (get_or xs k d)))

pub mulaw_is_byte : (x : ℤ) → IsByte (mulaw_byte x)
unfolding mulaw_byte
mulaw_is_byte x = omega arith

alaw_signed : (x : ℤ) → (if is_negative x then 0 else 128) + alaw_code (alaw_distance x) < 2 ^ 8
alaw_signed x = elim (cases_Bool (is_negative x)) [
  | inl below ↦ rw below (omega (arith, code-lt (alaw_distance x)))
  | inr other ↦ rw other (omega (arith, code-lt (alaw_distance x)))
]

pub alaw_is_byte : (x : ℤ) → IsByte (alaw_byte x)
unfolding alaw_byte
alaw_is_byte x = xor_of_8 _ 85 (alaw_signed x) (omega arith)

-- ---- samples of bytes

pub length-samples : (form : Fixed) (b : List ℕ) → length (samples form b) ≡ length b / byte_count form
length-samples (Linear form) b = linear_length-samples form b
length-samples MuLaw b = count_of_one mulaw_value b
length-samples ALaw b = count_of_one alaw_value b

pub samples_of_joined : (form : Fixed) (a b : List ℕ) (n : ℕ) → length a ≡ byte_count form * n → samples form (a ++ b) ≡ samples form a ++ samples form b
samples_of_joined (Linear form) a b n size = linear_samples_of_joined form a b n size
samples_of_joined MuLaw a b n size = map-append mulaw_value a b
samples_of_joined ALaw a b n size = map-append alaw_value a b

pub samples_of_parts : (form : Fixed) (b : List ℕ) (n : ℕ) → byte_count form * n ≤ length b
    → (samples form (take (byte_count form * n) b) ≡ take n (samples form b)) × (samples form (drop (byte_count form * n) b) ≡ drop n (samples form b))
samples_of_parts (Linear form) b n within = linear_samples_of_parts form b n within
samples_of_parts MuLaw b n within = parts_of_one mulaw_value b n
samples_of_parts ALaw b n within = parts_of_one alaw_value b n

-- bytes of which each is that of one list or of another, where both have the same samples
pub samples_of_mixed : (form : Fixed) (p q r : List ℕ) (n : ℕ) → length p ≡ byte_count form * n → length q ≡ byte_count form * n → length r ≡ byte_count form * n
    → All IsByte p → All IsByte q → samples form p ≡ samples form q → ((j : ℕ) → j < length r → (get_or r j 0 ≡ get_or p j 0) ⊎ (get_or r j 0 ≡ get_or q j 0))
    → samples form r ≡ samples form p
samples_of_mixed (Linear form) p q r n one two three are_p are_q same each =
    let bytes : p ≡ q = sym (samples_are_written_back form p n one are_p) ∙ ap (linear_bytes form) same ∙ samples_are_written_back form q n two are_q in
    ap (linear_samples form) (ext_get_or 0 r p (three ∙ sym one) (λ j lt. ⊎_elim
    (λ (first : get_or r j 0 ≡ get_or p j 0). first)
    (λ (second : get_or r j 0 ≡ get_or q j 0). second ∙ sym (ap (λ (l : List ℕ). get_or l j 0) bytes)) (each j lt)))
samples_of_mixed MuLaw p q r n one two three are_p are_q same each = mixed_of_one mulaw_value p q r (one ∙ sym three) (two ∙ sym three) same each
samples_of_mixed ALaw p q r n one two three are_p are_q same each = mixed_of_one alaw_value p q r (one ∙ sym three) (two ∙ sym three) same each

-- ---- bytes of samples

pub count_of_bytes : (form : Fixed) (xs : List ℤ) → (length (samples_bytes form xs) ≡ byte_count form * length xs) × All IsByte (samples_bytes form xs)
count_of_bytes (Linear form) xs = linear_count_of_bytes form xs
count_of_bytes MuLaw xs = bytes_of_one mulaw_byte xs mulaw_is_byte
count_of_bytes ALaw xs = bytes_of_one alaw_byte xs alaw_is_byte

pub bytes_of_joined : (form : Fixed) (xs ys : List ℤ) → samples_bytes form (xs ++ ys) ≡ samples_bytes form xs ++ samples_bytes form ys
bytes_of_joined (Linear form) xs ys = linear_bytes_of_joined form xs ys
bytes_of_joined MuLaw xs ys = map-append mulaw_byte xs ys
bytes_of_joined ALaw xs ys = map-append alaw_byte xs ys

-- ---- kept numbers

pub numbers_are_kept : NumbersAreKept
numbers_are_kept (Linear form) xs fit = samples_read_back form xs fit ∙ sym (map-id xs)
numbers_are_kept MuLaw xs fit = map-map mulaw_value mulaw_byte xs
numbers_are_kept ALaw xs fit = map-map alaw_value alaw_byte xs

pub kept_numbers_stay : KeptNumbersStay
kept_numbers_stay (Linear form) x = refl
kept_numbers_stay MuLaw x = keeps_decoded (mulaw_byte x) (mulaw_is_byte x)
kept_numbers_stay ALaw x = ap alaw_value (alaw_round_trip (alaw_byte x) (alaw_is_byte x))
