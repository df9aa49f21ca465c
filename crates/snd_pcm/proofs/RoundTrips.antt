-- Samples written and read again, and read and written again.
use Rattle.std.proofs.Common.{◌≡◌, ℕ, zero, suc, ◌+◌, ◌*◌, ◌/◌, ◌<◌, ◌^◌, ℤ, pos, negsuc, List, [], ◌∷◌, ◌++◌, All, length, get_or, take, drop, map, refl, sym, ◌∙◌, ap, arith, append_assoc, subst, inl, inr}
use Rattle.std.proofs.Math.Nat.{mul-add-div, mul-div_cancel_left}
use Rattle.std.proofs.lemmas.Int.{ints}
use Rattle.std.proofs.lemmas.List.{drop_at, get_or-drop, get_or-take, get_or_past, length-append, length-drop, length-take, length-take-le, nil_from_length, take-append-drop, take_all, take_at}
use Rattle.std.proofs.lemmas.Bool.{cases_lt}
use Rattle.snd_fields.proofs.Numbers.{AllBytes, bytes_from_all, all_from_bytes, bytes_of-lt, bytes_of_number, length-bytes_of, number_fits, number_of_bytes}
use Rattle.snd_fields.specs.Field.{bytes_of, number}
use Rattle.snd_fields.specs.Laws.{IsByte}
use Rattle.snd_pcm.specs.declared.linear.Linear.{Linear}
use Rattle.snd_pcm.specs.declared.linear.Linear.TheVariants.{U8, S8, S16, S24, S32}
use Rattle.snd_pcm.specs.Groups.{first_groups, groups}
use Rattle.snd_pcm.specs.Laws.{BytesOfJoined, CountOfBytes, CountOfSamples, SampleAtPlace, SampleIsWrittenBack, SampleReadsBack, SamplesAreInRange, SamplesAreWrittenBack, SamplesOfJoined, SamplesOfParts, SamplesReadBack}
use Rattle.snd_pcm.specs.Pcm.{InRange, byte_count, code, order_of, sample, sample_bytes, samples, samples_bytes, value}
use Rattle.snd_pcm.proofs.Series.{at_place, byte_count_pos, get_or-samples, length-samples}

-- ---- codes

code-lt : (form : Linear) (x : ℤ) → InRange form x → code form x < 256 ^ byte_count form
code-lt U8 x h = omega (arith, ints)
code-lt S8 (pos n) h = omega (arith, ints)
code-lt S8 (negsuc n) h = omega (arith, ints)
code-lt (S16 order) (pos n) h = omega (arith, ints)
code-lt (S16 order) (negsuc n) h = omega (arith, ints)
code-lt (S24 order) (pos n) h = omega (arith, ints)
code-lt (S24 order) (negsuc n) h = omega (arith, ints)
code-lt (S32 order) (pos n) h = omega (arith, ints)
code-lt (S32 order) (negsuc n) h = omega (arith, ints)

value-code : (form : Linear) (x : ℤ) → InRange form x → value form (code form x) ≡ x
value-code U8 x h = grind (arith, ints)
value-code S8 (pos n) h = grind (arith, ints)
value-code S8 (negsuc n) h = grind (arith, ints)
value-code (S16 order) (pos n) h = grind (arith, ints)
value-code (S16 order) (negsuc n) h = grind (arith, ints)
value-code (S24 order) (pos n) h = grind (arith, ints)
value-code (S24 order) (negsuc n) h = grind (arith, ints)
value-code (S32 order) (pos n) h = grind (arith, ints)
value-code (S32 order) (negsuc n) h = grind (arith, ints)

code-value : (form : Linear) (n : ℕ) → n < 256 ^ byte_count form → code form (value form n) ≡ n
code-value U8 n lt = grind (arith, ints)
code-value S8 n lt = grind (arith, ints)
code-value (S16 order) n lt = grind (arith, ints)
code-value (S24 order) n lt = grind (arith, ints)
code-value (S32 order) n lt = grind (arith, ints)

value_in_range : (form : Linear) (n : ℕ) → n < 256 ^ byte_count form → InRange form (value form n)
value_in_range U8 n lt = (grind (arith, ints), grind (arith, ints))
value_in_range S8 n lt = (grind (arith, ints), grind (arith, ints))
value_in_range (S16 order) n lt = (grind (arith, ints), grind (arith, ints))
value_in_range (S24 order) n lt = (grind (arith, ints), grind (arith, ints))
value_in_range (S32 order) n lt = (grind (arith, ints), grind (arith, ints))

-- ---- one sample

pub sample_reads_back : SampleReadsBack
sample_reads_back form x h =
    ap (value form) (number_of_bytes (order_of form) (byte_count form) (code form x) (code-lt form x h)) ∙ value-code form x h

sample-lt : (form : Linear) (bytes : List ℕ) → All IsByte bytes → number (order_of form) bytes 0 (byte_count form) < 256 ^ byte_count form
sample-lt form bytes all = number_fits (order_of form) bytes 0 (byte_count form) all

pub sample_is_written_back : SampleIsWrittenBack
sample_is_written_back form bytes len all =
    let k = byte_count form in
    let lt = sample-lt form bytes all in (
      ap (bytes_of (order_of form) k) (code-value form _ lt) ∙ bytes_of_number (order_of form) bytes 0 k (omega (arith, len)) all ∙ take_all k bytes (omega (arith, len)),
      value_in_range form _ lt,
    )

-- ---- one sample before others

groups-cons : {X : Type 0} (k : ℕ) (piece rest : List X) → 0 < k → length piece ≡ k → groups k (piece ++ rest) ≡ piece ∷ groups k rest
groups-cons k piece rest some len =
    let more : (k * 1 + length rest) / k ≡ 1 + length rest / k = mul-add-div some 1 (length rest) in
    let count : length (piece ++ rest) / k ≡ suc (length rest / k) =
    ap (λ n. n / k) (let e : length (piece ++ rest) ≡ k * 1 + length rest = omega (arith, length-append piece rest) in e) ∙ more ∙ (let e : 1 + length rest / k ≡ suc (length rest / k) = omega arith in e) in
    ap (λ n. first_groups k n (piece ++ rest)) count ∙ ap (λ l. l ∷ first_groups k (length rest / k) (drop k (piece ++ rest))) (take_at piece rest k len)
    ∙ ap (λ l. piece ∷ first_groups k (length rest / k) l) (drop_at piece rest k len)

samples-cons : (form : Linear) (piece rest : List ℕ) → length piece ≡ byte_count form → samples form (piece ++ rest) ≡ sample form piece ∷ samples form rest
unfolding samples
samples-cons form piece rest len = ap (map (sample form)) (groups-cons (byte_count form) piece rest (byte_count_pos form) len)

pub length-sample_bytes : (form : Linear) (x : ℤ) → length (sample_bytes form x) ≡ byte_count form
length-sample_bytes form x = length-bytes_of (order_of form) (byte_count form) (code form x)

all_tail : {A : Type 0} (P : A → Type 0) (x : A) (xs : List A) → All P (x ∷ xs) → All P xs
all_tail P x xs all k d lt = all (suc k) d (omega arith)

samples-nil : (form : Linear) → samples form [] ≡ []
unfolding samples
samples-nil U8 = refl
samples-nil S8 = refl
samples-nil (S16 order) = refl
samples-nil (S24 order) = refl
samples-nil (S32 order) = refl

samples_bytes-nil : (form : Linear) → samples_bytes form [] ≡ []
unfolding samples_bytes
samples_bytes-nil form = refl

samples_bytes-cons : (form : Linear) (x : ℤ) (xs : List ℤ) → samples_bytes form (x ∷ xs) ≡ sample_bytes form x ++ samples_bytes form xs
unfolding samples_bytes
samples_bytes-cons form x xs = refl

-- ---- samples one after the other

pub samples_read_back : SamplesReadBack
samples_read_back form [] all = ap (samples form) (samples_bytes-nil form) ∙ samples-nil form
samples_read_back form (x ∷ xs) all =
    ap (samples form) (samples_bytes-cons form x xs)
    ∙ samples-cons form (sample_bytes form x) (samples_bytes form xs) (length-sample_bytes form x)
    ∙ ap (λ y. y ∷ samples form (samples_bytes form xs)) (sample_reads_back form x (all 0 x (omega arith)))
    ∙ ap (λ l. x ∷ l) (samples_read_back form xs (all_tail (InRange form) x xs all))

-- the first sample, and the others
first_sample : (form : Linear) (bytes : List ℕ) (n : ℕ) → length bytes ≡ byte_count form * suc n
    → samples form bytes ≡ sample form (take (byte_count form) bytes) ∷ samples form (drop (byte_count form) bytes)
first_sample form bytes n len =
    let k = byte_count form in
    ap (samples form) (sym (take-append-drop k bytes))
    ∙ samples-cons form (take k bytes) (drop k bytes) (length-take-le k bytes (omega (arith, len)))

pub samples_of_joined : SamplesOfJoined
samples_of_joined form a b zero len =
    let none : a ≡ [] = nil_from_length a (omega (arith, len)) in
    ap (λ l. samples form (l ++ b)) none ∙ ap (λ l. l ++ samples form b) (sym (samples-nil form))
    ∙ ap (λ l. samples form l ++ samples form b) (sym none)
samples_of_joined form a b (suc n) len =
    let k = byte_count form in
    let piece = take k a in
    let tail = drop k a in
    let rest : length tail ≡ k * n = omega (arith, len, length-drop k a) in
    ap (λ l. samples form (l ++ b)) (sym (take-append-drop k a))
    ∙ ap (samples form) (append_assoc piece tail b)
    ∙ samples-cons form piece (tail ++ b) (length-take-le k a (omega (arith, len)))
    ∙ ap (λ l. sample form piece ∷ l) (samples_of_joined form tail b n rest)
    ∙ ap (λ l. l ++ samples form b) (sym (first_sample form a n len))

pub samples_are_written_back : SamplesAreWrittenBack
samples_are_written_back form bytes zero len all =
    let none : bytes ≡ [] = nil_from_length bytes (omega (arith, len)) in
    ap (λ l. samples_bytes form (samples form l)) none ∙ ap (samples_bytes form) (samples-nil form) ∙ samples_bytes-nil form ∙ sym none
samples_are_written_back form bytes (suc n) len all =
    let k = byte_count form in
    let piece = take k bytes in
    let tail = drop k bytes in
    let size : length piece ≡ k = length-take-le k bytes (omega (arith, len)) in
    let rest : length tail ≡ k * n = omega (arith, len, length-drop k bytes) in
    let whole = bytes_from_all bytes all in
    let front : All IsByte piece = all_from_bytes piece (λ i. part_lt bytes 0 k i whole) in
    let back : All IsByte tail = all_from_bytes tail (λ i. omega (arith, get_or-drop k bytes i 0, whole (k + i))) in
    ap (samples_bytes form) (first_sample form bytes n len)
    ∙ samples_bytes-cons form (sample form piece) (samples form tail)
    ∙ ap (λ l. l ++ samples_bytes form (samples form tail)) ((sample_is_written_back form piece size front).0)
    ∙ ap (λ l. piece ++ l) (samples_are_written_back form tail n rest back)
    ∙ take-append-drop k bytes
  where
    part_lt : (bytes : List ℕ) (at k i : ℕ) → AllBytes bytes → get_or (take k bytes) i 0 < 256
    part_lt bytes at k i whole = elim (cases_lt i k) [
      | inl lt ↦ omega (arith, get_or-take k bytes i 0 lt, whole i)
      | inr le ↦ omega (arith, get_or_past (take k bytes) i 0 (omega (arith, length-take k bytes)))
    ]

pub samples_are_in_range : SamplesAreInRange
samples_are_in_range form bytes all i d lt =
    let k = byte_count form in
    let within : i < length bytes / k = omega (arith, length-samples form bytes) in
    subst (InRange form) (sym (get_or-samples form bytes i d within)) (value_in_range form _ (number_fits (order_of form) bytes (k * i) k all))

pub count_of_samples : CountOfSamples
count_of_samples form bytes = length-samples form bytes

pub sample_at_place : SampleAtPlace
sample_at_place form bytes i d lt = get_or-samples form bytes i d lt ∙ sym (at_place form bytes (byte_count form * i))

pub bytes_of_joined : BytesOfJoined
bytes_of_joined form [] ys = ap (λ l. l ++ samples_bytes form ys) (sym (samples_bytes-nil form))
bytes_of_joined form (x ∷ xs) ys =
    samples_bytes-cons form x (xs ++ ys)
    ∙ ap (λ l. sample_bytes form x ++ l) (bytes_of_joined form xs ys)
    ∙ sym (append_assoc (sample_bytes form x) (samples_bytes form xs) (samples_bytes form ys))
    ∙ ap (λ l. l ++ samples_bytes form ys) (sym (samples_bytes-cons form x xs))

sample_bytes-all : (form : Linear) (x : ℤ) → AllBytes (sample_bytes form x)
sample_bytes-all form x = bytes_of-lt (order_of form) (byte_count form) (code form x)

joined_bytes : (a b : List ℕ) → AllBytes a → AllBytes b → AllBytes (a ++ b)
joined_bytes [] b in_a in_b i = in_b i
joined_bytes (x ∷ a) b in_a in_b zero = in_a 0
joined_bytes (x ∷ a) b in_a in_b (suc i) = joined_bytes a b (λ j. in_a (suc j)) in_b i

samples_bytes-all : (form : Linear) (xs : List ℤ) → AllBytes (samples_bytes form xs)
samples_bytes-all form [] i = subst AllBytes (sym (samples_bytes-nil form)) (λ j. let low : 0 < 256 = omega arith in low) i
samples_bytes-all form (x ∷ xs) i =
    subst AllBytes (sym (samples_bytes-cons form x xs)) (joined_bytes _ _ (sample_bytes-all form x) (samples_bytes-all form xs)) i

pub length-samples_bytes : (form : Linear) (xs : List ℤ) → length (samples_bytes form xs) ≡ byte_count form * length xs
length-samples_bytes form [] = ap length (samples_bytes-nil form) ∙ (let e : 0 ≡ byte_count form * 0 = omega arith in e)
length-samples_bytes form (x ∷ xs) =
    ap length (samples_bytes-cons form x xs)
    ∙ (omega (arith, length-append (sample_bytes form x) (samples_bytes form xs), length-sample_bytes form x, length-samples_bytes form xs))

pub count_of_bytes : CountOfBytes
count_of_bytes form xs = (length-samples_bytes form xs, all_from_bytes _ (samples_bytes-all form xs))

pub samples_of_parts : SamplesOfParts
samples_of_parts form bytes n within =
    let k = byte_count form in
    let front = take (k * n) bytes in
    let back = drop (k * n) bytes in
    let size : length front ≡ k * n = length-take-le (k * n) bytes within in
    let count : length (samples form front) ≡ n = length-samples form front ∙ ap (λ m. m / k) size ∙ mul-div_cancel_left n (byte_count_pos form) in
    let whole : samples form bytes ≡ samples form front ++ samples form back =
    ap (samples form) (sym (take-append-drop (k * n) bytes)) ∙ samples_of_joined form front back n size in (
      sym (ap (take n) whole ∙ take_at (samples form front) (samples form back) n count),
      sym (ap (drop n) whole ∙ drop_at (samples form front) (samples form back) n count),
    )
