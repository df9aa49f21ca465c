-- The codes that the writing rule gives, two samples at a time.
use Rattle.std.proofs.Common.{◌≡◌, ℕ, ℤ, suc, ◌+◌, ◌*◌, ◌/◌, ◌%◌, List, [], ◌∷◌, ◌++◌, length, get_or, set, take, ◌<◌, refl, sym, ap, subst, ◌∙◌, append_assoc, arith}
use Rattle.std.proofs.lemmas.List.{take_more_set}
use Rattle.snd_ima_adpcm.specs.declared.ima.ImaState.{ImaState}
use Rattle.snd_ima_adpcm.specs.Frames.{bytes_low_half_first, firsts, seconds, fours}
use Rattle.snd_ima_adpcm.specs.Ima.{ima_code, ima_predictor, ima_index, ima_codes, ima_predictor_after, ima_index_after}
use Rattle.snd_ima_adpcm.proofs.Pairs.{firsts-append, seconds-append, length-firsts, length-seconds}

-- t follows s, after a sample's code
pub record Follows (s : ImaState) (sample : ℤ) (code : ℕ) (t : ImaState) : Type 0 where
  pub coded : code ≡ ima_code s.predictor s.index sample
  pub predictor : t.predictor ≡ ima_predictor s.predictor s.index (ima_code s.predictor s.index sample)
  pub index : t.index ≡ ima_index s.index (ima_code s.predictor s.index sample)

pub ima_codes-sample : (s t : ImaState) (sample : ℤ) (code : ℕ) (samples : List ℤ) → Follows s sample code t → ima_codes s.predictor s.index (sample ∷ samples) ≡ code ∷ ima_codes t.predictor t.index samples
ima_codes-sample s t sample code samples f = rw (f.coded, f.predictor, f.index) refl

pub predictor_after-sample : (s t : ImaState) (sample : ℤ) (code : ℕ) (samples : List ℤ) → Follows s sample code t → ima_predictor_after s.predictor s.index (sample ∷ samples) ≡ ima_predictor_after t.predictor t.index samples
predictor_after-sample s t sample code samples f = rw (f.predictor, f.index) refl

pub index_after-sample : (s t : ImaState) (sample : ℤ) (code : ℕ) (samples : List ℤ) → Follows s sample code t → ima_index_after s.predictor s.index (sample ∷ samples) ≡ ima_index_after t.predictor t.index samples
index_after-sample s t sample code samples f = rw (f.predictor, f.index) refl

-- one more byte
pub one_byte : (bytes new whole : List ℕ) (one two : ℕ) (codes rest : List ℕ) → new ≡ bytes ++ (one + 16 * two) ∷ [] → codes ≡ one ∷ two ∷ rest → bytes ++ bytes_low_half_first codes ≡ whole → new ++ bytes_low_half_first rest ≡ whole
one_byte bytes new whole one two codes rest p q h = rw p (simp append_assoc (rw q at h))

-- .. put at its place
pub byte_put : (bytes new whole : List ℕ) (n byte one two : ℕ) (codes rest : List ℕ) → n < length bytes → byte ≡ one + 16 * two → new ≡ set bytes n byte → codes ≡ one ∷ two ∷ rest
    → take n bytes ++ bytes_low_half_first codes ≡ whole → take (n + 1) new ++ bytes_low_half_first rest ≡ whole
byte_put bytes new whole n byte one two codes rest within is put split so_far =
    one_byte (take n bytes) (take (n + 1) new) whole one two codes rest
    (ap (take (n + 1)) put ∙ take_more_set bytes n byte within ∙ ap (λ (b : ℕ). take n bytes ++ b ∷ []) is) split so_far

-- the codes of a list in two parts
pub ima_codes-append : (p : ℤ) (i : ℕ) (xs ys : List ℤ) → ima_codes p i (xs ++ ys) ≡ ima_codes p i xs ++ ima_codes (ima_predictor_after p i xs) (ima_index_after p i xs) ys
ima_codes-append p i [] ys = refl
ima_codes-append p i (x ∷ xs) ys = ap (λ cs. ima_code p i x ∷ cs) (ima_codes-append (ima_predictor p i (ima_code p i x)) (ima_index i (ima_code p i x)) xs ys)

pub index_after-append : (p : ℤ) (i : ℕ) (xs ys : List ℤ) → ima_index_after p i (xs ++ ys) ≡ ima_index_after (ima_predictor_after p i xs) (ima_index_after p i xs) ys
index_after-append p i [] ys = refl
index_after-append p i (x ∷ xs) ys = index_after-append (ima_predictor p i (ima_code p i x)) (ima_index i (ima_code p i x)) xs ys

pub length-ima_codes : (p : ℤ) (i : ℕ) (xs : List ℤ) → length (ima_codes p i xs) ≡ length xs
length-ima_codes p i [] = refl
length-ima_codes p i (x ∷ xs) = ap suc (length-ima_codes (ima_predictor p i (ima_code p i x)) (ima_index i (ima_code p i x)) xs)

-- the bytes of a list of codes in two parts
pub bytes_low-append : (xs ys : List ℕ) → length xs % 2 ≡ 0 → bytes_low_half_first (xs ++ ys) ≡ bytes_low_half_first xs ++ bytes_low_half_first ys
bytes_low-append [] ys even = refl
bytes_low-append (x ∷ []) ys even = absurd (omega arith)
bytes_low-append (x ∷ y ∷ xs) ys even = ap (λ bytes. (x + 16 * y) ∷ bytes) (bytes_low-append xs ys (omega arith))

pub length-bytes_low : (xs : List ℕ) → length (bytes_low_half_first xs) ≡ length xs / 2
length-bytes_low [] = refl
length-bytes_low (x ∷ []) = refl
length-bytes_low (x ∷ y ∷ xs) = omega (arith, length-bytes_low xs)

-- 4 bytes of each list told apart
four_of : (xs : List ℕ) → length xs ≡ 4 → xs ≡ get_or xs 0 0 ∷ get_or xs 1 0 ∷ get_or xs 2 0 ∷ get_or xs 3 0 ∷ []
four_of [] e = absurd (omega arith)
four_of (a ∷ []) e = absurd (omega arith)
four_of (a ∷ b ∷ []) e = absurd (omega arith)
four_of (a ∷ b ∷ c ∷ []) e = absurd (omega arith)
four_of (a ∷ b ∷ c ∷ d ∷ []) e = refl
four_of (a ∷ b ∷ c ∷ d ∷ x ∷ xs) e = absurd (omega arith)

pub fours-append : (ls rs xs ys : List ℕ) → length ls ≡ 4 → length rs ≡ 4 → fours (ls ++ xs) (rs ++ ys) ≡ ls ++ (rs ++ fours xs ys)
fours-append ls rs xs ys p q =
    subst (λ l. fours (l ++ xs) (rs ++ ys) ≡ l ++ (rs ++ fours xs ys)) (sym (four_of ls p))
    (subst (λ r. fours ((get_or ls 0 0 ∷ get_or ls 1 0 ∷ get_or ls 2 0 ∷ get_or ls 3 0 ∷ []) ++ xs) (r ++ ys) ≡ (get_or ls 0 0 ∷ get_or ls 1 0 ∷ get_or ls 2 0 ∷ get_or ls 3 0 ∷ []) ++ (r ++ fours xs ys)) (sym (four_of rs q)) refl)

-- 8 samples of one channel make 4 bytes
pub bytes_of_eight : (p : ℤ) (i : ℕ) (xs ys : List ℤ) → length xs ≡ 8 →
    bytes_low_half_first (ima_codes p i (xs ++ ys)) ≡ bytes_low_half_first (ima_codes p i xs) ++ bytes_low_half_first (ima_codes (ima_predictor_after p i xs) (ima_index_after p i xs) ys)
bytes_of_eight p i xs ys e = ap bytes_low_half_first (ima_codes-append p i xs ys) ∙ bytes_low-append (ima_codes p i xs) (ima_codes (ima_predictor_after p i xs) (ima_index_after p i xs) ys) (omega (arith, length-ima_codes p i xs))

pub length-bytes_of_eight : (p : ℤ) (i : ℕ) (xs : List ℤ) → length xs ≡ 8 → length (bytes_low_half_first (ima_codes p i xs)) ≡ 4
length-bytes_of_eight p i xs e = omega (arith, length-bytes_low (ima_codes p i xs), length-ima_codes p i xs)

-- 8 frames of two channels: what the states make of the frames still to come
abbrev pub rest_of_two : ImaState → ImaState → List ℤ → List ℕ
rest_of_two left right frames = fours (bytes_low_half_first (ima_codes left.predictor left.index (firsts frames))) (bytes_low_half_first (ima_codes right.predictor right.index (seconds frames)))

pub rest_of_two-more : (left right l r : ImaState) (frames part rest : List ℤ) → length part ≡ 16 → frames ≡ part ++ rest →
    l.predictor ≡ ima_predictor_after left.predictor left.index (firsts part) → l.index ≡ ima_index_after left.predictor left.index (firsts part) →
    r.predictor ≡ ima_predictor_after right.predictor right.index (seconds part) → r.index ≡ ima_index_after right.predictor right.index (seconds part) →
    rest_of_two left right frames ≡ bytes_low_half_first (ima_codes left.predictor left.index (firsts part)) ++ (bytes_low_half_first (ima_codes right.predictor right.index (seconds part)) ++ rest_of_two l r rest)
rest_of_two-more left right l r frames part rest sixteen e lp li rp ri =
    let firsts_len : length (firsts part) ≡ 8 = omega (arith, length-firsts part) in
    let seconds_len : length (seconds part) ≡ 8 = omega (arith, length-seconds part) in
    let even : length part % 2 ≡ 0 = omega arith in
    rw (
      e,
      firsts-append part rest even,
      seconds-append part rest even,
      bytes_of_eight left.predictor left.index (firsts part) (firsts rest) firsts_len,
      bytes_of_eight right.predictor right.index (seconds part) (seconds rest) seconds_len,
      lp,
      li,
      rp,
      ri,
    )
    (fours-append _ _ _ _ (length-bytes_of_eight left.predictor left.index (firsts part) firsts_len) (length-bytes_of_eight right.predictor right.index (seconds part) seconds_len))

-- two runs of bytes
pub two_runs : (items one two whole a b all rest : List ℕ) → one ≡ items ++ a → two ≡ one ++ b → all ≡ a ++ (b ++ rest) → items ++ all ≡ whole → two ++ rest ≡ whole
two_runs items one two whole a b all rest p q l h = rw (q, p) (simp append_assoc (rw l at h))
