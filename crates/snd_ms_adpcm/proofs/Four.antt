-- Four blocks that are read side by side, byte by byte.
use Rattle.std.proofs.Common.{◌≡◌, ℕ, zero, suc, ℤ, pos, ◌+◌, ◌-◌, ◌*◌, ◌/◌, ◌%◌, ◌<◌, ◌≤◌, ◌+ℤ◌, ◌*ℤ◌, Bool, true, false, ◌||◌, List, [], ◌∷◌, ◌++◌, length, take, drop, get_or, set, refl, sym, subst, ap, ◌∙◌, arith}
use Rattle.std.proofs.lemmas.List.{drop_more, drop_all, drop-drop, drop_at, get_or-drop, length-append, length-drop, length-set, take_all, take_at}
use Rattle.snd_ms_adpcm.specs.declared.microsoft_state.MsState.{MsState}
use Rattle.std.proofs.lemmas.List.Elements.{All-same}
use Rattle.snd_ms_adpcm.specs.Four.{AreSamples, FollowsFrom, any_bad, part}
use Rattle.snd_ima_adpcm.specs.Frames.{Is16Bit, alternating, clamp, clamp_16, firsts, floor_div, high_half_first, seconds}
use Rattle.snd_ms_adpcm.specs.Microsoft.{adaptation, is_bad_ms_block, ms_block, ms_delta, ms_prediction, ms_sample, signed_code}
use Rattle.snd_ms_adpcm.specs.States.{ms_frames_from, ms_samples_from}
use Rattle.snd_ms_adpcm.proofs.MsCodes.{rest_of, rest_of-code, samples_from_range}
use Rattle.snd_ima_adpcm.proofs.Public.{all_put, alternating_all, two_put}

-- a state that moves by what a code stands for follows by that code
pub follows : (s t : MsState) (code : ℕ) (deltas factor : ℤ) → deltas ≡ signed_code code → factor ≡ adaptation code
    → t.newer ≡ clamp_16 (ms_prediction s.newer_by s.older_by s.newer s.older +ℤ deltas *ℤ s.delta) → t.older ≡ s.newer
    → t.delta ≡ clamp (pos 16) (pos 1048576) (floor_div (s.delta *ℤ factor) 256) → t.newer_by ≡ s.newer_by → t.older_by ≡ s.older_by → FollowsFrom s code t
unfolding ms_sample ms_delta
follows s t code deltas factor deltas_are factor_is newer older delta newer_by older_by = record {
  newer = newer ∙ ap (λ (z : ℤ). clamp_16 (ms_prediction s.newer_by s.older_by s.newer s.older +ℤ z *ℤ s.delta)) deltas_are;
  older = older;
  delta = delta ∙ ap (λ (z : ℤ). clamp (pos 16) (pos 1048576) (floor_div (s.delta *ℤ z) 256)) factor_is;
  newer_by = newer_by;
  older_by = older_by;
}

-- four numbers that are put first
pub four_begin : (xs : List ℤ) (a b c d a' b' c' d' : ℤ) → 4 ≤ length xs → a ≡ a' → b ≡ b' → c ≡ c' → d ≡ d' → take 4 (set (set (set (set xs 0 a) 1 b) 2 c) 3 d) ≡ a' ∷ b' ∷ c' ∷ d' ∷ []
four_begin [] a b c d a' b' c' d' le p q r s = absurd (omega arith)
four_begin (x ∷ []) a b c d a' b' c' d' le p q r s = absurd (omega arith)
four_begin (x ∷ y ∷ []) a b c d a' b' c' d' le p q r s = absurd (omega arith)
four_begin (x ∷ y ∷ z ∷ []) a b c d a' b' c' d' le p q r s = absurd (omega arith)
four_begin (x ∷ y ∷ z ∷ w ∷ xs) a b c d a' b' c' d' le p q r s = rw (p, q, r, s) refl

-- the frames of a block, of which the two of its heads and those of so many bytes stand in their places
pub record Decoded (n : ℕ) (block : List ℕ) (left right : MsState) (into : List ℤ) : Type 0 where
  pub so_far : take (2 * n + 4) into ++ alternating (rest_of left (firsts (high_half_first (drop n (drop 14 block))))) (rest_of right (seconds (high_half_first (drop n (drop 14 block))))) ≡ ms_block 2 block
  pub room : length into ≡ 2 * (length block - 14) + 4

pub begun : (block : List ℕ) (left right : MsState) (into : List ℤ) → take 4 into ≡ left.older ∷ right.older ∷ left.newer ∷ right.newer ∷ []
    → ms_frames_from left right (high_half_first (drop 14 block)) ≡ ms_block 2 block → length into ≡ 2 * (length block - 14) + 4 → Decoded 0 block left right into
begun block left right into heads frames size = record {
  so_far = ap (λ (l : List ℤ). l ++ alternating (rest_of left (firsts (high_half_first (drop 14 block)))) (rest_of right (seconds (high_half_first (drop 14 block))))) heads ∙ frames;
  room = size;
}

pub more : (n : ℕ) (block : List ℕ) (l r l' r' : MsState) (into : List ℤ) (byte : ℕ) (a b : ℤ) → n < length block - 14 → byte ≡ get_or block (n + 14) 0
    → FollowsFrom l (byte / 16) l' → FollowsFrom r (byte % 16) r' → a ≡ l'.newer → b ≡ r'.newer → Decoded n block l r into → Decoded (n + 1) block l' r' (set (set into (2 * n + 4) a) (2 * n + 5) b)
more n block l r l' r' into byte a b lt byte_is f g a_is b_is d = record {
  so_far = two_put into _ _ _ (2 * n + 4) (2 * n + 5) (2 * (n + 1) + 4) a b (omega arith) (omega arith) (omega (arith, lt, d.room)) (rw (left, right, a_is, b_is) refl) d.so_far;
  room = length-set (set into (2 * n + 4) a) (2 * n + 5) b ∙ length-set into (2 * n + 4) a ∙ d.room;
}
  where
    codes : List ℕ
    codes = drop 14 block

    below : n < length codes
    below = omega (arith, lt, length-drop 14 block)

    here : get_or codes n 0 ≡ byte
    here = get_or-drop 14 block n 0 ∙ ap (λ (k : ℕ). get_or block k 0) (let e : 14 + n ≡ n + 14 = omega arith in e) ∙ sym byte_is

    step : drop n codes ≡ byte ∷ drop (n + 1) codes
    step = drop_more codes n 0 below ∙ ap (λ (k : ℕ). k ∷ drop (n + 1) codes) here

    left : rest_of l (firsts (high_half_first (drop n codes))) ≡ l'.newer ∷ rest_of l' (firsts (high_half_first (drop (n + 1) codes)))
    left = ap (λ (bytes : List ℕ). rest_of l (firsts (high_half_first bytes))) step ∙ rest_of-code l l' (byte / 16) (firsts (high_half_first (drop (n + 1) codes))) f.newer f.older f.delta f.newer_by f.older_by

    right : rest_of r (seconds (high_half_first (drop n codes))) ≡ r'.newer ∷ rest_of r' (seconds (high_half_first (drop (n + 1) codes)))
    right = ap (λ (bytes : List ℕ). rest_of r (seconds (high_half_first bytes))) step ∙ rest_of-code r r' (byte % 16) (seconds (high_half_first (drop (n + 1) codes))) g.newer g.older g.delta g.newer_by g.older_by

pub done : (n : ℕ) (block codes : List ℕ) (first second l r : MsState) (into : List ℤ) → length block - 14 ≤ n → is_bad_ms_block 2 block ≡ false → ms_frames_from first second codes ≡ ms_block 2 block
    → Decoded n block l r into → AreSamples block into
done n block codes first second l r into past good frames d = record {
  good = good;
  samples = all;
  range =
      All-same Is16Bit into _ (all ∙ sym frames)
      (alternating_all Is16Bit (ms_samples_from first (firsts codes)) (ms_samples_from second (seconds codes)) (samples_from_range first (firsts codes)) (samples_from_range second (seconds codes)));
}
  where
    all : into ≡ ms_block 2 block
    all =
        all_put into _ _ (2 * n + 4) (omega (arith, past, d.room))
        (ap (λ (bytes : List ℕ). alternating (rest_of l (firsts (high_half_first bytes))) (rest_of r (seconds (high_half_first bytes)))) (drop_all n (drop 14 block) (omega (arith, past, length-drop 14 block)))) d.so_far

-- ---- four parts of a list, of one size

-- .. that are cut off one by one
module _ {X : Type 0} (n : ℕ) (xs a r b s c d : List X) (size : length xs ≡ 4 * n) (a_is : a ≡ take n xs) (r_is : r ≡ drop n xs) (b_is : b ≡ take n r) (s_is : s ≡ drop n r) (c_is : c ≡ take n s) (d_is : d ≡ drop n s) where
  pub part_0 : part n 0 xs ≡ a
  part_0 = ap (λ (m : ℕ). take n (drop m xs)) (let e : 0 * n ≡ 0 = omega arith in e) ∙ sym a_is

  pub part_1 : part n 1 xs ≡ b
  part_1 = ap (λ (m : ℕ). take n (drop m xs)) (let e : 1 * n ≡ n = omega arith in e) ∙ sym (b_is ∙ ap (take n) r_is)

  s_at : s ≡ drop (2 * n) xs
  s_at = s_is ∙ ap (drop n) r_is ∙ drop-drop n n xs ∙ ap (λ (m : ℕ). drop m xs) (let e : n + n ≡ 2 * n = omega arith in e)

  pub part_2 : part n 2 xs ≡ c
  part_2 = sym (c_is ∙ ap (take n) s_at)

  d_at : d ≡ drop (3 * n) xs
  d_at = d_is ∙ ap (drop n) s_at ∙ drop-drop n (2 * n) xs ∙ ap (λ (m : ℕ). drop m xs) (let e : 2 * n + n ≡ 3 * n = omega arith in e)

  pub part_3 : part n 3 xs ≡ d
  part_3 = take_all n (drop (3 * n) xs) (omega (arith, size, length-drop (3 * n) xs)) ∙ sym d_at

pub bad_parts : (n : ℕ) (xs a r b s c d : List ℕ) → length xs ≡ 4 * n → a ≡ take n xs → r ≡ drop n xs → b ≡ take n r → s ≡ drop n r → c ≡ take n s → d ≡ drop n s
    → any_bad n xs ≡ is_bad_ms_block 2 a || (is_bad_ms_block 2 b || (is_bad_ms_block 2 c || is_bad_ms_block 2 d))
bad_parts n xs a r b s c d size a_is r_is b_is s_is c_is d_is =
    ap (λ (l : List ℕ). is_bad_ms_block 2 l || (bad 1 || (bad 2 || (bad 3 || false)))) (part_0 n xs a r b s c d size a_is r_is b_is s_is c_is d_is)
    ∙ ap (λ (l : List ℕ). is_bad_ms_block 2 a || (is_bad_ms_block 2 l || (bad 2 || (bad 3 || false)))) (part_1 n xs a r b s c d size a_is r_is b_is s_is c_is d_is)
    ∙ ap (λ (l : List ℕ). is_bad_ms_block 2 a || (is_bad_ms_block 2 b || (is_bad_ms_block 2 l || (bad 3 || false)))) (part_2 n xs a r b s c d size a_is r_is b_is s_is c_is d_is)
    ∙ ap (λ (l : List ℕ). is_bad_ms_block 2 a || (is_bad_ms_block 2 b || (is_bad_ms_block 2 c || (is_bad_ms_block 2 l || false)))) (part_3 n xs a r b s c d size a_is r_is b_is s_is c_is d_is)
    ∙ ap (λ (t : Bool). is_bad_ms_block 2 a || (is_bad_ms_block 2 b || (is_bad_ms_block 2 c || t))) (or_false (is_bad_ms_block 2 d))
  where
    bad : ℕ → Bool
    bad k = is_bad_ms_block 2 (part n k xs)

    or_false : (t : Bool) → (t || false) ≡ t
    or_false true = refl
    or_false false = refl

-- .. that were put one behind the other
module _ {X : Type 0} (n : ℕ) (a b c d : List X) (a_len : length a ≡ n) (b_len : length b ≡ n) (c_len : length c ≡ n) (d_len : length d ≡ n) where
  behind_a : drop n (a ++ (b ++ (c ++ d))) ≡ b ++ (c ++ d)
  behind_a = drop_at a (b ++ (c ++ d)) n a_len

  behind_b : drop n (b ++ (c ++ d)) ≡ c ++ d
  behind_b = drop_at b (c ++ d) n b_len

  size : length (a ++ (b ++ (c ++ d))) ≡ 4 * n
  size = omega (arith, length-append a (b ++ (c ++ d)), length-append b (c ++ d), length-append c d, a_len, b_len, c_len, d_len)

  a_at : a ≡ take n (a ++ (b ++ (c ++ d)))
  a_at = sym (take_at a (b ++ (c ++ d)) n a_len)

  b_at : b ≡ take n (b ++ (c ++ d))
  b_at = sym (take_at b (c ++ d) n b_len)

  c_at : c ≡ take n (c ++ d)
  c_at = sym (take_at c d n c_len)

  d_after : d ≡ drop n (c ++ d)
  d_after = sym (drop_at c d n c_len)

  pub each_part : (P : ℕ → List X → Type 0) → P 0 a → P 1 b → P 2 c → P 3 d → (k : ℕ) → k < 4 → P k (part n k (a ++ (b ++ (c ++ d))))
  each_part P pa pb pc pd zero lt = subst (P 0) (sym (part_0 n _ a (b ++ (c ++ d)) b (c ++ d) c d size a_at (sym behind_a) b_at (sym behind_b) c_at d_after)) pa
  each_part P pa pb pc pd (suc zero) lt = subst (P 1) (sym (part_1 n _ a (b ++ (c ++ d)) b (c ++ d) c d size a_at (sym behind_a) b_at (sym behind_b) c_at d_after)) pb
  each_part P pa pb pc pd (suc (suc zero)) lt = subst (P 2) (sym (part_2 n _ a (b ++ (c ++ d)) b (c ++ d) c d size a_at (sym behind_a) b_at (sym behind_b) c_at d_after)) pc
  each_part P pa pb pc pd (suc (suc (suc zero))) lt = subst (P 3) (sym (part_3 n _ a (b ++ (c ++ d)) b (c ++ d) c d size a_at (sym behind_a) b_at (sym behind_b) c_at d_after)) pd
  each_part P pa pb pc pd (suc (suc (suc (suc k)))) lt = absurd (omega (arith, lt))
