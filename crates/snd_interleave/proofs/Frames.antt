-- A block of frames.
use Rattle.std.proofs.Common.{◌≡◌, ◌≢◌, ◌∙◌, ap, sym, subst, ◌⊎◌, inl, inr, ℕ, zero, suc, ◌+◌, ◌*◌, ◌/◌, ◌%◌, ◌<◌, ◌≤◌, ℤ, pos, List, ◌∷◌, ◌++◌, length, take, drop, get_or, set, arith}
use Rattle.std.proofs.Math.Nat.{mul-le-mul_left}
use Rattle.std.proofs.lemmas.Bool.{cases_lt}
use Rattle.std.proofs.lemmas.List.Concat.{flat_map-append}
use Rattle.std.proofs.lemmas.Grind.{get_or-set_at}
use Rattle.std.proofs.lemmas.List.{get_or-set_other, length-drop, length-map, places, same_lists, nil_from_length, get_or_default, take-append-drop, get_or-drop}
use Rattle.std.specs.List.{flat_map, range_with_len}
use Rattle.snd_interleave.specs.Beside.{HasChannel, HaveEach, KeepsChannels, frame_at, frames_from}

-- ---- places in a block of frames of n numbers

-- a frame ends where the next begins
next_frame : (n i j : ℕ) → j < i → j * n + n ≤ i * n
next_frame n i j lt = let times : n * (j + 1) ≤ n * i = mul-le-mul_left n (omega (arith, lt)) in omega (arith, times)

-- a number of one of so many frames lies within them
pub in_frame : (n count j c : ℕ) → j < count → c < n → j * n + c < count * n
in_frame n count j c lt within = let end = next_frame n count j lt in omega (arith, end, within)

-- one place is one number of one frame
pub frame_apart : (n i w j c : ℕ) → w < n → c < n → (j < i) ⊎ (i < j) → j * n + c ≢ i * n + w
frame_apart n i w j c within within' (inl lt) same = let end = next_frame n i j lt in omega (arith, end, within', same)
frame_apart n i w j c within within' (inr lt) same = let end = next_frame n j i lt in omega (arith, end, within, same)

pub place_apart : (n i w j c : ℕ) → w < n → c < n → c ≢ w → j * n + c ≢ i * n + w
place_apart n i w j c within within' other same = elim (cases_lt j i) [
  | inl before ↦ frame_apart n i w j c within within' (inl before) same
  | inr le ↦ elim (cases_lt i j) [
    | inl behind ↦ frame_apart n i w j c within within' (inr behind) same
    | inr ge ↦ let here : j ≡ i = omega (arith, le, ge) in other (omega (arith, same, ap (λ (k : ℕ). k * n) here))
  ]
]

module _ (n w i : ℕ) (numbers block : List ℤ) (y : ℤ) (within : w < n) (size : length block ≡ length numbers * n) (lt : i < length numbers) where
  -- one number more of a channel is put
  pub put_more : y ≡ get_or numbers i (pos 0) → HasChannel n w i numbers block → HasChannel n w (i + 1) numbers (set block (i * n + w) y)
  put_more is so_far j below = elim (cases_lt j i) [
    | inl before ↦ get_or-set_other block (i * n + w) (j * n + w) y (pos 0) (frame_apart n i w j w within within (inl before)) ∙ so_far j before
    | inr le ↦
        let here : j ≡ i = omega (arith, le, below) in
        get_or-set_at block (i * n + w) (j * n + w) y (pos 0) (ap (λ (k : ℕ). k * n + w) here) (let at = in_frame n (length numbers) i w lt within in omega (arith, at, size))
        ∙ is ∙ ap (λ (k : ℕ). get_or numbers k (pos 0)) (sym here)
  ]

  pub others_more : (old : List ℤ) (count : ℕ) → KeepsChannels n w count old block → KeepsChannels n w count old (set block (i * n + w) y)
  others_more old count so_far j c below inside other =
      get_or-set_other block (i * n + w) (j * n + c) y (pos 0) (place_apart n i w j c within inside other) ∙ so_far j c below inside other

-- ---- a block that has each channel

-- the numbers of the first frame
first_frame : (block frame : List ℤ) (n m : ℕ) → length block ≡ n + m → length frame ≡ n → ((c : ℕ) → c < n → get_or block c (pos 0) ≡ get_or frame c (pos 0)) → take n block ≡ frame
first_frame block frame n m size count is = same_lists _ _ (grind (arith, places)) (λ k d lt.
    let below : k < n = grind (arith, places) in
    let long : k < length block = omega (arith, below, size) in
    grind (arith, places) ∙ get_or_default block k d (pos 0) long ∙ is k below ∙ get_or_default frame k (pos 0) d (omega (arith, below, count)))

dropped : (n : ℕ) (block : List ℤ) (j c : ℕ) → get_or (drop n block) (j * n + c) (pos 0) ≡ get_or block (suc j * n + c) (pos 0)
dropped n block j c = get_or-drop n block (j * n + c) (pos 0) ∙ ap (λ (k : ℕ). get_or block k (pos 0)) (let e : n + (j * n + c) ≡ suc j * n + c = omega arith in e)

-- a block whose frames have the numbers of these from one on
pub frames_are : (channels : List (List ℤ)) (n at count : ℕ) (block : List ℤ) → length channels ≡ n → length block ≡ count * n
    → ((j c : ℕ) → j < count → c < n → get_or block (j * n + c) (pos 0) ≡ get_or (frame_at channels (at + j)) c (pos 0)) → block ≡ frames_from channels at count
frames_are channels n at zero block many size is = nil_from_length block (omega (arith, size))
frames_are channels n at (suc count) block many size is =
    let all : length block ≡ n + count * n = omega (arith, size) in
    let rest : length (drop n block) ≡ count * n = omega (arith, all, length-drop n block) in
    sym (take-append-drop n block)
    ∙ ap (λ (l : List ℤ). l ++ drop n block) (first_frame block (frame_at channels at) n (count * n) all (length-map channels (λ xs. get_or xs at (pos 0)) ∙ many)
    (λ c lt. ap (λ (k : ℕ). get_or block k (pos 0)) (let e : c ≡ 0 * n + c = omega arith in e) ∙ is 0 c (omega arith) lt ∙ ap (λ (k : ℕ). get_or (frame_at channels k) c (pos 0)) (let e : at + 0 ≡ at = omega arith in e)))
    ∙ ap (λ (l : List ℤ). frame_at channels at ++ l) (frames_are channels n (at + 1) count (drop n block) many rest
    (λ j c lt within. dropped n block j c ∙ is (suc j) c (omega (arith, lt)) within ∙ ap (λ (k : ℕ). get_or (frame_at channels k) c (pos 0)) (let e : at + suc j ≡ at + 1 + j = omega arith in e)))

-- what holds of each number of each frame holds of all
pub each_place : (P : ℤ → Type 0) (n count : ℕ) (block : List ℤ) → ((j c : ℕ) → j < count → c < n → P (get_or block (j * n + c) (pos 0))) → HaveEach P (count * n) block
each_place P n count block is k lt =
    let some : 1 ≤ n = positive n (λ none. let e : count * n ≡ count * 0 = ap (λ (m : ℕ). count * m) none in omega (arith, e, lt)) in
    let split : k ≡ k / n * n + k % n = omega (arith, some) in
    let below : k / n < count = frame_below n count (k / n) (omega (arith, split, lt)) in
    let inside : k % n < n = omega (arith, some) in
    subst P (ap (λ (i : ℕ). get_or block i (pos 0)) (sym split)) (is (k / n) (k % n) below inside)
  where
    positive : (m : ℕ) → (m ≡ 0 → ⊥) → 1 ≤ m
    positive m some = elim (cases_lt 0 m) [ inl lt ↦ omega (arith, lt) | inr le ↦ absurd (some (omega (arith, le))) ]

    frame_below : (m total frame : ℕ) → frame * m < total * m → frame < total
    frame_below m total frame less = elim (cases_lt frame total) [
      | inl lt ↦ lt
      | inr le ↦ let times : m * total ≤ m * frame = mul-le-mul_left m le in absurd (omega (arith, times, less))
    ]

-- ---- frames one after the other

ranges_on : (at n m : ℕ) → range_with_len at n ++ range_with_len (at + n) m ≡ range_with_len at (n + m)
ranges_on at zero m = ap (λ (k : ℕ). range_with_len k m) (let e : at + 0 ≡ at = omega arith in e) ∙ ap (range_with_len at) (let e : m ≡ 0 + m = omega arith in e)
ranges_on at (suc n) m =
    ap (λ (l : List ℕ). at ∷ l)
    (ap (λ (k : ℕ). range_with_len (at + 1) n ++ range_with_len k m) (let e : at + suc n ≡ at + 1 + n = omega arith in e) ∙ ranges_on (at + 1) n m)
    ∙ ap (range_with_len at) (let e : suc (n + m) ≡ suc n + m = omega arith in e)

pub frames_on : (channels : List (List ℤ)) (n m : ℕ) → frames_from channels 0 n ++ frames_from channels n m ≡ frames_from channels 0 (n + m)
frames_on channels n m =
    sym (flat_map-append (frame_at channels) (range_with_len 0 n) (range_with_len n m))
    ∙ ap (λ (l : List ℕ). flat_map (frame_at channels) l) (ap (λ (k : ℕ). range_with_len 0 n ++ range_with_len k m) (let e : n ≡ 0 + n = omega arith in e) ∙ ranges_on 0 n m)
