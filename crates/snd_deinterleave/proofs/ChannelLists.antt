-- One number of each frame.
use Rattle.std.proofs.Common.{◌≡◌, ◌∙◌, ap, sym, subst, refl, inl, inr, ℕ, zero, suc, ◌+◌, ◌-◌, ◌*◌, ◌<◌, ◌≤◌, ℤ, pos, List, [], ◌∷◌, ◌++◌, All, length, take, drop, get_or, set, arith}
use Rattle.std.proofs.Math.Nat.{mul-le-mul_left}
use Rattle.std.proofs.lemmas.Bool.{cases_lt}
use Rattle.std.proofs.lemmas.Grind.{get_or-set_at}
use Rattle.std.proofs.lemmas.List.Elements.{All-from_get_or, All-get_or}
use Rattle.std.proofs.lemmas.List.{get_or-set_other, get_or-drop, length-drop, length-take-le, map-append, places, same_lists, take_all}
use Rattle.snd_pcm.specs.Groups.{first_groups}
use Rattle.snd_deinterleave.specs.Deinterleave.{channel_of}
use Rattle.snd_deinterleave.specs.Passing.{ArePicked}

-- a number more is picked
pub picked_more : (c w i : ℕ) (block xs : List ℤ) (y : ℤ) → i < length xs → y ≡ get_or block (i * c + w) (pos 0) → ArePicked c w block xs i → ArePicked c w block (set xs i y) (i + 1)
picked_more c w i block xs y lt is so_far j below = elim (cases_lt j i) [
  | inl before ↦ get_or-set_other xs i j y (pos 0) (λ same. omega (arith, same, before)) ∙ so_far j before
  | inr le ↦
      let here : j ≡ i = omega (arith, le, below) in
      get_or-set_at xs i j y (pos 0) here lt ∙ is ∙ ap (λ (k : ℕ). get_or block (k * c + w) (pos 0)) (sym here)
]

-- channel of two lists of frames
pub channel_on : (k : ℕ) (xs ys : List (List ℤ)) → channel_of k (xs ++ ys) ≡ channel_of k xs ++ channel_of k ys
channel_on k xs ys = map-append (λ frame. get_or frame k (pos 0)) xs ys

taken_on : {X : Type 0} (xs : List X) (at n m : ℕ) → take n (drop at xs) ++ take m (drop (at + n) xs) ≡ take (n + m) (drop at xs)
taken_on xs at n m = same_lists _ _ (grind (arith, places)) (λ k d lt. grind (arith, places))

-- .. of the next n of some frames, and of m more
pub channel_next : (w : ℕ) (frames : List (List ℤ)) (at n m : ℕ) → channel_of w (take n (drop at frames)) ++ channel_of w (take m (drop (at + n) frames)) ≡ channel_of w (take (n + m) (drop at frames))
channel_next w frames at n m = sym (channel_on w (take n (drop at frames)) (take m (drop (at + n) frames))) ∙ ap (channel_of w) (taken_on frames at n m)

-- .. and of all that are left
pub channel_all : (w : ℕ) (frames : List (List ℤ)) (at n : ℕ) → n ≡ length frames - at → channel_of w (take n (drop at frames)) ≡ channel_of w (drop at frames)
channel_all w frames at n is = ap (channel_of w) (take_all n (drop at frames) (omega (arith, is, length-drop at frames)))

-- the number of the first frame, and those of the others
in_first : (c w : ℕ) (block : List ℤ) → w < c → get_or (take c block) w (pos 0) ≡ get_or block w (pos 0)
in_first c w block within = grind (arith, places)

-- numbers that are picked of a block are a channel of its frames
pub picked_are : (c w n : ℕ) (block xs : List ℤ) → w < c → length xs ≡ n → ArePicked c w block xs n → xs ≡ channel_of w (first_groups c n block)
picked_are c w zero block [] within size are = refl
picked_are c w zero block (x ∷ xs) within size are = absurd (omega (arith, size))
picked_are c w (suc n) block [] within size are = absurd (omega (arith, size))
picked_are c w (suc n) block (x ∷ xs) within size are =
    ap (λ (l : List ℤ). x ∷ l) (picked_are c w n (drop c block) xs within (omega (arith, size))
    (λ j lt. are (suc j) (omega (arith, lt)) ∙ ap (λ (k : ℕ). get_or block k (pos 0)) (let e : suc j * c + w ≡ c + (j * c + w) = omega arith in e) ∙ sym (get_or-drop c block (j * c + w) (pos 0))))
    ∙ ap (λ (y : ℤ). y ∷ channel_of w (first_groups c n (drop c block)))
    (are 0 (omega arith) ∙ ap (λ (k : ℕ). get_or block k (pos 0)) (let e : 0 * c + w ≡ w = omega arith in e) ∙ sym (in_first c w block within))

-- a number of one of so many frames lies within them
pub in_frames : (c n j w : ℕ) → j < n → w < c → j * c + w < n * c
in_frames c n j w lt within = let times : c * (j + 1) ≤ c * n = mul-le-mul_left c (omega (arith, lt)) in omega (arith, times, within)

-- what holds of each number of a block holds of those that are picked
pub picked_all : (P : ℤ → Type 0) (c w n : ℕ) (block xs : List ℤ) → w < c → n * c ≤ length block → length xs ≡ n → ArePicked c w (take (n * c) block) xs n → All P (take (n * c) block) → All P xs
picked_all P c w n block xs within fits size are all = All-from_get_or P xs (pos 0) (λ j lt.
    let below : j < n = omega (arith, lt, size) in
    let inside : j * c + w < length (take (n * c) block) = omega (arith, in_frames c n j w below within, length-take-le (n * c) block fits) in
    subst P (sym (are j below)) (All-get_or P (take (n * c) block) (j * c + w) (pos 0) inside all))
