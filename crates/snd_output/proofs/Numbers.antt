-- Numbers of frames.
use Rattle.std.proofs.Common.{◌≡◌, ◌∙◌, ap, sym, refl, ◌<◌, ℕ, zero, suc, ◌+◌, ◌-◌, ◌*◌, ◌/◌, ◌%◌, ◌≤◌, ℤ, List, ◌++◌, length, take, drop, arith}
use Rattle.std.proofs.Math.Nat.{mul-div_cancel_left, mul-mod_right}
use Rattle.std.proofs.lemmas.List.{length-append, length-drop, places, same_lists, take_all}
use Rattle.std.proofs.lemmas.List.Concat.{flat_map-append}
use Rattle.snd_pcm.specs.Groups.{first_groups}
use Rattle.snd_edits.proofs.Public.{whole_frames}
use Rattle.snd_output.specs.Widths.{joined}

taken_more : (c n : ℕ) (xs : List ℤ) → take c xs ++ take (n * c) (drop c xs) ≡ take (c + n * c) xs
taken_more c n xs = go (n * c)
  where
    go : (m : ℕ) → take c xs ++ take m (drop c xs) ≡ take (c + m) xs
    go m = same_lists _ _ (grind (arith, places)) (λ k d lt. grind (arith, places))

pub joined_groups : (c n : ℕ) (xs : List ℤ) → joined (first_groups c n xs) ≡ take (n * c) xs
joined_groups c zero xs = let e : 0 ≡ 0 * c = omega arith in ap (λ (m : ℕ). take m xs) e
joined_groups c (suc n) xs =
    ap (λ (l : List ℤ). take c xs ++ l) (joined_groups c n (drop c xs)) ∙ taken_more c n xs
    ∙ (let e : c + n * c ≡ suc n * c = omega arith in ap (λ (m : ℕ). take m xs) e)

-- the next n of a list, and then m more
taken_on : {X : Type 0} (xs : List X) (at n m : ℕ) → take n (drop at xs) ++ take m (drop (at + n) xs) ≡ take (n + m) (drop at xs)
taken_on xs at n m = same_lists _ _ (grind (arith, places)) (λ k d lt. grind (arith, places))

pub joined_on : (frames : List (List ℤ)) (at n m : ℕ) → joined (take n (drop at frames)) ++ joined (take m (drop (at + n) frames)) ≡ joined (take (n + m) (drop at frames))
joined_on frames at n m = sym (flat_map-append (λ frame. frame) (take n (drop at frames)) (take m (drop (at + n) frames))) ∙ ap joined (taken_on frames at n m)

pub joined_all : (frames : List (List ℤ)) (at : ℕ) → joined (take (length frames - at) (drop at frames)) ≡ joined (drop at frames)
joined_all frames at = ap joined (take_all (length frames - at) (drop at frames) (omega (arith, length-drop at frames)))

-- numbers of whole frames behind others are whole frames, too
pub counts_joined : (c : ℕ) (xs ys : List ℤ) → 1 ≤ c → length xs % c ≡ 0 → length ys % c ≡ 0 → (length (xs ++ ys) / c ≡ length xs / c + length ys / c) × (length (xs ++ ys) % c ≡ 0)
counts_joined c xs ys some first second =
    let n = length xs / c in
    let k = length ys / c in
    let all : length (xs ++ ys) ≡ c * (n + k) =
    length-append xs ys ∙ (let e : length xs + length ys ≡ c * (n + k) = omega (arith, whole_frames (length xs) c n some first refl, whole_frames (length ys) c k some second refl) in e) in
    (ap (λ (i : ℕ). i / c) all ∙ mul-div_cancel_left (n + k) (let e : 0 < c = omega (arith, some) in e), ap (λ (i : ℕ). i % c) all ∙ mul-mod_right c (n + k))
