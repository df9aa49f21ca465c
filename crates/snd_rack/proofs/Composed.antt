-- The laws of racks.
use Rattle.std.proofs.Common.{inl, inr, ◌≡◌, ℕ, suc, ◌+◌, ◌-◌, ◌*◌, ◌/◌, ◌<◌, ◌≤◌, ℤ, pos, negsuc, ◌*ℤ◌, neg_ℤ, ◌≤ℤ◌, List, [], ◌∷◌, ◌++◌, length, map, nat_lt, slice_index_or, refl, sym, ap, ◌∙◌, arith}
use Rattle.std.proofs.lemmas.List.Elements.{All-map}
use Rattle.std.proofs.Math.Nat.{div-le_self, div-lt_iff_lt-mul, mul-le-mul_left}
use Rattle.std.proofs.lemmas.Bool.{cases_Bool, cases_lt, ltb-true}
use Rattle.std.proofs.lemmas.Int.{ints}
use Rattle.std.proofs.lemmas.List.{get_or_past}
use Rattle.std.proofs.Math.IntN.{negsuc-*ℤ-pos}
use Rattle.snd_pcm.specs.Width.{floor_div}
use Rattle.snd_rack.specs.Held.{InRange}
use Rattle.snd_rack.specs.Laws.{InPieces, OneByOne, StaysInRange}
use Rattle.snd_rack.specs.Rack.{frame_through, racked_from}
use Rattle.snd_rack.specs.Stage.{Stated, clamped, each_from, mapped, staged_from}

-- ---- frames by their numbers

each_kept : (k : ℕ) (frames : List (List ℤ)) → each_from k (λ i frame. frame) frames ≡ frames
each_kept k [] = refl
each_kept k (frame ∷ frames) = ap (λ l. frame ∷ l) (each_kept (k + 1) frames)

each_twice : (k : ℕ) (f g : ℕ → List ℤ → List ℤ) (frames : List (List ℤ)) → each_from k g (each_from k f frames) ≡ each_from k (λ i frame. g i (f i frame)) frames
each_twice k f g [] = refl
each_twice k f g (frame ∷ frames) = ap (λ l. g k (f k frame) ∷ l) (each_twice (k + 1) f g frames)

each_joined : (k : ℕ) (f : ℕ → List ℤ → List ℤ) (xs ys : List (List ℤ)) → each_from k f (xs ++ ys) ≡ each_from k f xs ++ each_from (k + length xs) f ys
each_joined k f [] ys = ap (λ n. each_from n f ys) (omega arith)
each_joined k f (x ∷ xs) ys =
    let more : k + 1 + length xs ≡ k + suc (length xs) = omega arith in
    ap (λ l. f k x ∷ l) (each_joined (k + 1) f xs ys ∙ ap (λ n. each_from (k + 1) f xs ++ each_from n f ys) more)

pub length_each : (k : ℕ) (f : ℕ → List ℤ → List ℤ) (frames : List (List ℤ)) → length (each_from k f frames) ≡ length frames
length_each k f [] = refl
length_each k f (frame ∷ frames) = ap suc (length_each (k + 1) f frames)

-- all frames through one stage after the other, and each frame through all stages
pub one_after_other : (items : List Stated) (low high : ℤ) (k : ℕ) (frames : List (List ℤ))
    → racked_from k items low high frames ≡ each_from k (frame_through items low high) frames
one_after_other [] low high k frames = sym (each_kept k frames)
one_after_other (s ∷ items) low high k frames =
    one_after_other items low high k (staged_from k s low high frames) ∙ each_twice k (mapped s low high) (frame_through items low high) frames

pub one_by_one : OneByOne
one_by_one items low high frames = one_after_other items low high 0 frames

pub in_pieces : InPieces
in_pieces items low high k xs ys =
    one_after_other items low high k (xs ++ ys) ∙ each_joined k (frame_through items low high) xs ys
    ∙ sym (ap (λ l. l ++ racked_from (k + length xs) items low high ys) (one_after_other items low high k xs)
    ∙ ap (λ l. each_from k (frame_through items low high) xs ++ l) (one_after_other items low high (k + length xs) ys))

-- ---- ranges

clamped_in : (low high x : ℤ) → low ≤ℤ high → (low ≤ℤ clamped low high x) × (clamped low high x ≤ℤ high)
clamped_in low high x le = (grind (arith, ints), grind (arith, ints))

each_in : (low high : ℤ) (f : ℤ → ℤ) → ((x : ℤ) → (low ≤ℤ x) × (x ≤ℤ high) → (low ≤ℤ f x) × (f x ≤ℤ high))
    → (frame : List ℤ) → InRange low high frame → InRange low high (map f frame)
each_in low high f h frame all =
    All-map (λ x. (low ≤ℤ x) × (x ≤ℤ high)) f frame (λ k d lt. h (slice_index_or frame k d) (all k d lt))

picked_in : (low high : ℤ) → low ≤ℤ pos 0 → pos 0 ≤ℤ high → (frame : List ℤ) → InRange low high frame
    → (place : ℕ) → (low ≤ℤ slice_index_or frame place (pos 0)) × (slice_index_or frame place (pos 0) ≤ℤ high)
picked_in low high below above frame all place = elim (cases_lt place (length frame)) [
  | inl lt ↦ all place (pos 0) lt
  | inr past ↦ rw (get_or_past frame place (pos 0) past) (below, above)
]

-- a part of a number lies between it and 0
rising : (a i n : ℕ) → i < n → a * i / n ≤ a
rising a i n lt =
    let most : a * i ≤ a * n = mul-le-mul_left {m = i} {n = n} a (omega (arith, lt)) in
    let less : a * i / n < suc a = (div-lt_iff_lt-mul {k = n} {x = a * i} {y = suc a} (omega (arith, lt))).1 (omega (arith, lt, most)) in
    omega (arith, less)

sinking : (a i n : ℕ) → i < n → (suc a * i - 1) / n ≤ a
sinking a i n lt =
    let most : suc a * i ≤ suc a * n = mul-le-mul_left {m = i} {n = n} (suc a) (omega (arith, lt)) in
    let less : (suc a * i - 1) / n < suc a = (div-lt_iff_lt-mul {k = n} {x = suc a * i - 1} {y = suc a} (omega (arith, lt))).1 (omega (arith, lt, most)) in
    omega (arith, less)

none_of : (a : ℕ) → negsuc a *ℤ pos 0 ≡ pos 0
none_of a =
    let none : suc a * 0 ≡ 0 = omega arith in
    negsuc-*ℤ-pos a 0 ∙ ap (λ m. neg_ℤ (pos m)) none

negative : (a i : ℕ) → 0 < i → negsuc a *ℤ pos i ≡ negsuc (suc a * i - 1)
negative a i some =
    let one : suc a * i ≡ suc (suc a * i - 1) = omega (arith, some) in
    negsuc-*ℤ-pos a i ∙ ap (λ m. neg_ℤ (pos m)) one

pub part_in : (low high : ℤ) (i n : ℕ) → low ≤ℤ pos 0 → pos 0 ≤ℤ high → i < n → (x : ℤ) → (low ≤ℤ x) × (x ≤ℤ high)
    → (low ≤ℤ floor_div (x *ℤ pos i) n) × (floor_div (x *ℤ pos i) n ≤ℤ high)
part_in low high i n below above lt (pos a) h =
    let least = rising a i n lt in
    (omega (arith, ints, least, h.0, h.1, below), omega (arith, ints, least, h.0, h.1))
part_in low high i n below above lt (negsuc a) h = elim (cases_lt 0 i) [
  | inl some ↦ (let least = sinking a i n lt in rw (negative a i some) (omega (arith, ints, least, h.0, h.1), omega (arith, ints, least, h.0, h.1, above)))
  | inr none ↦ (let zero_is : i ≡ 0 = omega (arith, none) in let least : 0 / n ≤ 0 = div-le_self 0 n in
      rw (zero_is, none_of a) (omega (arith, ints, least, below), omega (arith, ints, least, above)))
]

pub stays_in_range : StaysInRange
stays_in_range (Stated.gain a b) low high i frame below above settled all =
    let le : low ≤ℤ high = omega (arith, ints, below, above) in
    each_in low high (λ x. clamped low high (floor_div (x *ℤ pos a) b)) (λ x h. clamped_in low high (floor_div (x *ℤ pos a) b) le) frame all
stays_in_range Stated.invert low high i frame below above settled all =
    let le : low ≤ℤ high = omega (arith, ints, below, above) in
    each_in low high (λ x. clamped low high (neg_ℤ x)) (λ x h. clamped_in low high (neg_ℤ x) le) frame all
stays_in_range (Stated.pick places) low high i frame below above settled all =
    All-map (λ x. (low ≤ℤ x) × (x ≤ℤ high)) (λ place. slice_index_or frame place (pos 0)) places
    (λ k d lt. picked_in low high below above frame all (slice_index_or places k d))
stays_in_range (Stated.fade n) low high i frame below above settled all = elim (cases_Bool (nat_lt i n)) [
  | inl lt ↦ rw lt (each_in low high (λ x. floor_div (x *ℤ pos i) n) (part_in low high i n below above (ltb-true i n lt)) frame all)
  | inr past ↦ rw past all
]
