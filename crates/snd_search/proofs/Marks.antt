-- Marks in lists of bytes, and what the first suffix answers.
use Rattle.std.proofs.Common.{◌≡◌, ◌⊎◌, ◌∙◌, ℕ, zero, suc, ◌+◌, ◌-◌, ◌*◌, ◌<◌, ◌≤◌, true, false, List, [], ◌∷◌, Option, None, Some, length, min, take, drop, get_or, refl, sym, ap, inl, inr, arith}
use Rattle.std.proofs.lemmas.Bool.{cases_Bool, cases_lt}
use Rattle.std.proofs.lemmas.List.{get_or-take, length-drop, length-take, places, same_lists}
use Rattle.std.proofs.lemmas.Slice.Eq.{bytes_eq-Decides}
use Rattle.std.specs.Str.{bytes_eq}
use Rattle.snd_disk.specs.State.{AtMost}
use Rattle.snd_search.specs.Marks.{IsFirstAt, IsFirstMark, begins, first_suffix, or_else}

-- ---- lists

pub drop_drop : (m n : ℕ) (s : List ℕ) → drop m (drop n s) ≡ drop (n + m) s
drop_drop m n s = same_lists _ _ (grind (arith, places)) (λ i d lt. grind (arith, places))

pub part : (m i n at : ℕ) (b : List ℕ) → i + m ≤ n → take m (drop i (take n (drop at b))) ≡ take m (drop (at + i) b)
part m i n at b fits = same_lists _ _ (grind (arith, places)) (λ k d lt. grind (arith, places))

-- what fills the front of a list of zeros is the front of what stands there
pub judged : (count len : ℕ) (x zeros d : List ℕ) → x ≡ take (length (take count zeros)) d → count ≡ min len (length zeros) → x ≡ take (length zeros) (take len d)
judged count len x zeros d told is =
    let room : length (take count zeros) ≡ count = grind (arith, places, is) in
    told ∙ ap (λ (n : ℕ). take n d) room ∙ same_lists _ _ (grind (arith, places, is)) (λ i e lt. grind (arith, places, is))

-- the front of a list, and what stands in it
pub long_front : (size : ℕ) (b : List ℕ) → size ≤ length b → length (take size b) ≡ size
long_front size b fits = omega (arith, length-take size b)

pub in_front : (n at size : ℕ) (b x : List ℕ) → x ≡ take n (drop at b) → at + n ≤ size → x ≡ take n (drop at (take size b))
in_front n at size b x is fits = is ∙ same_lists _ _ (grind (arith, places)) (λ i d lt. grind (arith, places))

pub long_part : (n at : ℕ) (d x : List ℕ) → x ≡ take n (drop at d) → at + n ≤ length d → length x ≡ n
long_part n at d x is fits = ap length is ∙ omega (arith, length-take n (drop at d), length-drop at d)

pub take_take : (m n : ℕ) (s : List ℕ) → m ≤ n → take m (take n s) ≡ take m s
take_take m n s le = same_lists _ _ (grind (arith, places)) (λ i d lt. grind (arith, places))

-- ---- marks

pub marked : (mark s : List ℕ) → begins mark s ≡ true → take (length mark) s ≡ mark
marked mark s is = (bytes_eq-Decides (take (length mark) s) mark).0 is

pub begins_same : (mark s t : List ℕ) → take (length mark) s ≡ take (length mark) t → begins mark s ≡ begins mark t
begins_same mark s t same = ap (λ (l : List ℕ). bytes_eq l mark) same

pub marked_at : (mark s : List ℕ) (j : ℕ) → begins mark s ≡ true → j < length mark → get_or s j 0 ≡ get_or mark j 0
marked_at mark s j is lt = sym (get_or-take (length mark) s j 0 lt) ∙ ap (λ (l : List ℕ). get_or l j 0) (marked mark s is)

-- a list that is shorter than a mark does not begin by it
pub too_short : (mark s : List ℕ) → length s < length mark → begins mark s ≡ false
too_short mark s short = elim (cases_Bool (begins mark s)) [
  | inl there ↦ absurd (omega (arith, ap length (marked mark s there), length-take (length mark) s))
  | inr missing ↦ missing
]

pub too_late : (mark s : List ℕ) (i : ℕ) → 1 ≤ length mark → length s < i + length mark → begins mark (drop i s) ≡ false
too_late mark s i some late = too_short mark (drop i s) (omega (arith, length-drop i s))

-- a mark in a part of a list
pub within_part : (mark b x : List ℕ) (at n i : ℕ) → x ≡ take n (drop at b) → i + length mark ≤ n → begins mark (drop i x) ≡ begins mark (drop (at + i) b)
within_part mark b x at n i is fits = begins_same mark (drop i x) (drop (at + i) b) (ap (λ (l : List ℕ). take (length mark) (drop i l)) is ∙ part (length mark) i n at b fits)

at_place : (mark b : List ℕ) (at i : ℕ) → at ≤ i → begins mark (drop (at + (i - at)) b) ≡ begins mark (drop i b)
at_place mark b at i le = ap (λ (k : ℕ). begins mark (drop k b)) (omega arith)

-- the first mark of a part is the first of all, where none stands before the part
pub first_in_part : (mark b x : List ℕ) (from at n place : ℕ) → x ≡ take n (drop at b) → at + n ≤ length b → length x ≡ n → from ≤ at
    → ((i : ℕ) → from ≤ i → i < at → begins mark (drop i b) ≡ false) → IsFirstAt mark x 0 place → IsFirstAt mark b from (at + place)
first_in_part mark b x from at n place is there long behind so_far first = record {
  behind = omega arith;
  within = omega (arith, first.within);
  stands = sym (within_part mark b x at n place is (omega (arith, first.within))) ∙ first.stands;
  none_before = λ i le lt. elim (cases_lt i at) [
    | inl before ↦ so_far i le before
    | inr after ↦ sym (at_place mark b at i after) ∙ sym (within_part mark b x at n (i - at) is (omega (arith, first.within))) ∙ first.none_before (i - at) (omega arith) (omega arith)
  ];
}

-- none stands before the next part, which begins where a mark may begin that ends behind this one, or behind the end
pub none_in_part : (mark b x : List ℕ) (from at n next : ℕ) → 1 ≤ length mark → x ≡ take n (drop at b)
    → (next + length mark ≤ at + n + 1) ⊎ (at + n ≡ length b)
    → ((i : ℕ) → from ≤ i → i < at → begins mark (drop i b) ≡ false) → IsFirstMark mark x 0 None → (i : ℕ) → from ≤ i → i < next → begins mark (drop i b) ≡ false
none_in_part mark b x from at n next some is ends so_far none i le lt = elim (cases_lt i at) [
  | inl before ↦ so_far i le before
  | inr after ↦ elim (cases_lt (at + n) (i + length mark)) [
    | inl over ↦ elim ends [
      | inl goes_on ↦ absurd (omega (arith, over, goes_on, lt))
      | inr last ↦ too_late mark b i some (omega (arith, over, last))
    ]
    | inr fits ↦ sym (at_place mark b at i after) ∙ sym (within_part mark b x at n (i - at) is (omega (arith, fits, after))) ∙ none (i - at) (omega arith)
  ]
]

-- a block of 16384 bytes, or fewer at the end, and the next look 16381 bytes on, for a mark of four bytes
pub block_ends : (size at count n m long : ℕ) → count ≡ min (size - at) 16384 → at < size → n ≡ count → m ≡ 4 → long ≡ size → (at + 16381 + m ≤ at + n + 1) ⊎ (at + n ≡ long)
block_ends size at count n m long is lt fills four all = elim (cases_lt (size - at) 16384) [
  | inl short ↦ inr (omega (arith, short, is, lt, fills, all))
  | inr over ↦ inl (omega (arith, over, is, lt, fills, four))
]

pub block_len : (count : ℕ) (block x : List ℕ) → length x ≡ length (take count block) → length block ≡ 16384 → count ≤ 16384 → length x ≡ count
block_len count block x same whole few = omega (arith, same, whole, few, length-take count block)

-- what is asked for the blocks up to a place, and for one more
pub asked_block : (size from at count n a b c : ℕ) → count ≡ min (size - at) 16384 → at < size → from ≤ at → n ≡ count → AtMost a (2 * (min at size - from)) b → AtMost b n c
    → AtMost a (2 * (min (at + 16381) size - from)) c
asked_block size from at count n a b c is lt le fills before more = record {
  later = omega (arith, before.later, more.later);
  most = elim (cases_lt (size - at) 16384) [
    | inl short ↦ omega (arith, short, is, lt, le, fills, before.most, more.most)
    | inr over ↦ omega (arith, over, is, lt, le, fills, before.most, more.most)
  ];
}

-- ---- suffixes

module _ {T : Type 0} (here : List ℕ → Option T) where
  skip : (n : ℕ) (s : List ℕ) → ((i : ℕ) → i < n → here (drop i s) ≡ None) → first_suffix here s ≡ first_suffix here (drop n s)
  unfolding first_suffix
  skip zero s none = refl
  skip (suc n) [] none = refl
  skip (suc n) (x ∷ xs) none = ap (λ (o : Option T). or_else o (first_suffix here xs)) (none 0 (omega arith)) ∙ skip n xs (λ i lt. none (suc i) (omega arith))

  nothing : (s : List ℕ) → ((i : ℕ) → here (drop i s) ≡ None) → first_suffix here s ≡ None
  unfolding first_suffix
  nothing [] none = none 0
  nothing (x ∷ xs) none = ap (λ (o : Option T). or_else o (first_suffix here xs)) (none 0) ∙ nothing xs (λ i. none (suc i))

  found : (s : List ℕ) (v : T) → here s ≡ Some v → first_suffix here s ≡ Some v
  unfolding first_suffix
  found [] v is = is
  found (x ∷ xs) v is = ap (λ (o : Option T). or_else o (first_suffix here xs)) is

  -- nothing is found from a place on
  pub none_from : (b : List ℕ) (from : ℕ) → ((i : ℕ) → from ≤ i → here (drop i b) ≡ None) → first_suffix here (drop from b) ≡ None
  none_from b from none = nothing (drop from b) (λ i. ap here (drop_drop i from b) ∙ none (from + i) (omega arith))

  -- what is found at a place is the first from another on, where there is nothing between them
  pub found_from : (b : List ℕ) (from place : ℕ) (v : T) → from ≤ place → ((i : ℕ) → from ≤ i → i < place → here (drop i b) ≡ None) → here (drop place b) ≡ Some v
      → first_suffix here (drop from b) ≡ Some v
  found_from b from place v le none is =
      skip (place - from) (drop from b) (λ i lt. ap here (drop_drop i from b) ∙ none (from + i) (omega arith) (omega arith))
      ∙ ap (λ (s : List ℕ). first_suffix here s) (drop_drop (place - from) from b)
      ∙ ap (λ (k : ℕ). first_suffix here (drop k b)) (omega arith)
      ∙ found (drop place b) v is
