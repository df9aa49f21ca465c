-- What is asked of inputs side by side: for a run of frames, for the next one, and for all; and of a shelf that has them back.
use Rattle.std.proofs.Common.{◌≡◌, ◌∙◌, ap, sym, refl, subst, inl, inr, ◌⊎◌, ⊎_elim, ℕ, ◌+◌, ◌-◌, ◌*◌, ◌/◌, ◌<◌, ◌≤◌, Bool, cond, true, false, List, [], ◌∷◌, ◌++◌, length, get_or, set, drop, min, slice_get, Some, arith}
use Rattle.std.proofs.lemmas.Bool.{cases_lt, le-ltb, lt-ltb}
use Rattle.std.proofs.lemmas.Grind.{get_or-set_at}
use Rattle.std.proofs.lemmas.List.{get_or_append_left, get_or_at, get_or_default, get_or-set_other, length-append}
use Rattle.std.proofs.Math.Nat.{add-div_right, mul-le-mul_left}
use Rattle.snd_disk.specs.declared.disk.Disk.{Ghosts}
use Rattle.snd_disk.specs.declared.shelf.Shelf.{Ghosts as ShelfMeaning}
use Rattle.snd_disk.specs.Device.{Tells}
use Rattle.snd_disk.specs.Shelf.{Gives, ShelfState}
use Rattle.snd_disk.specs.State.{Adds, AtMost, State}
use Rattle.snd_inputs.proofs.Public.{asks_beside, asks_less, whole_within}
use Rattle.snd_inputs.specs.Asking.{AsksForEach, size_of}
use Rattle.snd_inputs.specs.Copying.{bytes_checked}
use Rattle.snd_inputs.specs.Looking.{AsksToLook}
use Rattle.snd_inputs.specs.Opening.{IsOpen}
use Rattle.snd_inputs.specs.declared.input.Input.{Input}
use Rattle.snd_layout.specs.Blocks.{block_align, block_frames, is_adpcm}
use Rattle.snd_layout.specs.Shape.{Shape, end}
use Rattle.snd_layout.specs.declared.codec.Codec.{Codec}
use Rattle.snd_edits.specs.Reading.{bytes_of_frames, bytes_to_read}
use Rattle.snd_output.proofs.Public.{div_sum}
use Rattle.snd_words.proofs.Runs.{drop_get}
use Rattle.snd_interleave.specs.Asking.{AsksEach, AsksFirst, AsksInput, AsksOnce, AsksWhole, asked_of, bytes_copied, bytes_from, bytes_upto, bytes_whole}
use Rattle.snd_interleave.specs.Channels.{AreMono, ReadAll, layouts_of, most_frames}
use Rattle.snd_interleave.specs.Held.{AllSuit}
use Rattle.snd_interleave.proofs.Bad.{few_frames}

-- ---- the bytes of frames

-- nothing is asked, and no more than something
asks_same : (n a b : ℕ) → b ≡ a → AtMost a n b
asks_same n a b same = record { later = omega (arith, same); most = omega (arith, same) }

-- one call more, of 16384 frames or to the end
one_turn : (frames n k : ℕ) → n < frames → (k ≡ 16384) ⊎ (frames ≤ n + k)
    → n / 16384 + (1 - min 1 (frames - n)) + 1 ≤ (n + min k (frames - n)) / 16384 + (1 - min 1 (frames - (n + min k (frames - n))))
one_turn frames n k before (inl whole) = elim (cases_lt (frames - n) 16384) [
  | inl few ↦ to_end (let e : min k (frames - n) ≡ frames - n = omega (arith, whole, few) in e)
  | inr many ↦
      let all : min k (frames - n) ≡ 16384 = omega (arith, whole, many) in
      let next : (n + min k (frames - n)) / 16384 ≡ n / 16384 + 1 = ap (λ (m : ℕ). (n + m) / 16384) all ∙ add-div_right n (omega arith) in
      omega (arith, next, before)
]
  where
    to_end : min k (frames - n) ≡ frames - n → n / 16384 + (1 - min 1 (frames - n)) + 1 ≤ (n + min k (frames - n)) / 16384 + (1 - min 1 (frames - (n + min k (frames - n))))
    to_end all = let sum = div_sum 16384 n (min k (frames - n)) in omega (arith, all, before, sum)
one_turn frames n k before (inr end) =
    let all : min k (frames - n) ≡ frames - n = omega (arith, end) in
    let sum = div_sum 16384 n (min k (frames - n)) in
    omega (arith, all, before, sum)

-- what was asked for the first frames
abbrev upto_as : Bool → ℕ → ℕ → ℕ → ℕ → ℕ
upto_as blocks per align frames m = cond blocks ((m / per + 2 * (m / 16384 + (1 - min 1 (frames - m)))) * align) (m * align)

upto_more : (blocks : Bool) (per align frames n k : ℕ) → n < frames → (blocks ≡ true → (k ≡ 16384) ⊎ (frames ≤ n + k))
    → upto_as blocks per align frames n + cond blocks ((min k (frames - n) / per + 2) * align) (min k (frames - n) * align) ≤ upto_as blocks per align frames (n + min k (frames - n))
upto_more true per align frames n k before ends =
    let c = min k (frames - n) in
    let old = n / per + 2 * (n / 16384 + (1 - min 1 (frames - n))) in
    let new = (n + c) / per + 2 * ((n + c) / 16384 + (1 - min 1 (frames - (n + c)))) in
    let turn = one_turn frames n k before (ends refl) in
    let fewer : old + (c / per + 2) ≤ new = fewer_of (n / per) (c / per) ((n + c) / per) (n / 16384 + (1 - min 1 (frames - n))) ((n + c) / 16384 + (1 - min 1 (frames - (n + c)))) (div_sum per n c) turn in
    sums old (c / per + 2) new (mul-le-mul_left align fewer)
  where
    fewer_of : (a b d x y : ℕ) → a + b ≤ d → x + 1 ≤ y → a + 2 * x + (b + 2) ≤ d + 2 * y
    fewer_of a b d x y frames turn = omega (arith, frames, turn)

    sums : (x y z : ℕ) → align * (x + y) ≤ align * z → x * align + y * align ≤ z * align
    sums x y z le = omega (arith, le)
upto_more false per align frames n k before ends = times n (min k (frames - n))
  where
    times : (x y : ℕ) → x * align + y * align ≤ (x + y) * align
    times x y = omega arith

abbrev upto_of : Shape → ℕ → ℕ
upto_of h m = upto_as (is_adpcm h.params.codec) (block_frames h.params.codec) (block_align h.params.channels h.params.codec) h.frames m

-- so that those of a run of frames and of the next are no more than those of both
upto_next : (h : Shape) (n k : ℕ) → (is_adpcm h.params.codec ≡ true → (k ≡ 16384) ⊎ (h.frames ≤ n + k)) → bytes_upto n h + bytes_from n k h ≤ bytes_upto (n + k) h
upto_next h n k ends = elim (cases_lt n h.frames) [
  | inl before ↦
      let c = min k (h.frames - n) in
      let read = bytes_to_read h.params c in
      let old : bytes_upto n h ≡ upto_of h n = ap (upto_of h) (let e : min n h.frames ≡ n = omega (arith, before) in e) in
      let here : bytes_from n k h ≡ read = ap (λ (t : Bool). cond t read 0) (lt-ltb n h.frames before) in
      let new : bytes_upto (n + k) h ≡ upto_of h (n + c) = ap (upto_of h) (let e : min (n + k) h.frames ≡ n + min k (h.frames - n) = omega (arith, before) in e) in
      three (bytes_upto n h) (bytes_from n k h) (bytes_upto (n + k) h) (upto_of h n) read (upto_of h (n + c)) old here new
      (upto_more (is_adpcm h.params.codec) (block_frames h.params.codec) (block_align h.params.channels h.params.codec) h.frames n k before ends)
  | inr past ↦
      let read = bytes_to_read h.params (min k (h.frames - n)) in
      let here : bytes_from n k h ≡ 0 = ap (λ (t : Bool). cond t read 0) (le-ltb n h.frames past) in
      let same : bytes_upto n h ≡ bytes_upto (n + k) h = ap (upto_of h) (let e : min n h.frames ≡ min (n + k) h.frames = omega (arith, past) in e) in
      none (bytes_upto n h) (bytes_from n k h) (bytes_upto (n + k) h) here same
]
  where
    three : (a b d x y z : ℕ) → a ≡ x → b ≡ y → d ≡ z → x + y ≤ z → a + b ≤ d
    three a b d x y z ax by dz le = omega (arith, ax, by, dz, le)

    none : (a b d : ℕ) → b ≡ 0 → a ≡ d → a + b ≤ d
    none a b d zero_is same = omega (arith, zero_is, same)

-- and no more than those of all
upto_all : (blocks : Bool) (per align frames m : ℕ) → m ≤ frames → upto_as blocks per align frames m ≤ cond blocks ((frames / per + 2 * (frames / (16384 / 1) + 2)) * align) (frames * align)
upto_all true per align frames m within =
    let rest : m + (frames - m) ≡ frames = omega (arith, within) in
    let fewer : m / per ≤ frames / per = omega (arith, div_sum per m (frames - m), ap (λ (i : ℕ). i / per) rest) in
    let calls : m / 16384 ≤ frames / (16384 / 1) = omega (arith, within) in
    turned (m / per + 2 * (m / 16384 + (1 - min 1 (frames - m)))) (frames / per + 2 * (frames / (16384 / 1) + 2))
    (mul-le-mul_left align (most_of (m / per) (frames / per) (m / 16384) (frames / (16384 / 1)) (1 - min 1 (frames - m)) fewer calls (omega arith)))
  where
    most_of : (a b x y e : ℕ) → a ≤ b → x ≤ y → e ≤ 1 → a + 2 * (x + e) ≤ b + 2 * (y + 2)
    most_of a b x y e fewer calls one = omega (arith, fewer, calls, one)

    turned : (x z : ℕ) → align * x ≤ align * z → x * align ≤ z * align
    turned x z le = omega (arith, le)
upto_all false per align frames m within = turned m frames (mul-le-mul_left align within)
  where
    turned : (x z : ℕ) → align * x ≤ align * z → x * align ≤ z * align
    turned x z le = omega (arith, le)

bytes_all : (h : Shape) (n : ℕ) → h.params.channels ≡ 1 → bytes_upto n h ≤ bytes_copied h
bytes_all h n mono =
    let align = block_align h.params.channels h.params.codec in
    let per = block_frames h.params.codec in
    subst (λ (c : ℕ). bytes_upto n h ≤ cond (is_adpcm h.params.codec) ((h.frames / per + 2 * (h.frames / (16384 / c) + 2)) * align) (h.frames * align)) (sym mono)
    (upto_all (is_adpcm h.params.codec) per align h.frames (min n h.frames) (let e : min n h.frames ≤ h.frames = omega arith in e))

-- what an input is asked for that is read from a frame on
pub asks_here : (h : Shape) (place most count a b : ℕ) → place < h.frames → count ≡ min most (h.frames - place) → AtMost a (bytes_to_read h.params count) b → AtMost a (bytes_from place most h) b
asks_here h place most count a b before is asked =
    let same : bytes_to_read h.params count ≡ bytes_from place most h =
    ap (bytes_to_read h.params) is ∙ sym (ap (λ (t : Bool). cond t (bytes_to_read h.params (min most (h.frames - place))) 0) (lt-ltb place h.frames before)) in
    subst (λ (m : ℕ). AtMost a m b) same asked

-- .. where it has no blocks
pub asks_plain : (h : Shape) (place most count a b : ℕ) → is_adpcm h.params.codec ≡ false → place < h.frames → count ≡ min most (h.frames - place) → AtMost a (bytes_of_frames h.params count) b → AtMost a (bytes_from place most h) b
asks_plain h place most count a b plain before is asked =
    let per = block_align h.params.channels h.params.codec in
    let same : bytes_of_frames h.params count ≡ bytes_to_read h.params count = sym (ap (λ (t : Bool). cond t ((count / block_frames h.params.codec + 2) * per) (count * per)) plain) in
    asks_here h place most count a b before is (subst (λ (m : ℕ). AtMost a m b) same asked)

-- a block is whole, or ends where the frames do
pub ends_at : (frames n most count : ℕ) → most ≡ 16384 → count ≡ min (frames - n) most → n ≤ frames → (count ≡ 16384) ⊎ (frames ≤ n + count)
ends_at frames n most count whole is within = elim (cases_lt (frames - n) 16384) [ inl few ↦ inr (omega (arith, whole, is, few, within)) | inr many ↦ inl (omega (arith, whole, is, many)) ]

-- ---- several inputs

-- each block is whole where some have blocks, or ends where the frames do
pub ends_of : {D : Type 0} {ghosts : Ghosts D} (Suits : Codec → Codec → Type 0) (codec : Codec) (frames n most count : ℕ) (xs : List (Input D ghosts)) → AllSuit Suits codec xs → ((own : Codec) → Suits codec own → is_adpcm own ≡ true → most ≡ 16384)
    → frames ≡ most_frames (layouts_of xs) → count ≡ min (frames - n) most → n ≤ frames → (k : ℕ) (d : Input D ghosts) → k < length xs → is_adpcm (get_or xs k d).layout.params.codec ≡ true
    → (count ≡ 16384) ⊎ ((get_or xs k d).layout.frames ≤ n + count)
ends_of Suits codec frames n most count xs suit whole all is within k d lt blocks =
    ⊎_elim (λ same. inl same) (λ end. inr (let few = few_frames xs k d lt in omega (arith, few, all, end)))
    (ends_at frames n most count (whole (get_or xs k d).layout.params.codec (suit.each k d lt) blocks) is within)

module _ {D : Type 0} {ghosts : Ghosts D} (state : D → State) where
  same_asked : (xs : List (Input D ghosts)) (k : ℕ) (d d' : Input D ghosts) → k < length xs → asked_of state (get_or xs k d') ≡ asked_of state (get_or xs k d)
  same_asked xs k d d' lt = ap (asked_of state) (get_or_default xs k d' d lt)

  -- none is asked for anything
  pub each_none : (most : Shape → ℕ) (xs : List (Input D ghosts)) → AsksEach state most xs xs
  each_none most xs k d d' lt = asks_same _ _ _ (same_asked xs k d d' lt)

  pub first_none : (most : Shape → ℕ) (xs : List (Input D ghosts)) → AsksFirst state 0 most xs xs
  first_none most xs = record { first = λ k d d' lt below. absurd (omega (arith, below)); others = λ k d d' lt le. same_asked xs k d d' lt }

  -- the next one is
  module _ (most : Shape → ℕ) (xs ys : List (Input D ghosts)) (i : ℕ) (x y : Input D ghosts) (within : i < length ys) (is : x ≡ get_or ys i x) (reads : ReadAll ghosts xs ys) (asks : AsksInput state most x y) where
    cases_same : (a b : ℕ) → (a ≡ b) ⊎ (a ≡ b → ⊥)
    cases_same a b = elim (cases_lt a b) [
      | inl lt ↦ inr (λ same. absurd (omega (arith, lt, same)))
      | inr le ↦ elim (cases_lt b a) [ inl gt ↦ inr (λ same. absurd (omega (arith, gt, same))) | inr ge ↦ inl (omega (arith, le, ge)) ]
    ]

    at_place : (k : ℕ) (d d' : Input D ghosts) → k < length xs → k ≡ i → asked_of state (get_or ys k x) ≡ asked_of state (get_or xs k d) → AsksInput state most (get_or xs k d) (get_or (set ys i y) k d')
    at_place k d d' lt here unasked =
        let was : x ≡ get_or ys k x = is ∙ ap (λ (n : ℕ). get_or ys n x) (sym here) in
        let laid : x.layout ≡ (get_or xs k d).layout = ap (λ (z : Input D ghosts). z.layout) was ∙ (reads.each k d x lt).layout in
        let began : asked_of state x ≡ asked_of state (get_or xs k d) = ap (asked_of state) was ∙ unasked in
        subst (λ (z : Input D ghosts). AsksInput state most (get_or xs k d) z) (sym (get_or-set_at ys i k y d' here within))
        (subst (λ (n : ℕ). AtMost n (most (get_or xs k d).layout) (asked_of state y)) began
        (subst (λ (h : Shape). AtMost (asked_of state x) (most h) (asked_of state y)) laid asks))

    pub first_more : AsksFirst state i most xs ys → AsksFirst state (i + 1) most xs (set ys i y)
    first_more before = record {
      first = λ k d d' lt below. elim (cases_same k i) [
        | inl here ↦ at_place k d d' lt here (before.others k d x lt (omega (arith, here)))
        | inr other ↦
            subst (λ (z : Input D ghosts). AsksInput state most (get_or xs k d) z) (sym (get_or-set_other ys i k y d' other)) (before.first k d d' lt (less k i below other))
      ];
      others = λ k d d' lt le. ap (asked_of state) (get_or-set_other ys i k y d' (λ same. absurd (omega (arith, le, same)))) ∙ before.others k d d' lt (omega (arith, le));
    }
      where
        less : (k i : ℕ) → k < i + 1 → (k ≡ i → ⊥) → k < i
        less k i below other = elim (cases_lt k i) [ inl lt ↦ lt | inr le ↦ absurd (other (omega (arith, below, le))) ]

  pub first_each : (count : ℕ) (most : Shape → ℕ) (xs ys : List (Input D ghosts)) → AsksFirst state count most xs ys → AsksEach state most xs ys
  first_each count most xs ys asks k d d' lt = elim (cases_lt k count) [
    | inl below ↦ asks.first k d d' lt below
    | inr le ↦ asks_same _ _ _ (asks.others k d d' lt le)
  ]

  -- a run of frames, and the next
  pub each_next : (n m : ℕ) (xs ys zs : List (Input D ghosts)) → ReadAll ghosts xs ys
      → ((k : ℕ) (d : Input D ghosts) → k < length xs → is_adpcm (get_or xs k d).layout.params.codec ≡ true → (m ≡ 16384) ⊎ ((get_or xs k d).layout.frames ≤ n + m))
      → AsksEach state (bytes_upto n) xs ys → AsksEach state (bytes_from n m) ys zs → AsksEach state (bytes_upto (n + m)) xs zs
  each_next n m xs ys zs reads ends before next k d d' lt =
      let one = before k d d lt in
      let two = next k d d' (omega (arith, lt, reads.count)) in
      let h = (get_or xs k d).layout in
      let more : bytes_from n m (get_or ys k d).layout ≡ bytes_from n m h = ap (bytes_from n m) (reads.each k d d lt).layout in
      let both = upto_next h n m (ends k d lt) in
      chained (bytes_upto n h) (bytes_from n m (get_or ys k d).layout) (bytes_from n m h) (bytes_upto (n + m) h) _ _ _ more both one two
    where
      chained : (f g g' s a b c : ℕ) → g ≡ g' → f + g' ≤ s → AtMost a f b → AtMost b g c → AtMost a s c
      chained f g g' s a b c e le one two = record { later = omega (arith, one.later, two.later); most = omega (arith, e, le, one.most, two.most) }

  -- and what comes to no more than all
  pub each_once : (n : ℕ) (xs ys : List (Input D ghosts)) → AreMono xs → AsksEach state (bytes_upto n) xs ys → AsksOnce state xs ys
  each_once n xs ys mono asks k d d' lt = asks_less _ _ _ _ (bytes_all (get_or xs k d).layout n (mono k d lt)) (asks k d d' lt)

  -- their blocks are checked, and then they are read
  pub checked_only : (xs ys : List (Input D ghosts)) → AsksEach state bytes_checked xs ys → AsksWhole state xs ys
  checked_only xs ys asks k d d' lt = asks_less _ _ _ _ (some_of (bytes_checked (get_or xs k d).layout) (bytes_copied (get_or xs k d).layout)) (asks k d d' lt)
    where
      some_of : (a b : ℕ) → a ≤ a + b
      some_of a b = omega arith

  pub checked_then : (xs ys zs : List (Input D ghosts)) → ReadAll ghosts xs ys → AsksEach state bytes_checked xs ys → AsksOnce state ys zs → AsksWhole state xs zs
  checked_then xs ys zs reads before next k d d' lt =
      let one = before k d d lt in
      let two = next k d d' (omega (arith, lt, reads.count)) in
      let same : bytes_copied (get_or ys k d).layout ≡ bytes_copied (get_or xs k d).layout = ap bytes_copied (reads.each k d d lt).layout in
      chained (bytes_checked (get_or xs k d).layout) (bytes_copied (get_or ys k d).layout) (bytes_copied (get_or xs k d).layout) _ _ _ same one two
    where
      chained : (f g g' a b c : ℕ) → g ≡ g' → AtMost a f b → AtMost b g c → AtMost a (f + g') c
      chained f g g' a b c e one two = record { later = omega (arith, one.later, two.later); most = omega (arith, e, one.most, two.most) }

  -- those before the last one, and the last; of lists that are these
  module _ (xs ys : List (Input D ghosts)) (x y : Input D ghosts) (old new : List (Input D ghosts)) (old_is : old ≡ xs ++ x ∷ []) (new_is : new ≡ ys ++ y ∷ []) (reads : ReadAll ghosts old new) (asks : AsksWhole state old new) where
    so : AsksWhole state (xs ++ x ∷ []) (ys ++ y ∷ [])
    so = subst (λ (l : List (Input D ghosts)). AsksWhole state l (ys ++ y ∷ [])) old_is (subst (λ (l : List (Input D ghosts)). AsksWhole state old l) new_is asks)

    count : length ys ≡ length xs
    count = omega (arith, reads.count, ap length old_is, ap length new_is, length-append xs (x ∷ []), length-append ys (y ∷ []))

    pub once_front : AsksWhole state xs ys
    once_front k d d' lt =
        subst (λ (z : Input D ghosts). AsksInput state bytes_whole z (get_or ys k d')) (get_or_append_left xs (x ∷ []) d k lt)
        (subst (λ (z : Input D ghosts). AsksInput state bytes_whole (get_or (xs ++ x ∷ []) k d) z) (get_or_append_left ys (y ∷ []) d' k (omega (arith, lt, count)))
        (so k d d' (omega (arith, lt, length-append xs (x ∷ [])))))

    pub once_last : AsksInput state bytes_whole x y
    once_last =
        subst (λ (z : Input D ghosts). AsksInput state bytes_whole z y) (get_or_at xs x [] x (length xs) refl)
        (subst (λ (z : Input D ghosts). AsksInput state bytes_whole (get_or (xs ++ x ∷ []) (length xs) x) z) (get_or_at ys y [] y (length xs) count)
        (so (length xs) x y (omega (arith, length-append xs (x ∷ [])))))

-- ---- the shelf

module _ {S : Type 0} (state : S → ShelfState) (names : List (List ℕ)) (at : ℕ) (name : List ℕ) (there : slice_get names at ≡ Some name) (old new : S) where
  -- a name, and those behind it
  pub rest_is : AsksForEach 1 16384 state (name ∷ drop (at + 1) names) old new → AsksForEach 1 16384 state (drop at names) old new
  rest_is asks = subst (λ (l : List (List ℕ)). AsksForEach 1 16384 state l old new) (sym (drop_get names at name there)) asks

  -- the file of the one was only looked at
  pub rest_looks : AsksToLook 1 (state old) (state new) → AsksForEach 1 16384 state (drop at names) old new
  rest_looks looks = rest_is (λ files told. asks_less _ _ _ _ (omega arith) looks)

-- .. or it was open while the others were read, and is given back
module _ {S D : Type 0} (s : ShelfMeaning S D) (d : Ghosts D) (old mid mid' new : S) (input : Input D d) (name : List ℕ) (opens : IsOpen s d name old mid input) (others : List (List ℕ)) where
  pub rest_held : ((b : List ℕ) → Tells d.state input.disk b → (d.state input.disk).size ≡ length b) → (read : Input D d) → AsksInput d.state bytes_whole input read → AsksForEach 1 16384 s.state others mid mid'
      → Gives (s.state mid') (s.state new) name (d.state read.disk) → AsksForEach 1 16384 s.state (name ∷ others) old new
  rest_held told_size read asks rest gives files told =
      let found = opens.opened files told in
      let h = input.layout in
      let size : (d.state input.disk).size ≡ length found.0 = told_size found.0 found.3.bytes in
      let bytes : size_of (files name) ≡ size_of (Some found.0) = ap size_of found.1 in
      let within : end h h.frames ≤ length found.0 = omega (arith, input.held, size) in
      let frames : bytes_whole h ≤ size_of (Some found.0) = whole_within found.0 h input.fits input.good within found.2 in
      let nothing : Adds (s.state mid').asked 0 (s.state mid').asked = record { later = omega arith; most = omega arith; least = inl (omega arith) } in
      let beside = asks_beside s.state 1 16384 others name old mid mid' mid' 0 opens.out.takes.files opens.out.bytes.asked rest refl nothing files told in
      record { later = omega (arith, beside.later, gives.asked.later); most = omega (arith, beside.most, gives.asked.most, asks.most, opens.asked, frames, bytes) }
