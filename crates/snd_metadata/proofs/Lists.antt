-- Lists of which some elements are kept, in which one is found, and into which one is put.
use Rattle.std.proofs.Common.{◌≡◌, ◌∙◌, ap, sym, refl, inl, inr, ℕ, ◌+◌, ◌<◌, ◌≤◌, ◌||◌, Bool, true, false, cond, List, [], ◌∷◌, ◌++◌, All, Some, length, take, drop, arith}
use Rattle.std.proofs.lemmas.Bool.{cases_Bool, cases_lt}
use Rattle.std.proofs.lemmas.List.{append-nil, drop-map, drop_all, drop_more, map-append, places, same_lists, set_split, take-map, take_more}
use Rattle.std.proofs.lemmas.List.Elements.{All-append, All-cons, All-drop, All-take, filter-append}
use Rattle.std.proofs.lemmas.List.Folds.{list_any_at, list_any_more}
use Rattle.std.proofs.lemmas.List.Sums.{sum_by-append, sum_by-cons, sum_by-drop_more, sum_by-take-drop}
use Rattle.std.proofs.lemmas.Option.{get_or_from_slice_get, slice_get_within}
use Rattle.std.specs.List.{filter, list_any, position_or_len, sum_by}
use Rattle.std.specs.Prelude.{map, not, set, slice_get, suc}
use Rattle.snd_metadata.specs.Planned.{put_in}

-- one more behind others that are fewer than n, and one behind n
take_room : {A : Type 0} (n : ℕ) (xs : List A) (x : A) → length (take n xs) < n → take n (xs ++ x ∷ []) ≡ take n xs ++ x ∷ []
take_room n xs x few = same_lists _ _ (grind (arith, places)) (λ k d lt. grind (arith, places))

take_full : {A : Type 0} (n : ℕ) (xs ys : List A) → n ≤ length (take n xs) → take n (xs ++ ys) ≡ take n xs
take_full n xs ys full = same_lists _ _ (grind (arith, places)) (λ k d lt. grind (arith, places))

module _ {A : Type 0} (test : A → Bool) (n : ℕ) where
  filter_one : (x : A) → test x ≡ true → filter test (x ∷ []) ≡ x ∷ []
  filter_one x is = rw is refl

  filter_none : (x : A) → test x ≡ false → filter test (x ∷ []) ≡ []
  filter_none x is = rw is refl

  module _ (xs : List A) (i : ℕ) (x : A) (there : slice_get xs i ≡ Some x) where
    next : filter test (take (i + 1) xs) ≡ filter test (take i xs) ++ filter test (x ∷ [])
    next =
        ap (filter test) (take_more xs i x (slice_get_within xs i x there) ∙ ap (λ (y : A). take i xs ++ y ∷ []) (get_or_from_slice_get xs i x x there))
        ∙ filter-append test (take i xs) (x ∷ [])

    -- the first n that pass, of a list up to one more
    pub kept_more : test x ≡ true → length (take n (filter test (take i xs))) < n → take n (filter test (take (i + 1) xs)) ≡ take n (filter test (take i xs)) ++ x ∷ []
    kept_more is few = ap (take n) (next ∙ ap (λ (l : List A). filter test (take i xs) ++ l) (filter_one x is)) ∙ take_room n (filter test (take i xs)) x few

    pub kept_other : test x ≡ false → take n (filter test (take (i + 1) xs)) ≡ take n (filter test (take i xs))
    kept_other is = ap (take n) (next ∙ ap (λ (l : List A). filter test (take i xs) ++ l) (filter_none x is) ∙ append-nil (filter test (take i xs)))

    pub kept_full : n ≤ length (take n (filter test (take i xs))) → take n (filter test (take (i + 1) xs)) ≡ take n (filter test (take i xs))
    kept_full full = ap (take n) next ∙ take_full n (filter test (take i xs)) (filter test (x ∷ [])) full

pub few_in : {A : Type 0} (n : ℕ) (xs : List A) → length (take n xs) ≤ n
few_in n xs = grind (arith, places)

-- ---- a list into which one is put

pub map_put : {A B : Type 0} (f : A → B) (at : ℕ) (x : A) (xs : List A) → map f (put_in at x xs) ≡ put_in at (f x) (map f xs)
map_put f at x xs =
    map-append f (take at xs) (x ∷ drop (at + 1) xs)
    ∙ ap (λ l. l ++ f x ∷ map f (drop (at + 1) xs)) (sym (take-map f at xs)) ∙ ap (λ l. take at (map f xs) ++ f x ∷ l) (sym (drop-map f (at + 1) xs))

-- .. as a store gives it
pub put_split : {A : Type 0} (at : ℕ) (x : A) (xs : List A) → at < length xs → set xs at x ≡ put_in at x xs
put_split at x xs within = let one : suc at ≡ at + 1 = omega arith in set_split xs at x within ∙ ap (λ n. take at xs ++ x ∷ drop n xs) one

pub all_put : {A : Type 0} (P : A → Type 0) (at : ℕ) (x : A) (xs : List A) → All P xs → P x → All P (put_in at x xs)
all_put P at x xs all is = All-append P (take at xs) (x ∷ drop (at + 1) xs) (All-take P at xs all) (All-cons P x (drop (at + 1) xs) is (All-drop P (at + 1) xs all))

-- no more is summed up than before, and for that one
pub sum_put : {A : Type 0} (f : A → ℕ) (at : ℕ) (x : A) (xs : List A) → sum_by f (put_in at x xs) ≤ sum_by f xs + f x
sum_put f at x xs = omega (arith, sum_by-append f (take at xs) (x ∷ drop (at + 1) xs), sum_by-cons f x (drop (at + 1) xs), sum_by-take-drop f xs at, behind)
  where
    behind : sum_by f (drop (at + 1) xs) ≤ sum_by f (drop at xs)
    behind = elim (cases_lt at (length xs)) [
      | inl lt ↦ omega (arith, sum_by-drop_more f xs at x lt)
      | inr le ↦ omega (arith, ap (sum_by f) (drop_all (at + 1) xs (omega (arith, le))))
    ]

-- the place of the first that passes does not hang on what the others are made of
pub place_in_map : {A B : Type 0} (f : A → B) (p : B → Bool) (q : A → Bool) (xs : List A) → ((x : A) → p (f x) ≡ q x) → position_or_len p (map f xs) ≡ position_or_len q xs
place_in_map f p q [] same = refl
place_in_map f p q (x ∷ xs) same = rw (same x) (ap (λ (n : ℕ). cond (not (q x)) (1 + n) 0) (place_in_map f p q xs same))

-- ---- one element of a list

module _ {A : Type 0} (xs : List A) (i : ℕ) (x : A) (there : slice_get xs i ≡ Some x) where
  pub any_more : (p : A → Bool) → list_any p (take (i + 1) xs) ≡ (list_any p (take i xs) || p x)
  any_more p = list_any_more p xs i x (slice_get_within xs i x there) ∙ ap (λ (y : A). list_any p (take i xs) || p y) (get_or_from_slice_get xs i x x there)

  pub drop_here : drop i xs ≡ x ∷ drop (i + 1) xs
  drop_here = drop_more xs i x (slice_get_within xs i x there) ∙ ap (λ (y : A). y ∷ drop (i + 1) xs) (get_or_from_slice_get xs i x x there)

  -- no element passes
  pub not_this : (p : A → Bool) → list_any p xs ≡ false → p x ≡ false
  not_this p none = elim (cases_Bool (p x)) [
    | inl is ↦ absurd (let e : true ≡ false = sym (list_any_at p xs i x (slice_get_within xs i x there) (ap p (get_or_from_slice_get xs i x x there) ∙ is)) ∙ none in cc)
    | inr other ↦ other
  ]

-- a search that has come to a place ends there, or goes on
module _ {A : Type 0} (p : A → Bool) (xs : List A) (i : ℕ) (x : A) (front : drop i xs ≡ x ∷ drop (i + 1) xs) where
  pub place_here : p x ≡ true → position_or_len p (drop i xs) ≡ 0
  place_here is = ap (position_or_len p) front ∙ ap (λ (t : Bool). cond (not t) (1 + position_or_len p (drop (i + 1) xs)) 0) is

  pub place_past : p x ≡ false → position_or_len p (drop i xs) ≡ 1 + position_or_len p (drop (i + 1) xs)
  place_past is = ap (position_or_len p) front ∙ ap (λ (t : Bool). cond (not t) (1 + position_or_len p (drop (i + 1) xs)) 0) is

-- .. in what a list is made into
pub map_here : {A B : Type 0} (f : A → B) (xs : List A) (i : ℕ) (x : A) → drop i xs ≡ x ∷ drop (i + 1) xs → drop i (map f xs) ≡ f x ∷ drop (i + 1) (map f xs)
map_here f xs i x front = drop-map f i xs ∙ ap (λ l. map f l) front ∙ ap (λ l. f x ∷ l) (sym (drop-map f (i + 1) xs))
