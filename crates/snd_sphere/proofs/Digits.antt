-- The lowest decimal digits of a number.
use Rattle.std.proofs.Common.{◌≡◌, ℕ, zero, suc, ◌+◌, ◌-◌, ◌*◌, ◌/◌, ◌%◌, ◌<◌, ◌≤◌, ◌^◌, true, false, ◌&&◌, List, [], ◌∷◌, ◌++◌, All, Option, Some, refl, ap, ◌∙◌, inl, inr, length, map, arith, None}
use Rattle.std.proofs.lemmas.Bool.{and_parts, cases_Bool, leb-true, le-leb, lt-ltb, ne_eqb}
use Rattle.std.proofs.lemmas.Int.Digits.{number_lt, number_push}
use Rattle.std.proofs.lemmas.List.{length-append, length-map, map-append}
use Rattle.std.proofs.lemmas.List.Elements.{All-append, All-cons, All-nil}
use Rattle.std.specs.Int.Digits.{AllBelowBase, number_from_digits}
use Rattle.std.specs.List.{list_all}
use Rattle.std.specs.Prelude.{nat_le, nat_lt}
use Rattle.snd_fields.specs.Decimal.{decimal, digits_number, is_decimal, is_digit}
use Rattle.snd_fields.specs.Laws.{IsByte}
use Rattle.snd_sphere.specs.Lines.{at_most, number_text}
use Rattle.snd_sphere.specs.Values.{lowest_digits}
use Rattle.snd_sphere.proofs.Splits.{NoFeed, no_feed_append, no_feed_cons}

digit_least : (n : ℕ) → 48 ≤ 48 + n % 10
digit_least n = omega arith

digit_most : (n : ℕ) → 48 + n % 10 ≤ 57
digit_most n = omega arith

pub length-lowest : (k n : ℕ) → length (lowest_digits k n) ≡ k
length-lowest zero n = refl
length-lowest (suc k) n = omega (arith, length-append (lowest_digits k (n / 10)) ((48 + n % 10) ∷ []), length-lowest k (n / 10))

all_append : (s t : List ℕ) → list_all is_digit s ≡ true → list_all is_digit t ≡ true → list_all is_digit (s ++ t) ≡ true
all_append [] t one two = two
all_append (c ∷ s) t one two = elim (cases_Bool (is_digit c)) [
  | inl is ↦ rw is (all_append s t (rw is at one) two)
  | inr other ↦ absurd (let h : false ≡ true = rw other at one in cc)
]

pub are_digits : (k n : ℕ) → list_all is_digit (lowest_digits k n) ≡ true
are_digits zero n = refl
are_digits (suc k) n =
    let least : nat_le 48 (48 + n % 10) ≡ true = le-leb 48 (48 + n % 10) (digit_least n) in
    let most : nat_le (48 + n % 10) 57 ≡ true = le-leb (48 + n % 10) 57 (digit_most n) in
    all_append (lowest_digits k (n / 10)) ((48 + n % 10) ∷ []) (are_digits k (n / 10)) (rw (least, most) refl)

pub are_bytes : (k n : ℕ) → All IsByte (lowest_digits k n)
are_bytes zero n = All-nil IsByte
are_bytes (suc k) n = All-append IsByte (lowest_digits k (n / 10)) ((48 + n % 10) ∷ []) (are_bytes k (n / 10)) (All-cons IsByte (48 + n % 10) [] (omega (arith, digit_most n)) (All-nil IsByte))

pub no_feeds : (k n : ℕ) → NoFeed (lowest_digits k n)
no_feeds zero n = refl
no_feeds (suc k) n =
    no_feed_append (lowest_digits k (n / 10)) ((48 + n % 10) ∷ []) (no_feeds k (n / 10)) (no_feed_cons (48 + n % 10) [] (ne_eqb (48 + n % 10) 10 (λ is. omega (arith, is, digit_least n))) refl)

below : (n p : ℕ) → n < 10 * p → n / 10 < p
below n p lt = omega (arith, lt)

pub number_is : (k n : ℕ) → n < 10 ^ k → digits_number (lowest_digits k n) ≡ n
number_is zero n lt = omega (arith, lt)
number_is (suc k) n lt =
    let few : n / 10 < 10 ^ k = below n (10 ^ k) (omega (arith, lt)) in
    let mapped : map (λ c. c - 48) (lowest_digits k (n / 10) ++ (48 + n % 10) ∷ []) ≡ map (λ c. c - 48) (lowest_digits k (n / 10)) ++ (48 + n % 10 - 48) ∷ [] = map-append (λ c. c - 48) (lowest_digits k (n / 10)) ((48 + n % 10) ∷ []) in
    ap (number_from_digits 10) mapped ∙ number_push 10 (map (λ c. c - 48) (lowest_digits k (n / 10))) (48 + n % 10 - 48)
    ∙ omega (arith, number_is k (n / 10) few)

-- what they say, where they are 1 to 18
pub said : (k n : ℕ) → 1 ≤ k → k ≤ 18 → n < 10 ^ k → n < 2 ^ 63 → number_text (2 ^ 63 - 1) (lowest_digits k n) ≡ Some n
said k n some few fits near =
    let size = length-lowest k n in
    let number = number_is k n fits in
    let least : nat_le 1 k ≡ true = le-leb 1 k some in
    let most : nat_le k 19 ≡ true = le-leb k 19 (omega (arith, few)) in
    let digits : nat_le k 18 ≡ true = le-leb k 18 few in
    let small : nat_lt n (2 ^ 63) ≡ true = lt-ltb n (2 ^ 63) near in
    let under : nat_le n (2 ^ 63 - 1) ≡ true = le-leb n (2 ^ 63 - 1) (omega (arith, near)) in
    let all = are_digits k n in
    rw (size, digits, least, most, all, number, small, under) refl

-- ---- what a text says that is read

at_most_is : (most n : ℕ) (o : Option ℕ) → at_most most o ≡ Some n → o ≡ Some n
at_most_is most n None told = absurd (cc)
at_most_is most n (Some m) told = elim (cases_Bool (nat_le m most)) [
  | inl is ↦ rw is at told
  | inr other ↦ absurd (let e : None ≡ Some n = rw other at told in cc)
]

all_below : (ds : List ℕ) → list_all is_digit ds ≡ true → AllBelowBase 10 (map (λ c. c - 48) ds)
all_below [] all = tt
all_below (c ∷ ds) all =
    let parts = and_parts (is_digit c) (list_all is_digit ds) all in
    let range = and_parts (nat_le 48 c) (nat_le c 57) parts.0 in
    (omega (arith, leb-true c 57 range.1), all_below ds parts.1)

pub text_facts : (most : ℕ) (ds : List ℕ) (n : ℕ) → number_text most ds ≡ Some n → (1 ≤ length ds) × (length ds ≤ 18) × (n < 10 ^ length ds)
text_facts most ds n told = elim (cases_Bool (nat_le (length ds) 18)) [
  | inl few ↦
      let read : decimal ds ≡ Some n = at_most_is most n (decimal ds) (rw few at told) in
      elim (cases_Bool (is_decimal ds)) [
        | inl is ↦
            let value : Some (digits_number ds) ≡ Some n = rw is at read in
            let number : digits_number ds ≡ n = cc in
            let first = and_parts (nat_le 1 (length ds) && nat_le (length ds) 19 && list_all is_digit ds) (nat_lt (digits_number ds) (2 ^ 63)) is in
            let second = and_parts (nat_le 1 (length ds) && nat_le (length ds) 19) (list_all is_digit ds) first.0 in
            let third = and_parts (nat_le 1 (length ds)) (nat_le (length ds) 19) second.0 in
            let small : digits_number ds < 10 ^ length (map (λ c. c - 48) ds) = number_lt 10 (map (λ c. c - 48) ds) (all_below ds second.1) in
            (leb-true 1 (length ds) third.0, leb-true (length ds) 18 few, rw number at (rw (length-map ds (λ c. c - 48)) at small))
        | inr other ↦ absurd (let e : None ≡ Some n = rw other at read in cc)
      ]
  | inr other ↦ absurd (let e : None ≡ Some n = rw other at told in cc)
]
