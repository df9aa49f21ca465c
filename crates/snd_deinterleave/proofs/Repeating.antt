-- Names that stand twice, and names that do not.
use Rattle.std.proofs.Common.{◌≡◌, ◌∙◌, ap, sym, refl, inl, inr, ℕ, zero, suc, ◌+◌, ◌-◌, ◌<◌, ◌≤◌, Bool, true, false, cond, ◌||◌, Option, None, Some, List, [], ◌∷◌, ◌++◌, length, take, get_or, find, slice_get, option_map, unwrap_or, arith}
use Rattle.std.proofs.lemmas.Bool.{cases_Bool, cases_lt}
use Rattle.std.proofs.lemmas.List.Folds.{list_any-append}
use Rattle.std.proofs.lemmas.Option.{get_or_from_slice_get, slice_get-get_or, slice_get_within}
use Rattle.std.specs.List.{list_any, range_with_len}
use Rattle.std.specs.Str.{bytes_eq}
use Rattle.snd_disk.proofs.Public.{same_bytes, same_name}
use Rattle.snd_tools.proofs.Public.{apart_back}
use Rattle.snd_deinterleave.specs.Among.{is_among}
use Rattle.snd_deinterleave.specs.Deinterleave.{first_same, is_same_at}
use Rattle.snd_deinterleave.specs.Making.{AreApart, AreApartNames}

pub or_none : (a b : Bool) → (a || b) ≡ false → (a ≡ false) × (b ≡ false)
or_none true b is = absurd (cc)
or_none false b is = (refl, is)

-- ---- names among some

-- one name more
pub among_more : (xs : List (List ℕ)) (name n : List ℕ) → is_among (xs ++ name ∷ []) n ≡ false → (is_among xs n ≡ false) × (bytes_eq n name ≡ false)
among_more xs name n none =
    let both = or_none (is_among xs n) (bytes_eq n name || false) (sym (list_any-append (bytes_eq n) xs (name ∷ [])) ∙ none) in
    (both.0, (or_none (bytes_eq n name) false both.1).0)

pub among_last : (xs : List (List ℕ)) (name : List ℕ) → is_among (xs ++ name ∷ []) name ≡ true
among_last [] name = ap (λ (t : Bool). t || false) (same_bytes name)
among_last (x ∷ xs) name = ap (λ (t : Bool). bytes_eq name x || t) (among_last xs name) ∙ or_true (bytes_eq name x)
  where
    or_true : (t : Bool) → (t || true) ≡ true
    or_true true = refl
    or_true false = refl

pub among_front : (xs : List (List ℕ)) (name n : List ℕ) → is_among xs n ≡ true → is_among (xs ++ name ∷ []) n ≡ true
among_front xs name n is =
    list_any-append (bytes_eq n) xs (name ∷ []) ∙ ap (λ (t : Bool). t || (bytes_eq n name || false)) is

-- a name that is not among some is none of them
pub not_among : (xs : List (List ℕ)) (name n : List ℕ) → is_among xs name ≡ false → is_among xs n ≡ true → bytes_eq n name ≡ false
not_among xs name n none is = elim (cases_Bool (bytes_eq n name)) [
  | inl same ↦ absurd (let e : true ≡ false = sym is ∙ ap (is_among xs) (same_name n name same) ∙ none in cc)
  | inr other ↦ other
]

pub other_than : (xs : List (List ℕ)) (name n : List ℕ) → is_among xs name ≡ true → is_among xs n ≡ false → bytes_eq n name ≡ false
other_than xs name n is none = elim (cases_Bool (bytes_eq n name)) [
  | inl same ↦ absurd (let e : true ≡ false = sym is ∙ ap (is_among xs) (sym (same_name n name same)) ∙ none in cc)
  | inr other ↦ other
]

-- ---- the first that stands twice

-- none is found where the test fails
none_found : (test : ℕ → Bool) (at n k : ℕ) → find test (range_with_len at n) ≡ None → at ≤ k → k < at + n → test k ≡ false
none_found test at zero k none from below = absurd (omega (arith, from, below))
none_found test at (suc n) k none from below = elim (cases_Bool (test at)) [
  | inl here ↦ absurd (let e : Some at ≡ None = sym (ap (λ (t : Bool). cond t (Some at) (find test (range_with_len (at + 1) n))) here) ∙ none in cc)
  | inr other ↦ elim (cases_lt at k) [
    | inl behind ↦ none_found test (at + 1) n k (sym (ap (λ (t : Bool). cond t (Some at) (find test (range_with_len (at + 1) n))) other) ∙ none) (omega (arith, behind)) (omega (arith, below))
    | inr le ↦ let same : at ≡ k = omega (arith, from, le) in sym (ap test same) ∙ other
  ]
]

-- what is found is one of the numbers
found_within : (test : ℕ → Bool) (at n k : ℕ) → find test (range_with_len at n) ≡ Some k → k < at + n
found_within test at zero k found = absurd (cc)
found_within test at (suc n) k found = elim (cases_Bool (test at)) [
  | inl here ↦
      let same : Some at ≡ Some k = sym (ap (λ (t : Bool). cond t (Some at) (find test (range_with_len (at + 1) n))) here) ∙ found in
      let is : at ≡ k = cc in omega (arith, is)
  | inr other ↦
      let later = found_within test (at + 1) n k (sym (ap (λ (t : Bool). cond t (Some at) (find test (range_with_len (at + 1) n))) other) ∙ found) in
      omega (arith, later)
]

module _ (input : List ℕ) (outputs : List (List ℕ)) where
  pub same_within : (at : ℕ) → first_same input outputs ≡ Some at → at < length outputs
  unfolding first_same
  same_within at found = let below = found_within (is_same_at input outputs) 0 (length outputs) at found in omega (arith, below)

  -- what is asked of a place, by the name there
  pub same_at : (at : ℕ) (name : List ℕ) → slice_get outputs at ≡ Some name → is_same_at input outputs at ≡ list_any (bytes_eq name) (input ∷ take at outputs)
  same_at at name there = ap (λ (n : List ℕ). list_any (bytes_eq n) (input ∷ take at outputs)) (get_or_from_slice_get outputs at name [] there)

  -- all places
  pub from_first : find (is_same_at input outputs) (range_with_len 0 (length outputs - 0)) ≡ first_same input outputs
  unfolding first_same
  from_first = ap (λ (n : ℕ). find (is_same_at input outputs) (range_with_len 0 n)) (let e : length outputs - 0 ≡ length outputs = omega arith in e)

  -- where there is none, the names are apart
  pub all_apart : first_same input outputs ≡ None → AreApart input outputs
  unfolding first_same
  all_apart none at lt = none_found (is_same_at input outputs) 0 (length outputs) at none (omega arith) (omega (arith, lt))

  pub names_apart : AreApart input outputs → AreApartNames outputs
  names_apart apart at lt = (or_none (bytes_eq (get_or outputs at []) input) (is_among (take at outputs) (get_or outputs at [])) (apart at lt)).1

  pub input_apart : AreApart input outputs → is_among outputs input ≡ false
  input_apart apart = none_is outputs (λ at lt. apart_back (get_or outputs at []) input (or_none (bytes_eq (get_or outputs at []) input) (is_among (take at outputs) (get_or outputs at [])) (apart at lt)).0)
    where
      none_is : (xs : List (List ℕ)) → ((at : ℕ) → at < length xs → bytes_eq input (get_or xs at []) ≡ false) → is_among xs input ≡ false
      none_is [] each = refl
      none_is (x ∷ xs) each =
          ap (λ (t : Bool). t || is_among xs input) (each 0 (omega arith)) ∙ none_is xs (λ at lt. each (suc at) (omega (arith, lt)))

-- the name at a place is none of those before it
pub name_apart : (outputs : List (List ℕ)) (at : ℕ) (name : List ℕ) → AreApartNames outputs → slice_get outputs at ≡ Some name → is_among (take at outputs) name ≡ false
name_apart outputs at name apart there =
    sym (ap (is_among (take at outputs)) (get_or_from_slice_get outputs at name [] there)) ∙ apart at (slice_get_within outputs at name there)

pub named_at : {X : Type 0} (now : X → List ℕ) (o : Option X) (other : X) (names : List (List ℕ)) (at : ℕ) → option_map now o ≡ slice_get names at → at < length names → now (unwrap_or o other) ≡ get_or names at []
named_at now (Some x) other names at is lt = sym (get_or_from_slice_get names at (now x) [] (sym is))
named_at now None other names at is lt = absurd (let never : None ≡ Some (get_or names at []) = is ∙ slice_get-get_or names at [] lt in cc)
