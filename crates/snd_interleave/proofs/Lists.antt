-- Lists of numbers and of names.
use Rattle.std.proofs.Common.{◌≡◌, ◌∙◌, ap, sym, refl, inl, inr, ℕ, zero, suc, ◌+◌, ◌<◌, ◌≤◌, ℤ, pos, Bool, false, cond, Option, None, Some, List, [], ◌∷◌, ◌++◌, length, take, map, get_or, find, slice_get, option_map, unwrap_or, arith}
use Rattle.std.proofs.lemmas.Bool.{cases_Bool, cases_lt}
use Rattle.std.proofs.lemmas.List.{get_or_append_left, get_or_at}
use Rattle.std.proofs.lemmas.Option.{get_or_from_slice_get, slice_get-get_or, slice_get_within}
use Rattle.std.specs.List.{range_with_len}
use Rattle.snd_pcm.specs.Groups.{first_groups}

-- ---- numbers

-- the number at a place, and zero behind the end, changed by what leaves zero
pub changed_at : (f : ℤ → ℤ) → f (pos 0) ≡ pos 0 → (xs : List ℤ) (k : ℕ) → get_or (map f xs) k (pos 0) ≡ f (get_or xs k (pos 0))
changed_at f zero_stays [] k = sym zero_stays
changed_at f zero_stays (x ∷ xs) zero = refl
changed_at f zero_stays (x ∷ xs) (suc k) = changed_at f zero_stays xs k

-- the numbers of groups of one
pub heads : (k : ℕ) (xs : List ℤ) → k ≤ length xs → map (λ frame. get_or frame 0 (pos 0)) (first_groups 1 k xs) ≡ take k xs
heads zero xs fits = refl
heads (suc k) [] fits = absurd (omega (arith, fits))
heads (suc k) (x ∷ xs) fits = ap (λ (l : List ℤ). x ∷ l) (heads k xs (omega (arith, fits)))

-- ---- names

-- none is found where the test fails
pub none_found : (test : ℕ → Bool) (at n k : ℕ) → find test (range_with_len at n) ≡ None → at ≤ k → k < at + n → test k ≡ false
none_found test at zero k none from below = absurd (omega (arith, from, below))
none_found test at (suc n) k none from below = elim (cases_Bool (test at)) [
  | inl here ↦ absurd (let e : Some at ≡ None = sym (ap (λ (t : Bool). cond t (Some at) (find test (range_with_len (at + 1) n))) here) ∙ none in cc)
  | inr other ↦ elim (cases_lt at k) [
    | inl behind ↦ none_found test (at + 1) n k (sym (ap (λ (t : Bool). cond t (Some at) (find test (range_with_len (at + 1) n))) other) ∙ none) (omega (arith, behind)) (omega (arith, below))
    | inr le ↦ let same : at ≡ k = omega (arith, from, le) in sym (ap test same) ∙ other
  ]
]

-- what is found is one of the numbers
pub found_within : (test : ℕ → Bool) (at n k : ℕ) → find test (range_with_len at n) ≡ Some k → k < at + n
found_within test at zero k found = absurd (cc)
found_within test at (suc n) k found = elim (cases_Bool (test at)) [
  | inl here ↦
      let same : Some at ≡ Some k = sym (ap (λ (t : Bool). cond t (Some at) (find test (range_with_len (at + 1) n))) here) ∙ found in
      let is : at ≡ k = cc in omega (arith, is)
  | inr other ↦
      let later = found_within test (at + 1) n k (sym (ap (λ (t : Bool). cond t (Some at) (find test (range_with_len (at + 1) n))) other) ∙ found) in
      omega (arith, later)
]

-- a name of the inputs, or else the output's
pub named_at : {X : Type 0} (now : X → List ℕ) (o : Option X) (output : X) (names : List (List ℕ)) (at : ℕ) → option_map now o ≡ slice_get names at → at < length names + 1
    → now (unwrap_or o output) ≡ get_or (names ++ now output ∷ []) at []
named_at now (Some x) output names at is lt =
    let there : slice_get names at ≡ Some (now x) = sym is in
    let within : at < length names = slice_get_within names at (now x) there in
    sym (get_or_append_left names (now output ∷ []) [] at within ∙ get_or_from_slice_get names at (now x) [] there)
named_at now None output names at is lt = elim (cases_lt at (length names)) [
  | inl within ↦ absurd (let never : None ≡ Some (get_or names at []) = is ∙ slice_get-get_or names at [] within in cc)
  | inr le ↦ sym (get_or_at names (now output) [] [] at (omega (arith, le, lt)))
]

-- a name more
pub take_more : {X : Type 0} (xs : List X) (k : ℕ) (x : X) → slice_get xs k ≡ Some x → take (k + 1) xs ≡ take k xs ++ x ∷ []
take_more [] k x is = absurd (cc)
take_more (y ∷ ys) zero x is = let same : y ≡ x = cc in ap (λ z. z ∷ []) same
take_more (y ∷ ys) (suc k) x is = ap (λ n. take n (y ∷ ys)) (let e : suc k + 1 ≡ suc (k + 1) = omega arith in e) ∙ ap (λ l. y ∷ l) (take_more ys k x is)
