-- Names that do not stand twice.
use Rattle.std.proofs.Common.{◌≡◌, ℕ, zero, suc, ◌+◌, ◌<◌, ◌≤◌, Bool, true, false, List, [], ◌∷◌, ◌++◌, None, Some, Option, cond, find, length, take, get_or, refl, sym, ◌∙◌, ap, inl, inr, arith}
use Rattle.std.proofs.lemmas.Bool.{cases_Bool}
use Rattle.std.proofs.Math.Seq.{get_or-append_seam}
use Rattle.std.proofs.lemmas.List.{length-append, take-append-le, take_all}
use Rattle.std.proofs.lemmas.List.Folds.{list_any_at}
use Rattle.std.specs.List.{list_any, range_with_len}
use Rattle.std.specs.Str.{bytes_eq}
use Rattle.snd_tools.proofs.Public.{apart_back}
use Rattle.snd_words.specs.Repeats.{first_repeated, is_repeated_at}
use Rattle.snd_concat.specs.Making.{AllApart}

-- where none is found, none passes
none_passes : (test : ℕ → Bool) (a n i : ℕ) → find test (range_with_len a n) ≡ None → i < n → test (a + i) ≡ false
none_passes test a zero i none lt = absurd (omega (arith, lt))
none_passes test a (suc n) i none lt = elim (cases_Bool (test a)) [
  | inl passes ↦ absurd (let is : find test (a ∷ range_with_len (a + 1) n) ≡ Some a = ap (λ (t : Bool). cond t (Some a) (find test (range_with_len (a + 1) n))) passes in let no : ◌≡◌ {A = Option ℕ} None (Some a) = sym none ∙ is in cc)
  | inr other ↦ by_place i lt other (λ k small. none_passes test (a + 1) n k (sym (ap (λ (t : Bool). cond t (Some a) (find test (range_with_len (a + 1) n))) other) ∙ none) small)
]
  where
    by_place : (i : ℕ) → i < suc n → test a ≡ false → ((k : ℕ) → k < n → test (a + 1 + k) ≡ false) → test (a + i) ≡ false
    by_place zero lt other later = ap test (let e : a + 0 ≡ a = omega arith in e) ∙ other
    by_place (suc i) lt other later = ap test (let e : a + suc i ≡ a + 1 + i = omega arith in e) ∙ later i (omega (arith, lt))

module _ (inputs : List (List ℕ)) (output : List ℕ) where
  abbrev all : List (List ℕ)
  all = inputs ++ output ∷ []

  found : first_repeated all ≡ find (is_repeated_at all) (range_with_len 0 (length all))
  unfolding first_repeated
  found = refl

  count : length all ≡ length inputs + 1
  count = length-append inputs (output ∷ [])

  last : get_or all (length inputs) [] ≡ output
  last = get_or-append_seam inputs output [] []

  before : take (length inputs) all ≡ inputs
  before = take-append-le (length inputs) inputs (output ∷ []) (omega arith) ∙ take_all (length inputs) inputs (omega arith)

  pub apart_from : first_repeated all ≡ None → AllApart output inputs
  apart_from none k d lt = elim (cases_Bool (bytes_eq (get_or inputs k d) output)) [
    | inl same ↦ absurd (
        let alone : is_repeated_at all (length inputs) ≡ false =
        ap (is_repeated_at all) (let e : length inputs ≡ 0 + length inputs = omega arith in e) ∙ none_passes (is_repeated_at all) 0 (length all) (length inputs) (sym found ∙ none) (omega (arith, count)) in
        let here : is_repeated_at all (length inputs) ≡ list_any (bytes_eq output) inputs = ap (λ (n : List ℕ). list_any (bytes_eq n) (take (length inputs) all)) last ∙ ap (list_any (bytes_eq output)) before in
        let there : list_any (bytes_eq output) inputs ≡ true = list_any_at (bytes_eq output) inputs k d lt (back (get_or inputs k d) same) in
        let no : true ≡ false = sym there ∙ sym here ∙ alone in
        cc)
    | inr other ↦ other
  ]
    where
      back : (n : List ℕ) → bytes_eq n output ≡ true → bytes_eq output n ≡ true
      back n same = elim (cases_Bool (bytes_eq output n)) [
        | inl is ↦ is
        | inr other ↦ absurd (let no : true ≡ false = sym same ∙ apart_back output n other in cc)
      ]

-- a place that is found is one of those that were tried
found_within : (test : ℕ → Bool) (a n i : ℕ) → find test (range_with_len a n) ≡ Some i → i < a + n
found_within test a zero i found = absurd (cc)
found_within test a (suc n) i found = elim (cases_Bool (test a)) [
  | inl passes ↦
      let is : ◌≡◌ {A = Option ℕ} (Some a) (Some i) = sym (ap (λ (t : Bool). cond t (Some a) (find test (range_with_len (a + 1) n))) passes) ∙ found in
      let same : a ≡ i = cc in
      omega (arith, same)
  | inr other ↦
      let later = found_within test (a + 1) n i (sym (ap (λ (t : Bool). cond t (Some a) (find test (range_with_len (a + 1) n))) other) ∙ found) in
      omega (arith, later)
]

pub repeated_within : (inputs : List (List ℕ)) (output : List ℕ) (at : ℕ) → first_repeated (inputs ++ output ∷ []) ≡ Some at → at ≤ length inputs
repeated_within inputs output at is =
    let within = found_within (is_repeated_at (inputs ++ output ∷ [])) 0 (length (inputs ++ output ∷ [])) at (sym (found inputs output) ∙ is) in
    omega (arith, within, count inputs output)
