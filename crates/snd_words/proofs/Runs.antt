-- Runs of words.
use Rattle.std.proofs.Common.{◌≡◌, ℕ, zero, suc, ◌+◌, ◌-◌, ◌<◌, Bool, true, false, ◌&&◌, List, [], ◌∷◌, Option, Some, None, slice_get, length, take, drop, get_or, refl, sym, ap, ◌∙◌, arith}
use Rattle.std.specs.List.{list_all, slice_range}
use Rattle.std.proofs.Math.Seq.{drop-cons}
use Rattle.std.proofs.lemmas.Option.{slice_get-get_or}
use Rattle.std.proofs.lemmas.List.{drop_all}
use Rattle.snd_words.specs.Names.{is_name, name_or_none, two_names}

-- the element at a place m of a list, of what is left of it behind n elements
pub get_drop : {X : Type 0} (xs : List X) (n k m : ℕ) → m ≡ n + k → slice_get (drop n xs) k ≡ slice_get xs m
get_drop xs zero k m e = ap (slice_get xs) (omega (arith, e))
get_drop [] (suc n) k m e = refl
get_drop (x ∷ xs) (suc n) k zero e = absurd (omega (arith, e))
get_drop (x ∷ xs) (suc n) k (suc m) e = get_drop xs n k m (omega (arith, e))

-- a list from a place on, where an element stands there
pub drop_get : {X : Type 0} (xs : List X) (at : ℕ) (x : X) → slice_get xs at ≡ Some x → drop at xs ≡ x ∷ drop (at + 1) xs
drop_get [] at x there = cc
drop_get (y ∷ xs) zero x there = cc
drop_get (y ∷ xs) (suc at) x there =
    let next : suc at + 1 ≡ suc (at + 1) = omega arith in
    drop_get xs at x there ∙ ap (λ n. x ∷ drop n (y ∷ xs)) (sym next)

-- a run that has an element is that one and the run behind it
pub range_next : {X : Type 0} (xs : List X) (at end : ℕ) (x : X) → at < end → slice_get xs at ≡ Some x
    → slice_range xs at end ≡ x ∷ slice_range xs (at + 1) end
range_next xs at end x lt there =
    let n : end - at ≡ suc (end - (at + 1)) = omega (arith, lt) in
    ap (take (end - at)) (drop_get xs at x there) ∙ ap (λ k. take k (x ∷ drop (at + 1) xs)) n

pub all_next : {X : Type 0} (test : X → Bool) (xs : List X) (at end : ℕ) (x : X) → at < end → slice_get xs at ≡ Some x
    → list_all test (slice_range xs at end) ≡ (test x && list_all test (slice_range xs (at + 1) end))
all_next test xs at end x lt there = ap (list_all test) (range_next xs at end x lt there)

-- what two words that may be names give together
abbrev pub both : Option (List ℕ) → Option (List ℕ) → Option (List ℕ × List ℕ)
both (Some one) (Some two) = Some (one, two)
both one two = None

two_of : (one two : List ℕ) (b c : Bool) → b ≡ is_name one → c ≡ is_name two → two_names (one ∷ two ∷ []) ≡ both (name_or_none (Some one)) (name_or_none (Some two))
two_of one two true true eb ec = rw (sym eb, sym ec) refl
two_of one two true false eb ec = rw (sym eb, sym ec) refl
two_of one two false c eb ec = rw (sym eb) refl

-- a list that ends behind two elements
last_two : {X : Type 0} (xs : List X) (at : ℕ) (d : X) → length xs ≡ at + 2 → drop at xs ≡ get_or xs at d ∷ get_or xs (at + 1) d ∷ []
last_two xs at d e =
    let one : drop at xs ≡ get_or xs at d ∷ drop (suc at) xs = drop-cons xs at d (omega (arith, e)) in
    let two : drop (suc at) xs ≡ get_or xs (suc at) d ∷ drop (suc (suc at)) xs = drop-cons xs (suc at) d (omega (arith, e)) in
    let none : drop (suc (suc at)) xs ≡ [] = drop_all (suc (suc at)) xs (omega (arith, e)) in
    let next : suc at ≡ at + 1 = omega arith in
    one ∙ ap (λ l. get_or xs at d ∷ l) (two ∙ ap (λ l. get_or xs (suc at) d ∷ l) none ∙ ap (λ k. get_or xs k d ∷ []) next)

-- the two names at the end of a list
pub two_names_at : (xs : List (List ℕ)) (at : ℕ) → length xs ≡ at + 2 → two_names (drop at xs) ≡ both (name_or_none (slice_get xs at)) (name_or_none (slice_get xs (at + 1)))
two_names_at xs at e =
    let one : slice_get xs at ≡ Some (get_or xs at []) = slice_get-get_or xs at [] (omega (arith, e)) in
    let two : slice_get xs (at + 1) ≡ Some (get_or xs (at + 1) []) = slice_get-get_or xs (at + 1) [] (omega (arith, e)) in
    ap two_names (last_two xs at [] e) ∙ two_of (get_or xs at []) (get_or xs (at + 1) []) _ _ refl refl
    ∙ ap (λ o. both (name_or_none (Some (get_or xs at []))) (name_or_none o)) (sym two) ∙ ap (λ o. both (name_or_none o) (name_or_none (slice_get xs (at + 1)))) (sym one)

pub not_two_names : (xs : List (List ℕ)) → (length xs ≡ 2 → ⊥) → two_names xs ≡ None
not_two_names [] other = refl
not_two_names (x ∷ []) other = refl
not_two_names (x ∷ y ∷ []) other = absurd (other refl)
not_two_names (x ∷ y ∷ z ∷ xs) other = refl
