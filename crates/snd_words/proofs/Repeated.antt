-- Names that stand twice.
use Rattle.std.proofs.Common.{◌≡◌, ℕ, suc, ◌+◌, ◌-◌, ◌<◌, Bool, true, false, List, [], ◌∷◌, ◌++◌, Some, find, slice_get, get_or, length, take, refl, ap, ◌∙◌, arith}
use Rattle.std.proofs.lemmas.List.{get_or_append_left, length-append, take-append-le}
use Rattle.std.proofs.lemmas.Option.{get_or_from_slice_get, slice_get_within}
use Rattle.std.specs.List.{list_any, range_with_len, slice_range}
use Rattle.std.specs.Str.{bytes_eq}
use Rattle.snd_words.specs.Repeats.{first_repeated, is_repeated_at}
use Rattle.snd_words.proofs.Runs.{range_next}

pub before_here : (w x : List ℕ) (ws : List (List ℕ)) (at end : ℕ) → at < end → slice_get ws at ≡ Some x → bytes_eq w x ≡ true
    → list_any (bytes_eq w) (slice_range ws at end) ≡ true
before_here w x ws at end lt there same = ap (list_any (bytes_eq w)) (range_next ws at end x lt there) ∙ rw same refl

pub before_next : (w x : List ℕ) (ws : List (List ℕ)) (at end : ℕ) → at < end → slice_get ws at ≡ Some x → bytes_eq w x ≡ false
    → list_any (bytes_eq w) (slice_range ws at end) ≡ list_any (bytes_eq w) (slice_range ws (at + 1) end)
before_next w x ws at end lt there other = ap (list_any (bytes_eq w)) (range_next ws at end x lt there) ∙ rw other refl

-- a name among the inputs, and the output behind them
pub input_repeats : (xs : List (List ℕ)) (o x : List ℕ) (at : ℕ) → slice_get xs at ≡ Some x
    → is_repeated_at (xs ++ o ∷ []) at ≡ list_any (bytes_eq x) (take at xs)
input_repeats xs o x at there =
    let lt : at < length xs = slice_get_within xs at x there in
    let name : get_or (xs ++ o ∷ []) at [] ≡ x = get_or_append_left xs (o ∷ []) [] at lt ∙ get_or_from_slice_get xs at x [] there in
    ap (λ w. list_any (bytes_eq w) (take at (xs ++ o ∷ []))) name ∙ ap (list_any (bytes_eq x)) (take-append-le at xs (o ∷ []) (omega (arith, lt)))

-- the places from one on
places_next : (at n : ℕ) → at < n → range_with_len at (n - at) ≡ at ∷ range_with_len (at + 1) (n - (at + 1))
places_next at n lt =
    let count : n - at ≡ suc (n - (at + 1)) = omega (arith, lt) in
    ap (range_with_len at) count

pub found_here : (test : ℕ → Bool) (at n : ℕ) → at < n → test at ≡ true → find test (range_with_len at (n - at)) ≡ Some at
found_here test at n lt here = ap (find test) (places_next at n lt) ∙ rw here refl

pub found_later : (test : ℕ → Bool) (at n : ℕ) → at < n → test at ≡ false
    → find test (range_with_len at (n - at)) ≡ find test (range_with_len (at + 1) (n - (at + 1)))
found_later test at n lt other = ap (find test) (places_next at n lt) ∙ rw other refl

-- all names are the inputs and one more
pub from_first : (xs : List (List ℕ)) (o : List ℕ)
    → find (is_repeated_at (xs ++ o ∷ [])) (range_with_len 0 (length xs + 1 - 0)) ≡ first_repeated (xs ++ o ∷ [])
unfolding first_repeated
from_first xs o =
    let count : length xs + 1 - 0 ≡ length (xs ++ o ∷ []) = omega (arith, length-append xs (o ∷ [])) in
    ap (λ n. find (is_repeated_at (xs ++ o ∷ [])) (range_with_len 0 n)) count
