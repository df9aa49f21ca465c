-- Numbers behind a state: one more of them, and some more; how many there are; and their range.
use Rattle.std.proofs.Common.{◌≡◌, ◌∙◌, ap, sym, refl, ℕ, zero, suc, ◌+◌, ◌-◌, ◌<◌, ◌^◌, ℤ, List, [], ◌∷◌, ◌++◌, All, length, set, take, arith}
use Rattle.std.proofs.lemmas.Int.{ints}
use Rattle.std.proofs.lemmas.List.{append-nil, append_assoc, length-set, take_more_set}
use Rattle.std.proofs.lemmas.List.Elements.{All-cons, All-nil}
use Rattle.snd_pcm.specs.Width.{HasWidth}
use Rattle.snd_generate.specs.Numbers.{next, number_of, numbers_from, state_after}

left_over : (xs : List ℤ) (i : ℕ) (y : ℤ) → i < length xs → length xs - i ≡ suc (length (set xs i y) - (i + 1))
left_over xs i y within = omega (arith, within, length-set xs i y)

-- one more is put into a list
pub one_filled : (xs all : List ℤ) (i s s' : ℕ) (y : ℤ) → i < length xs → s' ≡ next s → y ≡ number_of s' → take i xs ++ numbers_from (length xs - i) s ≡ all
    → take (i + 1) (set xs i y) ++ numbers_from (length (set xs i y) - (i + 1)) s' ≡ all
one_filled xs all i s s' y within step value so_far =
    let m = length (set xs i y) - (i + 1) in
    ap (λ (l : List ℤ). l ++ numbers_from m s') (take_more_set xs i y within)
    ∙ append_assoc (take i xs) (y ∷ []) (numbers_from m s')
    ∙ ap (λ (z : ℤ). take i xs ++ z ∷ numbers_from m s') value
    ∙ ap (λ (t : ℕ). take i xs ++ number_of t ∷ numbers_from m t) step
    ∙ ap (λ (k : ℕ). take i xs ++ numbers_from k s) (sym (left_over xs i y within))
    ∙ so_far

pub one_stepped : (xs : List ℤ) (i s s' last : ℕ) (y : ℤ) → i < length xs → s' ≡ next s → state_after (length xs - i) s ≡ last → state_after (length (set xs i y) - (i + 1)) s' ≡ last
one_stepped xs i s s' last y within step so_far =
    let m = length (set xs i y) - (i + 1) in
    ap (state_after m) step ∙ ap (λ (k : ℕ). state_after k s) (sym (left_over xs i y within)) ∙ so_far

-- some, and then more
pub numbers_on : (m k s : ℕ) → numbers_from (m + k) s ≡ numbers_from m s ++ numbers_from k (state_after m s)
numbers_on zero k s = ap (λ (n : ℕ). numbers_from n s) (let e : 0 + k ≡ k = omega arith in e)
numbers_on (suc m) k s =
    ap (λ (n : ℕ). numbers_from n s) (let e : suc m + k ≡ suc (m + k) = omega arith in e) ∙ ap (λ (l : List ℤ). number_of (next s) ∷ l) (numbers_on m k (next s))

pub state_on : (m k s : ℕ) → state_after (m + k) s ≡ state_after k (state_after m s)
state_on zero k s = ap (λ (n : ℕ). state_after n s) (let e : 0 + k ≡ k = omega arith in e)
state_on (suc m) k s = ap (λ (n : ℕ). state_after n s) (let e : suc m + k ≡ suc (m + k) = omega arith in e) ∙ state_on m k (next s)

-- more behind those that stand there, and the state behind both
pub numbers_then : (xs : List ℤ) (j k i seed s : ℕ) → s ≡ state_after j seed → i ≡ j + k → xs ++ numbers_from j seed ++ numbers_from k s ≡ xs ++ numbers_from i seed
numbers_then xs j k i seed s is sum =
    append_assoc xs (numbers_from j seed) (numbers_from k s)
    ∙ ap (λ (l : List ℤ). xs ++ l) (ap (λ (t : ℕ). numbers_from j seed ++ numbers_from k t) is ∙ sym (numbers_on j k seed) ∙ ap (λ (n : ℕ). numbers_from n seed) (sym sum))

pub state_then : (j k i seed s s' : ℕ) → s ≡ state_after j seed → i ≡ j + k → s' ≡ state_after k s → s' ≡ state_after i seed
state_then j k i seed s s' is sum more = more ∙ ap (state_after k) is ∙ sym (state_on j k seed) ∙ ap (λ (n : ℕ). state_after n seed) (sym sum)

-- none
pub numbers_none : (xs : List ℤ) (i seed : ℕ) → i ≡ 0 → xs ++ numbers_from i seed ≡ xs
numbers_none xs i seed none = ap (λ (n : ℕ). xs ++ numbers_from n seed) none ∙ append-nil xs

pub length-numbers : (k s : ℕ) → length (numbers_from k s) ≡ k
length-numbers zero s = refl
length-numbers (suc k) s = ap suc (length-numbers k (next s))

next_small : (s : ℕ) → next s < 2 ^ 32
unfolding next
next_small s = omega arith

number_fits : (s : ℕ) → s < 2 ^ 32 → HasWidth 16 (number_of s)
unfolding number_of
number_fits s small = (omega (arith, ints, small), omega (arith, ints, small))

pub numbers_fit : (k s : ℕ) → All (HasWidth 16) (numbers_from k s)
numbers_fit zero s = All-nil (HasWidth 16)
numbers_fit (suc k) s = All-cons (HasWidth 16) (number_of (next s)) (numbers_from k (next s)) (number_fits (next s) (next_small s)) (numbers_fit k (next s))
