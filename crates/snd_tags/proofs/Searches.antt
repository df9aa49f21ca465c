-- Searches through a list, from a place on.
use Rattle.std.proofs.Common.{◌≡◌, ◌∙◌, add-one, ap, sym, subst, refl, inl, inr, ℕ, zero, suc, ◌+◌, ◌<◌, ◌≤◌, Bool, true, false, List, [], ◌∷◌, Option, None, Some, cond, length, take, drop, arith}
use Rattle.std.proofs.lemmas.Bool.{cases_Bool}
use Rattle.std.proofs.lemmas.Option.{same_Some}
use Rattle.std.specs.List.{find, slice_get}
use Rattle.std.specs.Prelude.{◌&&◌, IfSome}
use Rattle.snd_layout.specs.declared.piece.Piece.{Piece}
use Rattle.snd_tags.specs.Bodies.{begins_info}

-- what a list of pieces is read as behind its end
abbrev pub no_piece : Piece
no_piece = record { id = record { 0 = [] }; at = 0; len = 0; after = false }

-- the element at a place is the first that is tried from there on
find_next : {X : Type 0} (test : X → Bool) (xs : List X) (i : ℕ) (x : X) → slice_get xs i ≡ Some x → find test (drop i xs) ≡ cond (test x) (Some x) (find test (drop (suc i) xs))
find_next test [] i x is = absurd cc
find_next test (y ∷ ys) zero x is = ap (λ z. cond (test z) (Some z) (find test ys)) (same_Some y x is)
find_next test (y ∷ ys) (suc i) x is = find_next test ys i x is

find_here : {X : Type 0} (test : X → Bool) (xs : List X) (i : ℕ) (x : X) → slice_get xs i ≡ Some x → find test (drop i xs) ≡ cond (test x) (Some x) (find test (drop (i + 1) xs))
find_here test xs i x is = rw add-one (find_next test xs i x is)

-- .. which is passed over, or found
pub find_past : {X : Type 0} (test : X → Bool) (xs : List X) (i : ℕ) (x : X) → slice_get xs i ≡ Some x → test x ≡ false → find test (drop i xs) ≡ find test (drop (i + 1) xs)
find_past test xs i x is passes = find_here test xs i x is ∙ ap (λ (t : Bool). cond t (Some x) (find test (drop (i + 1) xs))) passes

pub find_at_place : {X : Type 0} (test : X → Bool) (xs : List X) (i : ℕ) (x : X) → slice_get xs i ≡ Some x → test x ≡ true → find test (drop i xs) ≡ Some x
find_at_place test xs i x is passes = find_here test xs i x is ∙ ap (λ (t : Bool). cond t (Some x) (find test (drop (i + 1) xs))) passes

-- nothing is found behind the end
pub find_at_end : {X : Type 0} (test : X → Bool) (xs : List X) (i : ℕ) → length xs ≤ i → find test (drop i xs) ≡ None
find_at_end test [] zero past = refl
find_at_end test [] (suc i) past = refl
find_at_end test (y ∷ ys) zero past = absurd (omega arith)
find_at_end test (y ∷ ys) (suc i) past = find_at_end test ys i (omega arith)

-- what stands at a place of a front stands there in the list
pub front_get : {X : Type 0} (n : ℕ) (xs : List X) (i : ℕ) (x : X) → i < length (take n xs) → slice_get xs i ≡ Some x → slice_get (take n xs) i ≡ Some x
front_get n [] i x within is = absurd cc
front_get zero (y ∷ ys) i x within is = absurd (omega (arith, within))
front_get (suc n) (y ∷ ys) zero x within is = is
front_get (suc n) (y ∷ ys) (suc i) x within is = front_get n ys i x (omega (arith, within)) is

-- a front has nothing that passes a test where the list has nothing
pub none_in_front : {X : Type 0} (test : X → Bool) (n : ℕ) (xs : List X) → find test xs ≡ None → find test (take n xs) ≡ None
none_in_front test zero xs none = refl
none_in_front test (suc n) [] none = refl
none_in_front test (suc n) (x ∷ xs) none = elim (cases_Bool (test x)) [
  | inl is_so ↦ absurd (let found : Some x ≡ None = sym (ap (λ (t : Bool). cond t (Some x) (find test xs)) is_so) ∙ none in cc)
  | inr not_so ↦ ap (λ (t : Bool). cond t (Some x) (find test (take n xs))) not_so
      ∙ none_in_front test n xs (sym (ap (λ (t : Bool). cond t (Some x) (find test xs)) not_so) ∙ none)
]

-- both tests pass nothing where one of them passes nothing
pub none_of_both : {X : Type 0} (one other : X → Bool) (xs : List X) → find one xs ≡ None → find (λ x. one x && other x) xs ≡ None
none_of_both one other [] none = refl
none_of_both one other (x ∷ xs) none = elim (cases_Bool (one x)) [
  | inl is_so ↦ absurd (let found : Some x ≡ None = sym (ap (λ (t : Bool). cond t (Some x) (find one xs)) is_so) ∙ none in cc)
  | inr not_one ↦ ap (λ (t : Bool). cond (t && other x) (Some x) (find (λ z. one z && other z) xs)) not_one
      ∙ none_of_both one other xs (sym (ap (λ (t : Bool). cond t (Some x) (find one xs)) not_one) ∙ none)
]

-- what is said of the piece at a place is said of this one
pub says_of : (b : List ℕ) (pieces : List Piece) (place : ℕ) (piece : Piece) (says : Bool) → slice_get pieces place ≡ Some piece → IfSome (slice_get pieces place) (λ p. says ≡ begins_info b p) → says ≡ begins_info b piece
says_of b pieces place piece says here given = subst (λ (o : Option Piece). IfSome o (λ p. says ≡ begins_info b p)) here given
