-- Pieces that are found, and the front of their bodies.
use Rattle.std.proofs.Common.{◌≡◌, ◌∙◌, ap, sym, subst, inl, inr, ℕ, ◌-◌, ◌≤◌, Bool, List, ◌++◌, All, None, Some, cond, length, take, drop, min, arith}
use Rattle.std.proofs.lemmas.Bool.{cases_lt, le-ltb, lt-ltb}
use Rattle.std.proofs.lemmas.List.Sums.{prefix_len-le-length}
use Rattle.std.proofs.lemmas.List.{drop-append-le, length-drop, length-take, length-take-le, take-append-drop, take-append-le, take-take, take_all}
use Rattle.std.proofs.lemmas.List.Elements.{All-get_or}
use Rattle.std.proofs.lemmas.List.Folds.{find_at}
use Rattle.std.proofs.lemmas.Option.{get_or_from_slice_get, slice_get_within}
use Rattle.std.specs.List.{find, position_or_len}
use Rattle.std.specs.Prelude.{not, position, slice_get, unwrap_or}
use Rattle.snd_layout.specs.Opened.{EndsIn}
use Rattle.snd_layout.specs.declared.piece.Piece.{Piece}
use Rattle.snd_edits.specs.Pieces.{HasFront, body_of}

-- what holds of all holds of one at a place, and of one that is found
pub got_has : {X : Type 0} (P : X → Type 0) (xs : List X) (i : ℕ) (x : X) → All P xs → slice_get xs i ≡ Some x → P x
got_has P xs i x all is = subst P (get_or_from_slice_get xs i x x is) (All-get_or P xs i x (slice_get_within xs i x is) all)

pub found_has : {X : Type 0} (P : X → Type 0) (test : X → Bool) (xs : List X) (x : X) → All P xs → find test xs ≡ Some x → P x
found_has P test xs x all is = got_has P xs (position_or_len test xs) x all (sym (find_at test xs) ∙ is)

-- the place of the first, or the one behind them all
pub place_or : {X : Type 0} (test : X → Bool) (xs : List X) → unwrap_or (position test xs) (length xs) ≡ position_or_len test xs
place_or test xs =
    let k = position_or_len test xs in
    elim (cases_lt k (length xs)) [
      | inl less ↦ ap (λ (t : Bool). unwrap_or (cond t (Some k) None) (length xs)) (lt-ltb k (length xs) less)
      | inr more ↦ ap (λ (t : Bool). unwrap_or (cond t (Some k) None) (length xs)) (le-ltb k (length xs) more) ∙ omega (arith, more, prefix_len-le-length (λ x. not (test x)) xs)
    ]

-- no more can be taken than there is
take_least : (k n : ℕ) (l : List ℕ) → n ≡ min k (length l) → take n l ≡ take k l
take_least k n l is = elim (cases_lt (length l) k) [
  | inl less ↦ take_all n l (omega (arith, is, less)) ∙ sym (take_all k l (omega (arith, less)))
  | inr more ↦ let same : n ≡ k = omega (arith, is, more) in ap (λ (m : ℕ). take m l) same
]

-- so many bytes that were read are the body
pub whole_body : (b new : List ℕ) (piece : Piece) (size n : ℕ) → size ≡ length b → n ≡ min piece.len (size - piece.at) → take n new ≡ take n (drop piece.at b) → take n new ≡ body_of b piece
whole_body b new piece size n told count is = is ∙ take_least piece.len n (drop piece.at b) (omega (arith, count, told, length-drop piece.at b))

-- no fewer come of a piece that the disk holds
pub all_read : (piece : Piece) (size k n : ℕ) → EndsIn size piece → k ≤ piece.len → n ≡ min k (size - piece.at) → n ≡ k
all_read piece size k n ends most count = omega (arith, ends, most, count)

-- what a list holds in front, once a slice was written back into it
pub written_back : (n k : ℕ) (new rest : List ℕ) → n ≤ k → n ≤ length new → take n (take k (new ++ rest)) ≡ take n new
written_back n k new rest within long = take-take n k (new ++ rest) within ∙ take-append-le n new rest long

-- the rest of a slice stays
pub rest_stays : (old wanted : List ℕ) (k n : ℕ) → length wanted ≡ k → k ≤ length old → n ≤ k → drop n wanted ≡ drop n (take k old) → drop n (wanted ++ drop k old) ≡ drop n old
rest_stays old wanted k n long fits most is =
    drop-append-le n wanted (drop k old) (omega (arith, long, most))
    ∙ ap (λ (l : List ℕ). l ++ drop k old) is
    ∙ sym (drop-append-le n (take k old) (drop k old) (omega (arith, most, length-take-le k old fits)))
    ∙ ap (drop n) (take-append-drop k old)

-- .. and its front
pub front_read : (b old wanted rest new : List ℕ) (piece : Piece) (size k n : ℕ) → size ≡ length b → k ≡ min piece.len (length old) → length wanted ≡ k → n ≡ min k (size - piece.at)
    → take n wanted ≡ take n (drop piece.at b) → new ≡ wanted ++ rest → HasFront (body_of b piece) old new n
front_read b old wanted rest new piece size k n told most long count is whole = record {
  count_is = omega (arith, told, most, count, length-take piece.len (drop piece.at b), length-drop piece.at b);
  front =
      ap (take n) whole ∙ take-append-le n wanted rest (omega (arith, long, count)) ∙ is
      ∙ sym (take-take n piece.len (drop piece.at b) (omega (arith, count, most)));
}
