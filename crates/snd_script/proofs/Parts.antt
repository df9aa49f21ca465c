-- The parts of a line, as they move from a block.
use Rattle.std.proofs.Common.{◌≡◌, inl, inr, ℕ, ◌+◌, ◌-◌, ◌<◌, ◌≤◌, List, ◌∷◌, ◌++◌, true, false, None, Some, Result, Ok, Err, IsOk, OnOk, nat_lt, length, get_or, take, drop, min, refl, sym, ◌∙◌, ap, arith}
use Rattle.std.specs.List.{position, position_or_len}
use Rattle.std.proofs.lemmas.List.{same_lists, take-append-le, take-append-drop, take-take, get_or-take, get_or_default, length-take, length-drop, places}
use Rattle.std.proofs.lemmas.List.Quantifiers.{position-Some}
use Rattle.std.proofs.lemmas.List.Sums.{fails_before_first}
use Rattle.std.proofs.lemmas.Bool.{cases_Bool, cases_lt, eqb-true, ltb-false}
use Rattle.snd_script.specs.Lines.{Reading, Moves, HasNoFeed, most_kept}
use Rattle.snd_rules.specs.Script.{is_feed}

pub on_ok : {T E P : Type 0} (r : Result T E) → IsOk r → OnOk r P → P
on_ok (Ok x) is p = p
on_ok (Err e) is p = cc

pub most_kept-is : most_kept ≡ 4097
unfolding most_kept
most_kept-is = refl

pub kept_front : (m n : ℕ) (xs ys : List ℕ) → length xs ≤ m → n ≡ min (length ys) (m - length xs) → xs ++ take n ys ≡ take m (xs ++ ys)
kept_front m n xs ys fits is = same_lists _ _ (grind (arith, places)) (λ k d lt. grind (arith, places))

pub taken_front : (n : ℕ) (into rest s : List ℕ) → n ≤ length into → take n into ≡ take n s → s ≡ take n (into ++ rest) ++ drop n s
taken_front n into rest s fits front = sym (ap (λ l. l ++ drop n s) (take-append-le n into rest fits ∙ front) ∙ take-append-drop n s)

pub split_at : (at : ℕ) (w : List ℕ) (c : ℕ) → at < length w → get_or w at 0 ≡ c → w ≡ take at w ++ c ∷ drop (at + 1) w
split_at at w c lt is = same_lists _ _ (grind (arith, places)) (λ k d l. grind (arith, places))

pub rest_behind : (start end n : ℕ) (block : List ℕ) → n ≤ end - start → end ≤ length block → drop n (take (end - start) (drop start block)) ≡ take (end - (start + n)) (drop (start + n) block)
rest_behind start end n block fits within = same_lists _ _ (grind (arith, places)) (λ k d lt. grind (arith, places))

pub none_before : (at : ℕ) (w : List ℕ) → at ≤ length w → ((k : ℕ) → k < at → is_feed (get_or w k 0) ≡ false) → HasNoFeed (take at w)
none_before at w within none k d lt =
    let below : k < at = omega (arith, length-take at w) in
    let in_w : k < length w = omega arith in
    ap is_feed (get_or-take at w k d below ∙ get_or_default w k d 0 in_w) ∙ none k below

pub none_found : (w : List ℕ) → position is_feed w ≡ None → HasNoFeed w
none_found w is = elim (cases_Bool (nat_lt (position_or_len is_feed w) (length w))) [
  | inl lt ↦ λ k d l. cc
  | inr le ↦ λ k d l. fails_before_first is_feed w k d (omega (arith, l, ltb-false _ _ le))
]

-- a line feed stands in what may be served of the block
pub found_moves : (old : Reading) (block kept kept' bytes : List ℕ) (start end room n at : ℕ)
    → record { rest = take (end - start) (drop start block); room = room } ≡ old → start ≤ end → end ≤ length block → n ≡ min (end - start) room
    → bytes ≡ take n (drop start block) → position is_feed bytes ≡ Some at → kept' ≡ take most_kept (kept ++ take at bytes)
    → (part : List ℕ) × Moves old (record { rest = take (end - (start + (at + 1))) (drop (start + (at + 1)) block); room = room - (at + 1) }) kept kept' true part
found_moves old block kept kept' bytes start end room n at is order within fits bytes_is found line =
    let w : List ℕ = take (end - start) (drop start block) in
    let few : n ≤ end - start = omega arith in
    let front : bytes ≡ take n w = bytes_is ∙ sym (take-take n (end - start) (drop start block) few) in
    let here = position-Some is_feed bytes at 0 found in
    let long : length w ≡ end - start = omega (arith, length-take (end - start) (drop start block), length-drop start block) in
    let long_bytes : length bytes ≡ n = omega (arith, ap length front, length-take n w) in
    let below : at < n = omega (arith, here.0) in
    let part : take at w ≡ take at bytes = sym (ap (λ l. take at l) front ∙ take-take at n w (omega arith)) in
    let feed : get_or w at 0 ≡ 10 = sym (ap (λ l. get_or l at 0) front ∙ get_or-take n w at 0 below) ∙ eqb-true _ _ here.1 in (
      take at bytes,
      record {
        rest = sym (ap (λ o. o.rest) is) ∙ split_at at w 10 (omega arith) feed ∙ ap (λ l. l ++ 10 ∷ drop (at + 1) w) part ∙ ap (λ l. take at bytes ++ 10 ∷ l) (rest_behind start end (at + 1) block (omega arith) within);
        room = sym (ap (λ o. o.room) is) ∙ omega (arith, length-take at bytes);
        line = line;
        no_feed = none_before at bytes (omega arith) here.2;
        all = λ e. cc;
      },
    )

-- .. or none, and all that may be served moves
pub none_moves : (old : Reading) (block kept kept' bytes : List ℕ) (start end room n : ℕ)
    → record { rest = take (end - start) (drop start block); room = room } ≡ old → start ≤ end → end ≤ length block → n ≡ min (end - start) room
    → bytes ≡ take n (drop start block) → position is_feed bytes ≡ None → kept' ≡ take most_kept (kept ++ bytes)
    → (part : List ℕ) × Moves old (record { rest = take (end - (start + n)) (drop (start + n) block); room = room - length bytes }) kept kept' false part
none_moves old block kept kept' bytes start end room n is order within fits bytes_is found line =
    let w : List ℕ = take (end - start) (drop start block) in
    let few : n ≤ end - start = omega arith in
    let front : bytes ≡ take n w = bytes_is ∙ sym (take-take n (end - start) (drop start block) few) in
    let long : length w ≡ end - start = omega (arith, length-take (end - start) (drop start block), length-drop start block) in
    let long_bytes : length bytes ≡ n = omega (arith, ap length front, length-take n w) in (
      bytes,
      record {
        rest = sym (ap (λ o. o.rest) is) ∙ sym (take-append-drop n w) ∙ ap (λ l. l ++ drop n w) (sym front) ∙ ap (λ l. bytes ++ l) (rest_behind start end n block few within);
        room = sym (ap (λ o. o.room) is) ∙ omega arith;
        line = line;
        no_feed = none_found bytes found;
        all = λ e. elim (cases_lt room (end - start)) [
          | inl lt ↦ inr (omega arith)
          | inr le ↦ inl (ap (λ m. take m (drop (start + n) block)) (no_more n end start (omega arith)))
        ];
      },
    )
  where
    no_more : (n end start : ℕ) → end ≤ start + n → end - (start + n) ≡ 0
    no_more n end start le = omega arith

pub past_start : (start n : ℕ) → start + n - start ≡ n
past_start start n = omega arith
