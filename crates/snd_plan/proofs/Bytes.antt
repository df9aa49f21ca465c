-- The bytes of a part of a file, once some of them are changed.
use Rattle.std.proofs.Common.{◌≡◌, ◌⊎◌, inl, inr, ℕ, ◌+◌, ◌-◌, ◌<◌, ◌≤◌, List, ◌++◌, length, take, drop, get_or, min, max, sym, ap, subst, ◌∙◌, arith}
use Rattle.std.proofs.lemmas.List.{places}
use Rattle.std.proofs.lemmas.Bool.{cases_lt}
use Rattle.snd_disk.specs.Bytes.{over}
use Rattle.snd_disk.specs.Runs.{HasAt, IsBeside}

over_inside : (b : List ℕ) (at : ℕ) (s : List ℕ) (j : ℕ) → j < length s → get_or (over b at s) (at + j) 0 ≡ get_or s j 0
over_inside b at s j lt = grind (arith, places)

over_beside : (b : List ℕ) (at : ℕ) (s : List ℕ) (i : ℕ) → IsBeside i at (length s) → get_or (over b at s) i 0 ≡ get_or b i 0
over_beside b at s i (inl lt) = elim (cases_lt i (length b)) [ inl within ↦ grind (arith, places) | inr past ↦ grind (arith, places) ]
over_beside b at s i (inr le) = elim (cases_lt at (length b)) [ inl within ↦ grind (arith, places) | inr past ↦ grind (arith, places) ]

module _ (b v s : List ℕ) (at place : ℕ) (has : HasAt b at v) where
  -- none of the bytes that are put lies among those that stand
  pub put_apart : min (place + length s) (at + length v) ≤ max place at → HasAt (over b place s) at v
  put_apart apart j lt = over_beside b place s (at + j) (side (cases_lt (at + j) place)) ∙ has j lt
    where
      side : (at + j < place) ⊎ (place ≤ at + j) → IsBeside (at + j) place (length s)
      side (inl before) = inl before
      side (inr behind) = inr (omega (arith, apart, lt, behind))

  module _ (first count : ℕ) (first_is : first ≡ max place at) (count_is : first + count ≡ min (place + length s) (at + length v)) where
    abbrev new : List ℕ
    new = (take (first - at) v ++ take count (drop (first - place) s)) ++ drop (first - at + length (take count (drop (first - place) s))) v

    front : (j : ℕ) → j < first - at → get_or new j 0 ≡ get_or v j 0
    front j lt = grind (arith, places)

    middle : (j : ℕ) → first - at ≤ j → j < first - at + count → get_or new j 0 ≡ get_or s (at + j - place) 0
    middle j le lt = grind (arith, places)

    back : (j : ℕ) → first - at + count ≤ j → get_or new j 0 ≡ get_or v j 0
    back j le = grind (arith, places)

    new_length : length new ≡ length v
    new_length = grind (arith, places)

    -- some of them do
    within : HasAt (over b place s) at new
    within j lt = elim (cases_lt j (first - at)) [
      | inl before ↦ over_beside b place s (at + j) (inl (omega (arith, first_is, before))) ∙ has j (omega (arith, first_is, count_is, before))
          ∙ sym (front j before)
      | inr behind ↦ elim (cases_lt j (first - at + count)) [
        | inl among ↦ ap (λ i. get_or (over b place s) i 0) (omega (arith, first_is, behind))
            ∙ over_inside b place s (at + j - place) (omega (arith, first_is, count_is, behind, among)) ∙ sym (middle j behind among)
        | inr past ↦ over_beside b place s (at + j) (inr (omega (arith, first_is, count_is, past, lt, new_length)))
            ∙ has j (omega (arith, lt, new_length)) ∙ sym (back j past)
      ]
    ]

    pub put_within : (x : List ℕ) → x ≡ new → HasAt (over b place s) at x
    put_within x is = subst (HasAt (over b place s) at) (sym is) within
