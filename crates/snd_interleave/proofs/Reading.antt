-- Numbers of files of one channel that are read.
use Rattle.std.proofs.Common.{◌≡◌, ◌∙◌, ap, sym, subst, inl, inr, ℕ, ◌+◌, ◌-◌, ◌<◌, ◌≤◌, ℤ, pos, List, All, length, take, drop, map, get_or, min, arith}
use Rattle.std.proofs.lemmas.Bool.{cases_lt}
use Rattle.std.proofs.lemmas.List.{drop-map, get_or-drop, get_or-take, get_or_past, places, take-map}
use Rattle.snd_pcm.specs.Groups.{first_groups}
use Rattle.snd_interleave.specs.Reading.{AreNumbersAt}
use Rattle.snd_interleave.proofs.Lists.{heads}

-- the frames that were read are these numbers
pub numbers_read : (place count channels : ℕ) (into : List ℤ) (frames : List (List ℤ)) → channels ≡ 1 → count ≤ length into → first_groups channels count into ≡ take count (drop place frames)
    → take count into ≡ take count (drop place (map (λ frame. get_or frame 0 (pos 0)) frames))
numbers_read place count channels into frames mono fits gives =
    let first = λ (frame : List ℤ). get_or frame 0 (pos 0) in
    sym (heads count into fits)
    ∙ ap (λ (n : ℕ). map first (first_groups n count into)) (sym mono)
    ∙ ap (map first) gives
    ∙ sym (take-map first count (drop place frames))
    ∙ ap (take count) (sym (drop-map first place frames))

-- a front in a range, and zeros behind it
pub all_fit : (P : ℤ → Type 0) (old into : List ℤ) (count : ℕ) → P (pos 0) → All P (take count old) → take count into ≡ take count old
    → ((j : ℕ) → count ≤ j → j < length into → get_or into j (pos 0) ≡ pos 0) → All P into
all_fit P old into count zero fit same zeros k d lt = elim (cases_lt k count) [
  | inl before ↦ subst P (grind (arith, places)) (subst (All P) (sym same) fit k d (grind (arith, places)))
  | inr le ↦ subst P (sym (default_of into k d lt ∙ zeros k le lt)) zero
]
  where
    default_of : (xs : List ℤ) (k : ℕ) (d : ℤ) → k < length xs → get_or xs k d ≡ get_or xs k (pos 0)
    default_of xs k d lt = grind (arith, places)

-- numbers that were read, with zeros behind them
pub numbers_whole : (place count : ℕ) (all xs : List ℤ) → count ≡ min (length xs) (length all - place) → take count xs ≡ take count (drop place all)
    → ((j : ℕ) → count ≤ j → j < length xs → get_or xs j (pos 0) ≡ pos 0) → AreNumbersAt place (length xs) all xs
numbers_whole place count all xs is same zeros j lt = elim (cases_lt j count) [
  | inl before ↦
      sym (get_or-take count xs j (pos 0) before) ∙ ap (λ (l : List ℤ). get_or l j (pos 0)) same ∙ get_or-take count (drop place all) j (pos 0) before ∙ get_or-drop place all j (pos 0)
  | inr past ↦ zeros j past lt ∙ sym (get_or_past all (place + j) (pos 0) (omega (arith, is, past, lt)))
]
