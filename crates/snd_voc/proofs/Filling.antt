-- Bytes that are read into zeros.
use Rattle.std.proofs.Common.{◌≡◌, ℕ, ◌+◌, ◌-◌, ◌<◌, ◌≤◌, List, length, take, drop, get_or, sym, ap, ◌∙◌, inl, inr, arith}
use Rattle.std.proofs.lemmas.Bool.{cases_lt}
use Rattle.std.proofs.lemmas.List.{get_or-take, get_or-drop, get_or-replicate, get_or_past}
use Rattle.std.specs.Prelude.{min, replicate}
use Rattle.snd_fields.proofs.Numbers.{number_same}
use Rattle.snd_fields.specs.Field.{number}
use Rattle.snd_fields.specs.declared.field.Order.TheVariants.{Little}
use Rattle.snd_voc.specs.Parts.{AgreesFrom}

front_same : (b x : List ℕ) (at n i : ℕ) → take n x ≡ take n (drop at b) → i < n → get_or x i 0 ≡ get_or b (at + i) 0
front_same b x at n i same lt = sym (get_or-take n x i 0 lt) ∙ ap (λ (l : List ℕ). get_or l i 0) same ∙ get_or-take n (drop at b) i 0 lt ∙ get_or-drop at b i 0

rest_zero : (b h x : List ℕ) (at n i : ℕ) → h ≡ replicate (length h) 0 → drop n x ≡ drop n h → n ≡ min (length h) (length b - at) → i < length h → n ≤ i → get_or x i 0 ≡ get_or b (at + i) 0
rest_zero b h x at n i zeros same count lt from =
    let place : n + (i - n) ≡ i = omega arith in
    let by_x : get_or x i 0 ≡ get_or h i 0 =
    ap (λ k. get_or x k 0) (sym place) ∙ sym (get_or-drop n x (i - n) 0) ∙ ap (λ (l : List ℕ). get_or l (i - n) 0) same ∙ get_or-drop n h (i - n) 0 ∙ ap (λ k. get_or h k 0) place in
    let by_h : get_or h i 0 ≡ 0 = ap (λ (l : List ℕ). get_or l i 0) zeros ∙ get_or-replicate (length h) i 0 0 lt in
    by_x ∙ by_h ∙ sym (get_or_past b (at + i) 0 (omega (arith, count)))

pub filled : (b h x : List ℕ) (at n : ℕ) → h ≡ replicate (length h) 0 → take n x ≡ take n (drop at b) → drop n x ≡ drop n h → n ≡ min (length h) (length b - at) → AgreesFrom b at (length h) x
filled b h x at n zeros front rest count i lt = elim (cases_lt i n) [
  | inl before ↦ front_same b x at n i front before
  | inr from ↦ rest_zero b h x at n i zeros rest count lt from
]

-- a number in them
pub number_at : (b x : List ℕ) (at n k m : ℕ) → AgreesFrom b at n x → k + m ≤ n → number Little x k m ≡ number Little b (at + k) m
number_at b x at n k m same within =
    number_same Little m k (at + k) x b (λ i p q lt pe qe.
    let there : at + (k + i) ≡ q = omega arith in
    rw (pe, ← there) (same (k + i) (omega arith)))
