-- Bytes that a write or a cut leaves as they were.
use Rattle.std.proofs.Common.{◌≡◌, inl, inr, ⊎_elim, ℕ, ◌<◌, ◌≤◌, ◌/◌, List, length, get_or, take, refl, sym, ◌∙◌, arith}
use Rattle.std.proofs.lemmas.Bool.{cases_lt}
use Rattle.std.proofs.lemmas.List.{get_or-take, get_or_past, length-take, places}
use Rattle.snd_disk.specs.Bytes.{Mix, over}
use Rattle.snd_disk.specs.Runs.{IsBeside}
use Rattle.snd_disk.proofs.Public.{length-over}

-- bytes beside those that are put stay
pub over_beside : (b : List ℕ) (at : ℕ) (s : List ℕ) (i : ℕ) → IsBeside i at (length s) → get_or (over b at s) i 0 ≡ get_or b i 0
over_beside b at s i (inl lt) = grind (arith, places)
over_beside b at s i (inr le) = grind (arith, places)

both_past : (b x : List ℕ) (i : ℕ) → length b ≤ i → length x ≤ i → get_or x i 0 ≡ get_or b i 0
both_past b x i past past' = get_or_past x i 0 past' ∙ sym (get_or_past b i 0 past)

-- also where the write failed
pub mix_beside : (b : List ℕ) (at : ℕ) (s x : List ℕ) → Mix b (over b at s) x → (i : ℕ) → IsBeside i at (length s) → get_or x i 0 ≡ get_or b i 0
mix_beside b at s x mix i beside = elim (cases_lt i (length x)) [
  | inl lt ↦ ⊎_elim (λ h. h i refl lt) (λ h. h i refl lt ∙ over_beside b at s i beside) (mix.sectors (i / 512))
  | inr le ↦ both_past b x i (⊎_elim (λ same. omega (arith, same, le)) (λ same. omega (arith, same, le, length-over b at s)) mix.size) le
]

-- bytes before a cut stay
pub take_before : (b : List ℕ) (len i : ℕ) → i < len → get_or (take len b) i 0 ≡ get_or b i 0
take_before b len i lt = get_or-take len b i 0 lt

pub cut_before : (b : List ℕ) (len : ℕ) (x : List ℕ) → Mix b (take len b) x → (i : ℕ) → i < len → get_or x i 0 ≡ get_or b i 0
cut_before b len x mix i before = elim (cases_lt i (length x)) [
  | inl lt ↦ ⊎_elim (λ h. h i refl lt) (λ h. h i refl lt ∙ take_before b len i before) (mix.sectors (i / 512))
  | inr le ↦ both_past b x i (⊎_elim (λ same. omega (arith, same, le)) (λ same. omega (arith, same, le, before, length-take len b)) mix.size) le
]
