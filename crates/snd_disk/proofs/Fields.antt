-- Fields that a crash leaves whole.
use Rattle.std.proofs.Common.{◌≡◌, ◌⊎◌, inl, inr, ⊎_elim, ℕ, ◌+◌, ◌<◌, ◌≤◌, ◌/◌, List, [], ◌∷◌, length, get_or, ◌∙◌, ap, arith}
use Rattle.std.proofs.lemmas.List.{places, get_or-take}
use Rattle.snd_disk.specs.Bytes.{over, Mix}
use Rattle.snd_disk.specs.Runs.{IsSource, ComesFrom, IsMade, IsInOneSector, HasFieldOf, HasAt, IsBeside, IsWriting}
use Rattle.snd_disk.proofs.Lists.{length-over}
use Rattle.snd_disk.proofs.Sources.{byte_from}

in_sector : (at n j : ℕ) → IsInOneSector at n → j < n → (at + j) / 512 ≡ at / 512
in_sector at n j one lt = omega arith

pub mix_field : (y z x : List ℕ) (at n : ℕ) → Mix y z x → IsInOneSector at n → at + n ≤ length x → HasFieldOf x y at n ⊎ HasFieldOf x z at n
mix_field y z x at n mix one within =
    ⊎_elim (λ h. inl (λ j lt. h (at + j) (in_sector at n j one lt) (omega arith))) (λ h. inr (λ j lt. h (at + j) (in_sector at n j one lt) (omega arith))) (mix.sectors (at / 512))

module _ (source : List ℕ → Type 0) where
  pub field_from : (at n : ℕ) → IsInOneSector at n → ((y : List ℕ) → source y → at + n ≤ length y) → (x : List ℕ) → ComesFrom source x → (y : List ℕ) × source y × HasFieldOf x y at n
  field_from at n one within x from =
      let has = from.sectors (at / 512) in
      (has.0, has.2, λ j lt. has.4 (at + j) (in_sector at n j one lt) (omega (arith, within from.size.0 from.size.1, from.size.2)) ∙ get_or-take (length has.1) has.0 (at + j) 0 (omega (arith, within has.1 has.3)))

module _ (b : List ℕ) (at : ℕ) (v : List ℕ) (fits : at + length v ≤ length b) where
  pub same_length : length (over b at v) ≡ length b
  same_length = omega (arith, length-over b at v)

  pub over_beside : (i : ℕ) → IsBeside i at (length v) → get_or (over b at v) i 0 ≡ get_or b i 0
  over_beside i (inl lt) = grind (arith, places)
  over_beside i (inr le) = grind (arith, places)

  pub over_in : HasAt (over b at v) at v
  over_in j lt = grind (arith, places)

  module _ (before : List ℕ → Type 0) (only : (x : List ℕ) → before x → x ≡ b) where
    abbrev source : List ℕ → Type 0
    source = IsSource before (over b at v ∷ [])

    source_length : (y : List ℕ) → source y → length y ≡ length b
    source_length y (inl is) = ap length is ∙ same_length
    source_length y (inr is) = ap length (only y is)

    source_beside : (y : List ℕ) → source y → (i : ℕ) → IsBeside i at (length v) → get_or y i 0 ≡ get_or b i 0
    source_beside y (inl is) i beside = ap (λ l. get_or l i 0) is ∙ over_beside i beside
    source_beside y (inr is) i beside = ap (λ l. get_or l i 0) (only y is)

    source_field : (x y : List ℕ) → source y → HasFieldOf x y at (length v) → HasFieldOf x b at (length v) ⊎ HasAt x at v
    source_field x y (inl is) has = inr (λ j lt. has j lt ∙ ap (λ l. get_or l (at + j) 0) is ∙ over_in j lt)
    source_field x y (inr is) has = inl (λ j lt. has j lt ∙ ap (λ l. get_or l (at + j) 0) (only y is))

    pub one_field_changes : (x : List ℕ) → IsMade before (over b at v ∷ []) x → IsWriting b at v x
    one_field_changes x from = record {
      size = from.size.2 ∙ source_length from.size.0 from.size.1;
      beside = λ i beside. let byte = byte_from source x from i in byte.2 ∙ source_beside byte.0 byte.1 i beside;
      whole = λ one. let field = field_from source at (length v) one (λ y of_y. omega (arith, source_length y of_y)) x from in source_field x field.0 field.1 field.2;
    }
