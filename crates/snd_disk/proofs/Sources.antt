-- What comes from lists that come from others.
use Rattle.std.proofs.Common.{◌≡◌, ◌⊎◌, inl, inr, ⊎_elim, ℕ, suc, ◌+◌, ◌<◌, ◌≤◌, ◌/◌, List, [], ◌∷◌, ◌++◌, length, get_or, take, min, refl, sym, ◌∙◌, ap, subst, arith}
use Rattle.std.specs.List.{All}
use Rattle.std.proofs.lemmas.List.{take_all, get_or_past, get_or-take, length-take}
use Rattle.std.proofs.lemmas.Bool.{cases_lt}
use Rattle.snd_disk.specs.Bytes.{Mix, HasSectorOf}
use Rattle.snd_disk.specs.Runs.{IsSource, ComesFrom, IsMade, HasFieldOf}

-- the byte of a list that ends before a place, or where the list ends too
take_at : (n : ℕ) (y : List ℕ) (i : ℕ) → i < n → get_or (take n y) i 0 ≡ get_or y i 0
take_at n y i lt = get_or-take n y i 0 lt

take_past : (n : ℕ) (y : List ℕ) (i : ℕ) → n ≤ i → get_or (take n y) i 0 ≡ 0
take_past n y i le = get_or_past (take n y) i 0 (omega (arith, length-take n y))

-- a sector of a sector, both up to an end
pub sector_of_sector : (x y z : List ℕ) (n m k : ℕ) → HasSectorOf x (take n y) k → HasSectorOf y (take m z) k → HasSectorOf x (take (min n (min m (length y))) z) k
sector_of_sector x y z n m k outer inner i in_sector within = elim (cases_lt i (min n (min m (length y)))) [
  | inl lt ↦
      outer i in_sector within
      ∙ take_at n y i (omega arith)
      ∙ inner i in_sector (omega arith)
      ∙ take_at m z i (omega arith)
      ∙ sym (take_at (min n (min m (length y))) z i lt)
  | inr past ↦ outer i in_sector within ∙ zero_past past ∙ sym (take_past (min n (min m (length y))) z i past)
]
  where
    zero_past : min n (min m (length y)) ≤ i → get_or (take n y) i 0 ≡ 0
    zero_past past = elim (cases_lt i n) [
      | inl lt ↦ take_at n y i lt ∙ elim (cases_lt i (length y)) [
        | inl in_y ↦ inner i in_sector in_y ∙ take_past m z i (omega arith)
        | inr past_y ↦ get_or_past y i 0 past_y
      ]
      | inr le ↦ take_past n y i le
    ]

module _ (source : List ℕ → Type 0) where
  pub comes_itself : (x : List ℕ) → source x → ComesFrom source x
  comes_itself x is = record {
    size = (x, is, refl);
    sectors = λ k. (x, x, is, is, λ i in_sector within. sym (take_at (length x) x i within));
  }

  pub comes_of_mix : (y z x : List ℕ) → source y → source z → Mix y z x → ComesFrom source x
  comes_of_mix y z x of_y of_z mix = record {
    size = ⊎_elim (λ h. (y, of_y, h)) (λ h. (z, of_z, h)) mix.size;
    sectors = λ k. ⊎_elim (λ h. (y, y, of_y, of_y, λ i in_sector within. h i in_sector within ∙ whole y i)) (λ h. (z, z, of_z, of_z, λ i in_sector within. h i in_sector within ∙ whole z i)) (mix.sectors k);
  }
    where
      whole : (y : List ℕ) (i : ℕ) → get_or y i 0 ≡ get_or (take (length y) y) i 0
      whole y i = ap (λ l. get_or l i 0) (sym (take_all (length y) y (omega arith)))

  shorter : (u v : List ℕ) → source u → source v → (w : List ℕ) × source w × (length w ≡ min (length u) (length v))
  shorter u v of_u of_v = elim (cases_lt (length u) (length v)) [
    | inl lt ↦ (u, of_u, omega arith)
    | inr le ↦ (v, of_v, omega arith)
  ]

  pub byte_from : (x : List ℕ) → ComesFrom source x → (i : ℕ) → (y : List ℕ) × source y × (get_or x i 0 ≡ get_or y i 0)
  byte_from x from i = elim (cases_lt i (length x)) [
    | inl within ↦ in_sector within (from.sectors (i / 512))
    | inr past ↦ (from.size.0, from.size.1, get_or_past x i 0 past ∙ sym (get_or_past from.size.0 i 0 (omega (arith, from.size.2))))
  ]
    where
      in_sector : i < length x → (y end : List ℕ) × source y × source end × HasSectorOf x (take (length end) y) (i / 512) → (y : List ℕ) × source y × (get_or x i 0 ≡ get_or y i 0)
      in_sector within (y, end, of_y, of_end, has) = elim (cases_lt i (length end)) [
        | inl lt ↦ (y, of_y, has i refl within ∙ take_at (length end) y i lt)
        | inr le ↦ (end, of_end, has i refl within ∙ take_past (length end) y i le ∙ sym (get_or_past end i 0 le))
      ]

-- what comes from lists that come from others comes from these
module _ (source source' : List ℕ → Type 0) (each : (y : List ℕ) → source y → ComesFrom source' y) where
  sector_from : (x : List ℕ) (k : ℕ) → (y end : List ℕ) × source y × source end × HasSectorOf x (take (length end) y) k → (y end : List ℕ) × source' y × source' end × HasSectorOf x (take (length end) y) k
  sector_from x k (y, end, of_y, of_end, has) =
      let from = each y of_y in
      let inner = from.sectors k in
      let end' = each end of_end in
      let near = shorter source' inner.1 from.size.0 inner.3 from.size.1 in
      let nearest = shorter source' end'.size.0 near.0 end'.size.1 near.1 in
      let len : min (length end) (min (length inner.1) (length y)) ≡ length nearest.0 = omega (arith, nearest.2, near.2, end'.size.2, from.size.2) in (
        inner.0,
        nearest.0,
        inner.2,
        nearest.1,
        subst (λ (n : ℕ). HasSectorOf x (take n inner.0) k) len (sector_of_sector x y inner.0 (length end) (length inner.1) k has inner.4),
      )

  pub comes_on : (x : List ℕ) → ComesFrom source x → ComesFrom source' x
  comes_on x from = record {
    size = let of_size = each from.size.0 from.size.1 in (of_size.size.0, of_size.size.1, from.size.2 ∙ of_size.size.2);
    sectors = λ k. sector_from x k (from.sectors k);
  }

-- the sources of a run are sources of a longer one
module _ (before : List ℕ → Type 0) where
  pub was_source : (held : List (List ℕ)) (y : List ℕ) → before y → IsSource before held y
  was_source [] y is = is
  was_source (b ∷ held) y is = inr (was_source held y is)

  pub source_front : (h k : List (List ℕ)) (y : List ℕ) → IsSource before h y → IsSource before (h ++ k) y
  source_front [] k y is = was_source k y is
  source_front (b ∷ h) k y (inl is) = inl is
  source_front (b ∷ h) k y (inr is) = inr (source_front h k y is)

  source_middle : (h k : List (List ℕ)) (b y : List ℕ) → y ≡ b → IsSource before (h ++ b ∷ k) y
  source_middle [] k b y is = inl is
  source_middle (c ∷ h) k b y is = inr (source_middle h k b y is)

  source_wider : (h k : List (List ℕ)) (b y : List ℕ) → IsSource before (h ++ k) y → IsSource before (h ++ b ∷ k) y
  source_wider [] k b y is = inr is
  source_wider (c ∷ h) k b y (inl is) = inl is
  source_wider (c ∷ h) k b y (inr is) = inr (source_wider h k b y is)

  pub source_back : (before' : List ℕ → Type 0) (h k : List (List ℕ)) (y : List ℕ) → IsSource before' k y → before' y ⊎ IsSource before (h ++ k) y
  source_back before' h [] y is = inl is
  source_back before' h (b ∷ k) y (inl is) = inr (source_middle h k b y is)
  source_back before' h (b ∷ k) y (inr is) = ⊎_elim (λ was. inl was) (λ later. inr (source_wider h k b y later)) (source_back before' h k y is)

  -- where each list held has a byte of one of the images, each source has
  pub same_place : (b : List ℕ) (i : ℕ) → before b → (held : List (List ℕ)) → All (λ h. get_or h i 0 ≡ get_or b i 0) held → (y : List ℕ) → IsSource before held y → (w : List ℕ) × before w × (get_or y i 0 ≡ get_or w i 0)
  same_place b i is [] all y of_y = (y, of_y, refl)
  same_place b i is (h ∷ held) all y (inl of_y) = (b, is, ap (λ l. get_or l i 0) of_y ∙ all 0 [] (omega arith))
  same_place b i is (h ∷ held) all y (inr of_y) = same_place b i is held (λ k d lt. all (suc k) d (omega arith)) y of_y

  -- .. and so for a field
  pub same_field : (b : List ℕ) (at n : ℕ) → before b → (held : List (List ℕ)) → All (λ h. HasFieldOf h b at n) held → (y : List ℕ) → IsSource before held y → (w : List ℕ) × before w × HasFieldOf y w at n
  same_field b at n is [] all y of_y = (y, of_y, λ j lt. refl)
  same_field b at n is (h ∷ held) all y (inl of_y) = (b, is, λ j lt. ap (λ l. get_or l (at + j) 0) of_y ∙ all 0 [] (omega arith) j lt)
  same_field b at n is (h ∷ held) all y (inr of_y) = same_field b at n is held (λ k d lt. all (suc k) d (omega arith)) y of_y

  -- what a run leaves comes from its sources
  pub made_comes : (held : List (List ℕ)) (x : List ℕ) → IsMade before held x → ComesFrom (IsSource before held) x
  made_comes [] x made = comes_itself before x made
  made_comes (b ∷ held) x made = made

  pub made_more : (h : List (List ℕ)) (b : List ℕ) (k : List (List ℕ)) (x : List ℕ) → ComesFrom (IsSource before (h ++ b ∷ k)) x → IsMade before (h ++ b ∷ k) x
  made_more [] b k x from = from
  made_more (c ∷ h) b k x from = from

  pub made_front : (h k : List (List ℕ)) (x : List ℕ) → IsMade before h x → IsMade before (h ++ k) x
  made_front [] [] x made = made
  made_front [] (b ∷ k) x made = comes_itself (IsSource before (b ∷ k)) x (was_source (b ∷ k) x made)
  made_front (b ∷ h) k x made = comes_on (IsSource before (b ∷ h)) (IsSource before (b ∷ h ++ k)) (λ y of_y. comes_itself (IsSource before (b ∷ h ++ k)) y (source_front (b ∷ h) k y of_y)) x made

  -- .. of a second run too, where its start was left by a first
  pub made_back : (before' : List ℕ → Type 0) (h k : List (List ℕ)) → ((x : List ℕ) → before' x → IsMade before h x) → (x : List ℕ) → IsMade before' k x → IsMade before (h ++ k) x
  made_back before' h [] first x made = made_front h [] x (first x made)
  made_back before' h (b ∷ k) first x made = made_more h b k x (comes_on (IsSource before' (b ∷ k)) (IsSource before (h ++ b ∷ k)) each x made)
    where
      each : (y : List ℕ) → IsSource before' (b ∷ k) y → ComesFrom (IsSource before (h ++ b ∷ k)) y
      each y of_y = ⊎_elim (λ was. made_comes (h ++ b ∷ k) y (made_front h (b ∷ k) y (first y was))) (λ later. comes_itself (IsSource before (h ++ b ∷ k)) y later) (source_back before' h (b ∷ k) y of_y)
