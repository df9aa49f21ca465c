-- What a promoted file has of the file that it was.
use Rattle.std.proofs.Common.{◌≡◌, ◌⊎◌, ℕ, ◌+◌, ◌-◌, ◌<◌, ◌≤◌, List, length, drop, get_or, sym, subst, ◌∙◌, inl, inr, arith}
use Rattle.std.proofs.lemmas.List.{get_or-drop, get_or_default, length-drop, places, same_lists}
use Rattle.snd_disk.proofs.Public.{length-over, over_in}
use Rattle.snd_disk.specs.Bytes.{over}
use Rattle.snd_disk.specs.Runs.{HasAt, IsBeside}
use Rattle.snd_layout.specs.Shape.{Shape}
use Rattle.snd_ds64.proofs.Fronts.{length-new_front, length-new_size}
use Rattle.snd_ds64.proofs.Reservations.{Reserved, reserved_parts}
use Rattle.snd_ds64.specs.Laws.{PromotedKeeps}
use Rattle.snd_ds64.specs.Promoted.{MayPromote, new_front, new_size, promoted}

-- bytes beside those that are put stay
over_beside : (b : List ℕ) (at : ℕ) (s : List ℕ) (i : ℕ) → IsBeside i at (length s) → get_or (over b at s) i 0 ≡ get_or b i 0
over_beside b at s i (inl lt) = grind (arith, places)
over_beside b at s i (inr le) = grind (arith, places)

-- ---- two places of a list, of which the first is its beginning

module _ (b f s : List ℕ) (at : ℕ) (apart : length f ≤ at) (within : at + length s ≤ length b) where
  abbrev pub both : List ℕ
  both = over (over b 0 f) at s

  pub first_length : length (over b 0 f) ≡ length b
  first_length = omega (arith, length-over b 0 f, apart, within)

  pub both_length : length both ≡ length b
  both_length = omega (arith, length-over (over b 0 f) at s, first_length, within)

  pub both_beside : (i : ℕ) → length f ≤ i → IsBeside i at (length s) → get_or both i 0 ≡ get_or b i 0
  both_beside i past beside = over_beside (over b 0 f) at s i beside ∙ over_beside b 0 f i (inr (omega (arith, past)))

  pub both_first : HasAt both 0 f
  both_first = λ j lt. over_beside (over b 0 f) at s (0 + j) (inl (omega (arith, lt, apart))) ∙ over_in b 0 f (omega (arith, apart, within)) j lt

  pub both_second : HasAt both at s
  both_second = over_in (over b 0 f) at s (omega (arith, first_length, within))

  pub both_behind : drop (at + length s) both ≡ drop (at + length s) b
  both_behind = same_lists (drop (at + length s) both) (drop (at + length s) b) (omega (arith, both_length, length-drop (at + length s) both, length-drop (at + length s) b))
      (λ k d lt.
      let inside : at + length s + k < length both = omega (arith, lt, length-drop (at + length s) both) in
      get_or-drop (at + length s) both k d ∙ get_or_default both (at + length s + k) d 0 inside
      ∙ both_beside (at + length s + k) (omega (arith, apart)) (inr (omega arith))
      ∙ get_or_default b (at + length s + k) 0 d (omega (arith, inside, both_length)) ∙ sym (get_or-drop (at + length s) b k d))

-- ---- the file

-- the two places lie apart, before the data
pub record AreThere (b : List ℕ) (h : Shape) (n : ℕ) : Type 0 where
  pub apart : length (new_front h n) ≤ h.start - 4
  pub within : h.start - 4 + length new_size ≤ length b
  pub early : 56 ≤ h.start
  pub before : h.start - 4 + length new_size ≡ h.start

pub are_there : (b : List ℕ) (h : Shape) (n : ℕ) → MayPromote b h n → AreThere b h n
are_there b h n may =
    let was : Reserved b h = reserved_parts b h n may in
    record {
      apart = omega (arith, was.early, length-new_front h n);
      within = omega (arith, was.early, length-new_size, may.there);
      early = was.early;
      before = omega (arith, was.early, length-new_size);
    }

pub front_there : (b : List ℕ) (h : Shape) (n : ℕ) → MayPromote b h n → HasAt (promoted b h n) 0 (new_front h n)
front_there b h n may = let are = are_there b h n may in both_first b (new_front h n) new_size (h.start - 4) are.apart are.within

pub beside_size : (h : Shape) (i : ℕ) → 56 ≤ h.start → (i + 4 < h.start) ⊎ (h.start ≤ i) → IsBeside i (h.start - 4) (length new_size)
beside_size h i early (inl before) = inl (omega arith)
beside_size h i early (inr behind) = inr (omega (arith, length-new_size))

pub promoted_keeps : PromotedKeeps
promoted_keeps b h n may =
    let are = are_there b h n may in (
      both_length b (new_front h n) new_size (h.start - 4) are.apart are.within,
      λ i past beside. both_beside b (new_front h n) new_size (h.start - 4) are.apart are.within i (omega (arith, past, length-new_front h n)) (beside_size h i are.early beside),
      subst (λ k. drop k (promoted b h n) ≡ drop k b) are.before (both_behind b (new_front h n) new_size (h.start - 4) are.apart are.within),
    )
