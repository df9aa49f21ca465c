-- What may be left while what closes the data is put, and while all behind it is cut.
use Rattle.std.proofs.Common.{◌≡◌, inl, inr, ⊎_elim, ℕ, ◌<◌, Bool, true, false, cond, List, [], ◌∷◌, length, get_or, max, take, Some, refl, sym, ◌∙◌, ap, subst, arith}
use Rattle.std.proofs.lemmas.Bool.{cases_Bool, cases_lt}
use Rattle.std.proofs.lemmas.List.{length-take}
use Rattle.std.specs.Prelude.{nat_lt}
use Rattle.snd_disk.specs.Runs.{IsMade, IsSource}
use Rattle.snd_disk.proofs.Public.{length-over, byte_from, made_front}
use Rattle.snd_disk.specs.State.{State}
use Rattle.snd_patch.specs.Laws.{ClosesFromTo, ClosingKeepsPlaces, CutsFromTo, StableStartCloses, StableStartCuts, StartIsMade}
use Rattle.snd_layout.specs.Shape.{Shape, end}
use Rattle.snd_container.specs.Values.{closed_end, closing}
use Rattle.snd_patch.specs.Images.{IsClosing, IsCutting, held_closing, held_cut}
use Rattle.snd_patch.specs.Sealed.{closed, over_closing}
use Rattle.snd_patch.proofs.Bytes.{over_beside, take_before}

module _ (b : List ℕ) (h : Shape) (n : ℕ) where
  before_closing : (i : ℕ) → i < end h n → get_or (over_closing b h n) i 0 ≡ get_or b i 0
  before_closing i lt = over_beside b (end h n) (closing h n) i (inl lt)

  longer : length (over_closing b h n) ≡ max (length b) (closed_end h n)
  longer = length-over b (end h n) (closing h n)

  pub starts_closing : IsClosing b h n b
  starts_closing = record { least = omega arith; most = omega arith; before = λ i lt. refl; behind = λ i. inl refl }

  put_closing : IsClosing b h n (over_closing b h n)
  put_closing = record { least = omega (arith, longer); most = omega (arith, longer); before = before_closing; behind = λ i. inr refl }

  pub ends_closing : IsClosing b h n (closed b h n)
  ends_closing = elim (cases_Bool (nat_lt (length b) (closed_end h n))) [
    | inl is ↦ rw is put_closing
    | inr other ↦ rw other starts_closing
  ]

  pub starts_cutting : IsCutting b h n b
  starts_cutting = record { size = inl refl; before = λ i lt. refl; behind = λ i lt. inl refl }

  over_cutting : IsCutting b h n (over_closing b h n)
  over_cutting = record {
    size = elim (cases_lt (length b) (closed_end h n)) [ inl lt ↦ inr (omega (arith, longer, lt)) | inr le ↦ inl (omega (arith, longer, le)) ];
    before = before_closing;
    behind = λ i lt. inr refl;
  }

  pub ends_cutting : IsCutting b h n (take (closed_end h n) (over_closing b h n))
  ends_cutting = record {
    size = inr (length-take (closed_end h n) (over_closing b h n) ∙ omega (arith, longer));
    before = λ i lt. take_before (over_closing b h n) (closed_end h n) i (omega (arith, lt)) ∙ before_closing i lt;
    behind = λ i lt. inr (take_before (over_closing b h n) (closed_end h n) i lt);
  }

  -- from a start that was stable
  module _ (before : List ℕ → Type 0) (only : (y : List ℕ) → before y → y ≡ b) (x : List ℕ) where
    closing_of : (test : Bool) → IsMade before (cond test (over_closing b h n ∷ []) []) x → IsClosing b h n x
    closing_of false made = subst (IsClosing b h n) (sym (only x made)) starts_closing
    closing_of true made = record {
      least = omega (arith, made.size.2, (each made.size.0 made.size.1).least);
      most = omega (arith, made.size.2, (each made.size.0 made.size.1).most);
      before = λ i lt. let byte = byte_from source x made i in byte.2 ∙ (each byte.0 byte.1).before i lt;
      behind = λ i. let byte = byte_from source x made i in ⊎_elim (λ old. inl (byte.2 ∙ old)) (λ new. inr (byte.2 ∙ new)) ((each byte.0 byte.1).behind i);
    }
      where
        source : List ℕ → Type 0
        source = IsSource before (over_closing b h n ∷ [])

        each : (y : List ℕ) → source y → IsClosing b h n y
        each y (inl is) = subst (IsClosing b h n) (sym is) put_closing
        each y (inr is) = subst (IsClosing b h n) (sym (only y is)) starts_closing

    pub closing_from : IsMade before (held_closing b h n) x → IsClosing b h n x
    closing_from made = closing_of (nat_lt (length b) (closed_end h n)) made

    pub cutting_from : IsMade before (held_cut b h n) x → IsCutting b h n x
    cutting_from made = record {
      size = ⊎_elim (λ old. inl (made.size.2 ∙ old)) (λ new. inr (made.size.2 ∙ new)) (each made.size.0 made.size.1).size;
      before = λ i lt. let byte = byte_from source x made i in byte.2 ∙ (each byte.0 byte.1).before i lt;
      behind = λ i lt. let byte = byte_from source x made i in ⊎_elim (λ old. inl (byte.2 ∙ old)) (λ new. inr (byte.2 ∙ new)) ((each byte.0 byte.1).behind i lt);
    }
      where
        source : List ℕ → Type 0
        source = IsSource before (held_cut b h n)

        each : (y : List ℕ) → source y → IsCutting b h n y
        each y (inl is) = subst (IsCutting b h n) (sym is) over_cutting
        each y (inr (inl is)) = subst (IsCutting b h n) (sym is) ends_cutting
        each y (inr (inr is)) = subst (IsCutting b h n) (sym (only y is)) starts_cutting

pub closes_from_to : ClosesFromTo
closes_from_to b h n = (starts_closing b h n, ends_closing b h n)

pub cuts_from_to : CutsFromTo
cuts_from_to b h n = (starts_cutting b h n, ends_cutting b h n)

module _ {D : Type 0} (state : D → State) (may_leave : D → List ℕ → Type 0) where
  pub start_is_made : StartIsMade may_leave
  start_is_made old b h n x left = made_front (may_leave old) [] (held_closing b h n) x left

  pub stable_start_closes : StableStartCloses may_leave
  stable_start_closes old b h n only x made = closing_from b h n (may_leave old) only x made

  pub stable_start_cuts : StableStartCuts may_leave
  stable_start_cuts old b h n only x made = cutting_from b h n (may_leave old) only x made

  pub closing_keeps_places : ((d : D) (b : List ℕ) → (state d).contents ≡ Some b → may_leave d b) → ClosingKeepsPlaces state may_leave
  closing_keeps_places is_left old b h n told x made i lt = kept (nat_lt (length b) (closed_end h n)) made
    where
      source_place : (y : List ℕ) → IsSource (may_leave old) (over_closing b h n ∷ []) y → (z : List ℕ) × may_leave old z × (get_or y i 0 ≡ get_or z i 0)
      source_place y (inl is) = (b, is_left old b told, ap (λ (l : List ℕ). get_or l i 0) is ∙ before_closing b h n i lt)
      source_place y (inr is) = (y, is, refl)

      kept : (test : Bool) → IsMade (may_leave old) (cond test (over_closing b h n ∷ []) []) x → (z : List ℕ) × may_leave old z × (get_or x i 0 ≡ get_or z i 0)
      kept false left = (x, left, refl)
      kept true from = let byte = byte_from (IsSource (may_leave old) (over_closing b h n ∷ [])) x from i in let place = source_place byte.0 byte.1 in (place.0, place.1, byte.2 ∙ place.2)
