-- What a crash leaves while a file is promoted.
use Rattle.std.proofs.Common.{◌≡◌, ◌⊎◌, ⊎_elim, ℕ, ◌+◌, ◌-◌, ◌<◌, ◌≤◌, List, Ok, length, get_or, refl, sym, ap, ◌∙◌, inl, inr, arith}
use Rattle.std.proofs.lemmas.Bool.{cases_lt}
use Rattle.std.proofs.lemmas.List.{get_or_default, same_lists}
use Rattle.snd_disk.specs.Runs.{HasAt, HasFieldOf, IsBeside, IsInOneSector, IsPatching}
use Rattle.snd_rf64.specs.Layout.{rf64_layout}
use Rattle.snd_ds64.proofs.Fronts.{length-new_front}
use Rattle.snd_ds64.proofs.Kept.{AreThere, are_there, beside_size, both_beside, both_first, both_length, both_second}
use Rattle.snd_ds64.proofs.Opens.{promoted_reads_back}
use Rattle.snd_ds64.specs.Laws.{PromotesFromTo, PromotingIsWhole}
use Rattle.snd_ds64.specs.Promoted.{new_front, new_size, promoted, promoted_shape}

-- the first bytes lie in one sector
pub in_one : (n : ℕ) → n ≡ 48 → IsInOneSector 0 n
in_one n is = rw is refl

-- what has both places as they were is as it was
pub all_old : (b x : List ℕ) (at : ℕ) (f s : List ℕ) → IsPatching b 0 f at s x → HasFieldOf x b 0 (length f) → HasFieldOf x b at (length s) → x ≡ b
all_old b x at f s way first second = same_lists x b way.size (λ i d lt.
    get_or_default x i d 0 lt ∙ by_place i (cases_lt i (length f)) (cases_lt i at) (cases_lt i (at + length s)) ∙ get_or_default b i 0 d (omega (arith, lt, way.size)))
  where
    nought : (i : ℕ) → 0 + i ≡ i
    nought i = omega arith

    by_place : (i : ℕ) → (i < length f) ⊎ (length f ≤ i) → (i < at) ⊎ (at ≤ i) → (i < at + length s) ⊎ (at + length s ≤ i) → get_or x i 0 ≡ get_or b i 0
    by_place i (inl in_first) _ _ = ap (λ k. get_or x k 0) (sym (nought i)) ∙ first i in_first ∙ ap (λ k. get_or b k 0) (nought i)
    by_place i (inr past) (inl before) _ = way.beside i (inr (omega (arith, past))) (inl before)
    by_place i (inr past) (inr from) (inr behind) = way.beside i (inr (omega (arith, past))) (inr behind)
    by_place i (inr past) (inr from) (inl within) =
        let here : at + (i - at) ≡ i = omega (arith, from) in
        rw here at (second (i - at) (omega (arith, from, within)))

pub promoting_is_whole : PromotingIsWhole
promoting_is_whole b x h n may way = ⊎_elim
    (λ second. ⊎_elim (λ first. inl (all_old b x (h.start - 4) (new_front h n) new_size way first second)) (λ new. inr (back new)) (way.first (in_one (length (new_front h n)) (length-new_front h n))))
    (λ new. inr (back new)) way.ordered
  where
    are : AreThere b h n
    are = are_there b h n may

    back : HasAt x 0 (new_front h n) → rf64_layout x ≡ Ok (promoted_shape h n)
    back new = promoted_reads_back b x h n may new (λ i from to. way.beside i (inr (omega (arith, from, length-new_front h n))) (beside_size h i are.early (inl to))) (omega (arith, way.size, may.there))

pub promotes_from_to : PromotesFromTo
promotes_from_to b h n may = (
  record { size = refl; beside = λ i one two. refl; first = λ one. inl (λ j lt. refl); second = λ one. inl (λ j lt. refl); ordered = inl (λ j lt. refl) },
  record {
    size = both_length b (new_front h n) new_size (h.start - 4) are.apart are.within;
    beside = λ i one two. besides i one two;
    first = λ one. inr new;
    second = λ one. inr (both_second b (new_front h n) new_size (h.start - 4) are.apart are.within);
    ordered = inr new;
  },
)
  where
    are : AreThere b h n
    are = are_there b h n may

    new : HasAt (promoted b h n) 0 (new_front h n)
    new = both_first b (new_front h n) new_size (h.start - 4) are.apart are.within

    besides : (i : ℕ) → IsBeside i 0 (length (new_front h n)) → IsBeside i (h.start - 4) (length new_size) → get_or (promoted b h n) i 0 ≡ get_or b i 0
    besides i (inl before) two = absurd (omega (arith, before))
    besides i (inr past) two = both_beside b (new_front h n) new_size (h.start - 4) are.apart are.within i (omega (arith, past)) two
