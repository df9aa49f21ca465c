-- Numbers that are changed one after the other, and widths that are the same.
use Rattle.std.proofs.Common.{◌≡◌, ◌∙◌, ap, sym, refl, subst, inl, inr, set, get_or, ◌<◌, ℕ, ◌+◌, ◌-◌, ◌≤◌, ℤ, pos, negsuc, List, [], ◌∷◌, length, cond, Bool, arith}
use Rattle.std.proofs.lemmas.Bool.{cases_lt, le-leb}
use Rattle.std.proofs.lemmas.Grind.{get_or-set_at}
use Rattle.std.proofs.lemmas.Int.{ints}
use Rattle.std.proofs.lemmas.List.{get_or-set_other, length-set}
use Rattle.std.specs.Prelude.{◌*ℤ◌, ◌^◌}
use Rattle.snd_pcm.specs.Width.{changed, floor_div}
use Rattle.snd_recode.specs.Recoded.{changed_all}

times_one : (x : ℤ) → x *ℤ pos 1 ≡ x
times_one (pos n) = omega (arith, ints)
times_one (negsuc n) = omega (arith, ints)

same_width : (w : ℕ) (x : ℤ) → changed w w x ≡ x
same_width w x =
    let none : w - w ≡ 0 = omega arith in
    ap (λ (t : Bool). cond t (x *ℤ pos (2 ^ (w - w))) (floor_div x (2 ^ (w - w)))) (le-leb w w (omega arith))
    ∙ ap (λ (k : ℕ). x *ℤ pos (2 ^ k)) none ∙ times_one x

pub all_same_width : (w : ℕ) (xs : List ℤ) → changed_all w w xs ≡ xs
all_same_width w [] = refl
all_same_width w (x ∷ xs) = ap (λ (y : ℤ). y ∷ changed_all w w xs) (same_width w x) ∙ ap (λ (ys : List ℤ). x ∷ ys) (all_same_width w xs)

-- what holds of each number of a front, and of the next one that is put
pub fit_more : (P : ℤ → Type 0) (xs : List ℤ) (i : ℕ) (y : ℤ) → i < length xs → P y → ((k : ℕ) (d : ℤ) → k < i → P (get_or xs k d)) → (k : ℕ) (d : ℤ) → k < i + 1 → P (get_or (set xs i y) k d)
fit_more P xs i y within is so_far = λ k d lt. elim (cases_lt k i) [
  | inl before ↦ subst P (sym (get_or-set_other xs i k y d (λ same. absurd (omega (arith, same, before))))) (so_far k d before)
  | inr le ↦ subst P (sym (get_or-set_at xs i k y d (omega (arith, lt, le)) within)) is
]

-- .. and the numbers behind it stay
pub rest_more : (xs ys : List ℤ) (i : ℕ) (y : ℤ) → ((k : ℕ) (d : ℤ) → i ≤ k → k < length xs → get_or xs k d ≡ get_or ys k d)
    → (k : ℕ) (d : ℤ) → i + 1 ≤ k → k < length (set xs i y) → get_or (set xs i y) k d ≡ get_or ys k d
rest_more xs ys i y stays = λ k d behind lt.
    get_or-set_other xs i k y d (λ same. absurd (omega (arith, same, behind))) ∙ stays k d (omega (arith, behind)) (omega (arith, lt, length-set xs i y))

pub set_same : (xs : List ℤ) (i : ℕ) (y z : ℤ) → y ≡ z → set xs i y ≡ set xs i z
set_same xs i y z same = ap (set xs i) same
