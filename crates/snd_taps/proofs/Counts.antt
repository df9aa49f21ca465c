-- A loop that counts.
use Rattle.std.proofs.Common.{◌≡◌, ℕ, ◌+◌, ◌<◌, ◌≤◌, Bool, cond, List, length, drop, get_or, sym, ◌∙◌, ap}
use Rattle.std.specs.Prelude.{fold}
use Rattle.std.proofs.lemmas.List.{drop_more, drop_all}

module _ {X : Type 0} (p : X → Bool) where
  pub one_more : (xs : List X) (i : ℕ) (d : X) (count one all : ℕ) → i < length xs → one ≡ cond (p (get_or xs i d)) 1 0
      → fold (λ a x. a + cond (p x) 1 0) count (drop i xs) ≡ all → fold (λ a x. a + cond (p x) 1 0) (count + one) (drop (i + 1) xs) ≡ all
  one_more xs i d count one all lt is so_far =
      ap (λ n. fold (λ a x. a + cond (p x) 1 0) (count + n) (drop (i + 1) xs)) is ∙ ap (fold (λ a x. a + cond (p x) 1 0) count) (sym (drop_more xs i d lt)) ∙ so_far

  pub none_left : (xs : List X) (i : ℕ) (count all : ℕ) → length xs ≤ i → fold (λ a x. a + cond (p x) 1 0) count (drop i xs) ≡ all → count ≡ all
  none_left xs i count all le so_far = ap (fold (λ a x. a + cond (p x) 1 0) count) (sym (drop_all i xs le)) ∙ so_far
