-- The first bytes of a file.
use Rattle.std.proofs.Common.{◌≡◌, ℕ, ◌-◌, List, length, take, drop, min, ◌∙◌, arith}
use Rattle.std.proofs.lemmas.List.{same_lists, places}

-- as many as there are of the first k
pub front_of : (k : ℕ) (b : List ℕ) (n size : ℕ) (into : List ℕ) → n ≡ min k (size - 0) → size ≡ length b → take n into ≡ take n (drop 0 b) → take n into ≡ take k b
front_of k b n size into count told same = same ∙ same_lists _ _ (grind (arith, places)) (λ i d lt. grind (arith, places))
