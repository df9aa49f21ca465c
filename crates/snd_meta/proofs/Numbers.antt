-- Numbers in bytes that other bytes precede and follow.
use Rattle.std.proofs.Common.{ℕ, ◌≡◌, ◌<◌, ◌^◌, List, [], ◌∷◌, ◌++◌, length, refl, sym, ap, ◌∙◌}
use Rattle.byteorder.specs.Endian.{little_from, little_bytes}
use Rattle.byteorder.specs.Numbers.{little_from-cons, little_number-reads_back}

-- bytes in front move the place
little_from-skip : (xs ys : List ℕ) (n : ℕ) → little_from (length xs) n (xs ++ ys) ≡ little_from 0 n ys
little_from-skip [] ys n = refl
little_from-skip (x ∷ xs) ys n = little_from-cons (length xs) n x (xs ++ ys) ∙ little_from-skip xs ys n

-- a number that was written is read
pub little_at : (xs rest : List ℕ) (at k n : ℕ) → length xs ≡ at → n < 256 ^ k → little_from at k (xs ++ (little_bytes k n ++ rest)) ≡ n
little_at xs rest at k n e fits =
    ap (λ i. little_from i k (xs ++ (little_bytes k n ++ rest))) (sym e) ∙ little_from-skip xs (little_bytes k n ++ rest) k ∙ little_number-reads_back k n rest fits
