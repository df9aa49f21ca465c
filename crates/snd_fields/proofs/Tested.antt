-- Lists that are known are of bytes, by a test.
use Rattle.std.proofs.Common.{◌≡◌, ℕ, Bool, true, ◌&&◌, List, [], ◌∷◌, All}
use Rattle.std.proofs.lemmas.Bool.{and_parts, ltb-true}
use Rattle.std.proofs.lemmas.List.Elements.{All-cons, All-nil}
use Rattle.std.specs.Prelude.{nat_lt}
use Rattle.snd_fields.specs.Laws.{IsByte}

abbrev are_bytes : List ℕ → Bool
are_bytes [] = true
are_bytes (x ∷ xs) = nat_lt x 256 && are_bytes xs

pub from_test : (xs : List ℕ) → are_bytes xs ≡ true → All IsByte xs
from_test [] is = All-nil IsByte
from_test (x ∷ xs) is = let parts = and_parts (nat_lt x 256) (are_bytes xs) is in All-cons IsByte x xs (ltb-true x 256 parts.0) (from_test xs parts.1)
