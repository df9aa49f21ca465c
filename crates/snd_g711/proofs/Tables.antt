-- A table of the values of every byte.
use Rattle.std.proofs.Common.{◌≡◌, ap, ◌∙◌, ℕ, ℤ, ◌<◌, pos, map, get_or, to_z, of_z, FitsSigned, arith}
use Rattle.std.specs.Int.{w16, w32}
use Rattle.std.specs.List.{range_with_len}
use Rattle.std.proofs.lemmas.List.FromFn.{get_or-map-range_with_len}
use Rattle.snd_g711.proofs.Widths.{through_wide}

-- an entry, as the code reads it
pub table_entry : (f : ℕ → ℤ) → ((byte : ℕ) → FitsSigned w16 (f byte)) → (byte n : ℕ) → byte < 256 → n ≡ byte → to_z w32 (of_z w32 (get_or (map f (range_with_len 0 256)) n (pos 0))) ≡ f byte
table_entry f fits byte n lt same =
    through_wide _ (f byte) (ap (λ (k : ℕ). get_or (map f (range_with_len 0 256)) k (pos 0)) same ∙ get_or-map-range_with_len f 0 256 byte byte (pos 0) lt (omega arith)) (fits byte)
