-- Names that stand twice.
use Rattle.std.specs.Prelude.{ℕ, Bool, List, [], Option, length, take, find, slice_index_or}
use Rattle.std.specs.List.{list_any, range_with_len}
use Rattle.std.specs.Str.{bytes_eq}

-- whether the name at a place equals an earlier one
abbrev pub is_repeated_at : List (List ℕ) → ℕ → Bool
is_repeated_at names at = list_any (bytes_eq (slice_index_or names at [])) (take at names)

-- the first place of which that holds
unfoldable pub first_repeated : List (List ℕ) → Option ℕ
first_repeated names = find (is_repeated_at names) (range_with_len 0 (length names))
