-- The command `gen`, by the words behind it.
use Rattle.std.specs.Prelude.{ℕ, ◌&&◌, List, [], ◌∷◌, Option, None, Some, nat_le, if◌then◌else◌}
use Rattle.snd_fields.specs.Decimal.{decimal}
use Rattle.snd_words.specs.Asked.{Asked, Work}
use Rattle.snd_words.specs.Names.{is_name}

-- a number that is not below one and not above another
abbrev pub within : ℕ → ℕ → Option ℕ → Option ℕ
within least most None = None
within least most (Some n) = if nat_le least n && nat_le n most then Some n else None

unfoldable pub number_within : ℕ → ℕ → List ℕ → Option ℕ
number_within least most word = within least most (decimal word)

abbrev pub gen_with : Option ℕ → Option ℕ → List ℕ → Asked
gen_with (Some seed) (Some frames) name = Asked.tool (Work.gen seed frames name)
gen_with seed frames name = Asked.nothing

-- `gen SEED N NAME`: a seed of 32 bits, 1 to 10000000 frames
unfoldable pub gen_asked : List (List ℕ) → Asked
gen_asked (seed ∷ frames ∷ name ∷ []) =
    if is_name name then gen_with (number_within 0 4294967295 seed) (number_within 1 10000000 frames) name else Asked.nothing
gen_asked words = Asked.nothing
