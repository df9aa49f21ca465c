-- Options among the words of a command line.
use Rattle.std.specs.Prelude.{ℕ, Bool, ◌==◌, List, [], ◌∷◌, Option, None, Some, option_map, length, take, drop, slice_index, if◌then◌else◌}
use Rattle.std.specs.List.{prefix_len}
use Rattle.std.specs.Option.{option_and_then}
use Rattle.std.specs.Str.{bytes_eq}

-- an option begins with '-'
abbrev pub is_option : List ℕ → Bool
is_option word = slice_index word 0 == 45

-- how many words at the front are options
abbrev pub option_count : List (List ℕ) → ℕ
option_count words = prefix_len is_option words

-- what stands behind a text at the front of a word
unfoldable pub text_behind : List ℕ → List ℕ → Option (List ℕ)
text_behind front word = if bytes_eq (take (length front) word) front then Some (drop (length front) word) else None

-- what a word names in a table
abbrev pub named : {T : Type 0} → List ℕ → List (List ℕ × T) → Option T
named word [] = None
named word (row ∷ rows) = if bytes_eq word row.0 then Some row.1 else named word rows

-- what the words say, where each of them says something
abbrev pub all_of : {W T : Type 0} → (W → Option T) → List W → Option (List T)
all_of form [] = Some []
all_of form (word ∷ words) = option_and_then (λ x. option_map (λ xs. x ∷ xs) (all_of form words)) (form word)

-- what a list of at most one element holds
abbrev pub at_most_one : {T : Type 0} → List T → Option (Option T)
at_most_one [] = Some None
at_most_one (x ∷ []) = Some (Some x)
at_most_one (x ∷ y ∷ xs) = None
