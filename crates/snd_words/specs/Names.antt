-- Names among the words of a command line.
use Rattle.std.specs.Prelude.{ℕ, Bool, ◌&&◌, ◌==◌, not, List, [], ◌∷◌, Option, None, Some, length, slice_index, nat_le, if◌then◌else◌}
use Rattle.std.specs.List.{list_all}
use Rattle.snd_lines.specs.Lines.{is_printed}

-- a name has 1 to 255 bytes, each of them printed and no space, and does not begin with '-'
abbrev pub is_name : List ℕ → Bool
is_name word = nat_le 1 (length word) && nat_le (length word) 255 && list_all is_printed word && not (slice_index word 0 == 45)

-- a word that may be there, where it is a name
abbrev pub name_or_none : Option (List ℕ) → Option (List ℕ)
name_or_none None = None
name_or_none (Some word) = if is_name word then Some word else None

-- words that are names, each of them
abbrev pub names_or_none : List (List ℕ) → Option (List (List ℕ))
names_or_none words = if list_all is_name words then Some words else None

-- two words that are names, and no more
abbrev pub two_names : List (List ℕ) → Option (List ℕ × List ℕ)
two_names (one ∷ two ∷ []) = if is_name one && is_name two then Some (one, two) else None
two_names words = None
