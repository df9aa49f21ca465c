-- The kind of sound file that a name's suffix stands for.
use Rattle.std.specs.Prelude.{ℕ, Bool, ◌==◌, not, List, Option, None, Some, length, nat_lt, if◌then◌else◌}
use Rattle.std.specs.List.{after_last, suffix_len}
use Rattle.std.specs.Option.{option_and_then}
use Rattle.snd_layout.specs.Kinds.{kind_of_suffix}
use Rattle.snd_layout.specs.declared.kind.Kind.{Kind}

abbrev pub is_dot : ℕ → Bool
is_dot c = c == 46

-- how many bytes stand behind the last dot of a name; all of them, where it has none
abbrev pub count_behind_dot : List ℕ → ℕ
count_behind_dot name = suffix_len (λ c. not (is_dot c)) name

-- what stands behind the last dot of a name, where it has a dot
unfoldable pub suffix_of : List ℕ → Option (List ℕ)
suffix_of name = if nat_lt (count_behind_dot name) (length name) then Some (after_last is_dot name) else None

abbrev pub kind_by_suffix : List ℕ → Option Kind
kind_by_suffix name = option_and_then kind_of_suffix (suffix_of name)
