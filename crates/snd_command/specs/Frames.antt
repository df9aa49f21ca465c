-- The commands on frames and on meters.
use Rattle.std.specs.Prelude.{ℕ, List, [], ◌∷◌, Option, None, Some, option_map, codes, if◌then◌else◌}
use Rattle.std.specs.Option.{option_and_then}
use Rattle.std.specs.Str.{bytes_eq}
use Rattle.snd_fields.specs.Decimal.{decimal}
use Rattle.snd_command.specs.Forms.{at_most}
use Rattle.snd_command.specs.Tables.{switch_of, tap_of}
use Rattle.snd_command.specs.Said.{Said}

-- `seek r N`, `seek w N`, `seek rw N`
abbrev pub seek_to : List ℕ → ℕ → Option Said
seek_to which to =
    if bytes_eq which (codes "r") then Some (Said.seek_read to) else (if bytes_eq which (codes "w") then Some (Said.seek_write to) else (if bytes_eq which (codes "rw") then Some (Said.seek_both to) else None))

abbrev pub seek_said : List (List ℕ) → Option Said
seek_said (which ∷ to ∷ []) = option_and_then (seek_to which) (decimal to)
seek_said args = None

-- `read N`, at most 1024
abbrev pub read_said : List (List ℕ) → Option Said
read_said (count ∷ []) = option_map Said.read (at_most 1024 (decimal count))
read_said args = None

-- `truncate N`
abbrev pub truncate_said : List (List ℕ) → Option Said
truncate_said (to ∷ []) = option_map Said.truncate (decimal to)
truncate_said args = None

-- `auto on`, `auto off`
abbrev pub auto_said : List (List ℕ) → Option Said
auto_said (word ∷ []) = option_map Said.auto (switch_of word)
auto_said args = None

-- `tap T`
abbrev pub tap_said : List (List ℕ) → Option Said
tap_said (kind ∷ []) = option_map Said.tap (tap_of kind)
tap_said args = None

-- `untap T`
abbrev pub untap_said : List (List ℕ) → Option Said
untap_said (kind ∷ []) = option_map Said.untap (tap_of kind)
untap_said args = None
