-- The commands with a list of numbers.
use Rattle.std.specs.Prelude.{ℕ, ◌-◌, ◌^◌, List, [], ◌∷◌, Option, None, Some, option_map, length, nat_le, if◌then◌else◌}
use Rattle.std.specs.Option.{option_and_then}
use Rattle.snd_fields.specs.Decimal.{decimal}
use Rattle.snd_command.specs.Forms.{at_most, signed}
use Rattle.snd_command.specs.Said.{Said}

-- what the words say, where each of them says something
abbrev pub all_of : {T : Type 0} → (List ℕ → Option T) → List (List ℕ) → Option (List T)
all_of form [] = Some []
all_of form (word ∷ words) = option_and_then (λ x. option_map (λ xs. x ∷ xs) (all_of form words)) (form word)

-- `write S S ..`: one number or more
abbrev pub write_said : List (List ℕ) → Option Said
write_said args = if nat_le 1 (length args) then option_map Said.write (all_of signed args) else None

-- a place of a cue point, which has 32 bits
abbrev pub place : List ℕ → Option ℕ
place word = at_most (2 ^ 32 - 1) (decimal word)

-- at most 100 places
abbrev pub places : List (List ℕ) → Option (List ℕ)
places args = if nat_le (length args) 100 then all_of place args else None

-- `set cue N N ..`: one place or more
abbrev pub set_cue_said : List (List ℕ) → Option Said
set_cue_said args = if nat_le 1 (length args) then option_map Said.set_cue (places args) else None
