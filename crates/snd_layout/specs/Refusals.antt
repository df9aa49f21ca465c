-- Which refusal is answered, where several conditions may hold.
use Rattle.std.specs.Prelude.{Bool, Option, Some, None, Result, Ok, Err, List, [], ◌∷◌, if◌then◌else◌}
use Rattle.snd_layout.specs.declared.refusal.OpenRefusal.{OpenRefusal}

-- a refusal where a condition holds
abbrev pub refuse_if : Bool → OpenRefusal → Option OpenRefusal
refuse_if holds refusal = if holds then Some refusal else None

-- the first of a list
abbrev pub first_refusal : List (Option OpenRefusal) → Option OpenRefusal
first_refusal [] = None
first_refusal (None ∷ rest) = first_refusal rest
first_refusal (Some refusal ∷ rest) = Some refusal

-- a value, unless it is refused
abbrev pub unless : {T : Type 0} → Option OpenRefusal → T → Result T OpenRefusal
unless None value = Ok value
unless (Some refusal) value = Err refusal
