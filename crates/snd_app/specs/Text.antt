-- Printed lines.
use Rattle.std.specs.Prelude.{ℕ, ◌-◌, List, [], ◌∷◌, ◌++◌, length, replicate, codes, decimal}
use Rattle.snd_lines.specs.Refusals.{refusal_name, refusal_number}
use Rattle.snd_lines.specs.declared.refusal.Refusal.{Refusal}

-- a number's decimal digits, with zeros before them up to a width
abbrev pub padded : ℕ → ℕ → List ℕ
padded width n = replicate (width - length (decimal n)) 48 ++ decimal n

-- the message that a file is refused
abbrev pub refusal : List ℕ → Refusal → List ℕ
refusal name why = codes "snd: " ++ name ++ codes ": error " ++ decimal (refusal_number why) ++ 32 ∷ [] ++ refusal_name why ++ 10 ∷ []
