-- What the search for a line answers.
use Rattle.std.specs.Prelude.{ℕ, ◌-◌, ◌≤◌, List, ◌∷◌, Option, None, Some, Result, Ok, Err, drop, take}
use Rattle.snd_layout.specs.declared.refusal.OpenRefusal.{OpenRefusal}
use Rattle.snd_sphere.specs.Lines.{TextLine, only}
use Rattle.snd_sphere.specs.declared.line.Line.{Line}

-- the bytes of a header from a place on and before another
abbrev pub part : List ℕ → ℕ → ℕ → List ℕ
part header at end = take (end - at) (drop at header)

abbrev pub line_at : List ℕ → Line → TextLine
line_at header line = record { at = line.at; text = part header line.at line.end }

abbrev pub found : List ℕ → Result (Option Line) OpenRefusal → Result (Option TextLine) OpenRefusal
found header (Err refusal) = Err refusal
found header (Ok None) = Ok None
found header (Ok (Some line)) = Ok (Some (line_at header line))

-- a line stands before a place
pub record StandsBefore (place : ℕ) (line : Line) : Type 0 where
  pub ordered : line.at ≤ line.end
  pub within : line.end ≤ place

-- the only line of one that was found, where there is one, and of those that follow
abbrev pub only_of : List ℕ → Option Line → List TextLine → Result (Option TextLine) OpenRefusal
only_of header None rest = only rest
only_of header (Some line) rest = only (line_at header line ∷ rest)
