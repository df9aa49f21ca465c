-- A disk that is looked at. It is said for the proofs alone.
use Rattle.std.specs.Prelude.{◌≡◌, Result, IfOk}
use Rattle.snd_disk.specs.Device.{IfOkTold}
use Rattle.snd_disk.specs.State.{State}
use Rattle.snd_layout.specs.Shape.{Shape}
use Rattle.snd_lines.specs.declared.refusal.Refusal.{Refusal}
use Rattle.snd_edits.specs.Editing.{opening_of}
use Rattle.snd_inputs.specs.Inputs.{input_as}
use Rattle.snd_inputs.specs.Looking.{LiesWithin, seen_of}

abbrev pub SeesDisk : {D E : Type 0} → (D → State) → D → Result (Result Shape Refusal) E → Type 0
SeesDisk state disk result = IfOkTold state disk result (λ b seen. seen ≡ seen_of (input_as (opening_of b)))

abbrev pub SeesWithin : {D E : Type 0} → (D → State) → D → Result (Result Shape Refusal) E → Type 0
SeesWithin state disk result = IfOk result (λ seen. IfOk seen (LiesWithin (state disk).size))
