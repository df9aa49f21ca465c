use Rattle.snd_script.proofs.Chains.{brings}
use Rattle.snd_script.proofs.WholeScript.{stops_at_end, stops_too_long}
use Rattle.snd_script.proofs.run.Run.next.Goals as goal

pub returns-in-Ok-Line-clause-brought : goal.returns-in-Ok-Line-clause-brought
returns-in-Ok-Line-clause-brought g c = λ s told.
    let next = rw c.in-Ok-Line.field-0-is at c.in-Ok-Line.ensures.next in
    let comes = next s told in
    (comes.0, comes.1, brings _ _ _ _ _ _ comes.2.1 comes.2.2)

pub returns-in-Ok-End-clause-brought : goal.returns-in-Ok-End-clause-brought
returns-in-Ok-End-clause-brought g c = λ s told.
    let next = rw c.in-Ok-End.field-0-is at c.in-Ok-End.ensures.next in
    let stops = stops_at_end _ _ (next s told).2 in
    (stops.lines, stops.too_long)

pub returns-in-Ok-TooLong-clause-brought : goal.returns-in-Ok-TooLong-clause-brought
returns-in-Ok-TooLong-clause-brought g c = λ s told.
    let next = rw c.in-Ok-TooLong.field-0-is at c.in-Ok-TooLong.ensures.next in
    let stops = stops_too_long _ _ (next s told).2 in
    (stops.lines, stops.too_long)
