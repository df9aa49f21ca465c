use Rattle.std.proofs.Common.{◌∙◌, arith}
use Rattle.snd_interleave.proofs.held.I32Held.join.Goals as goal

pub returns-clause-left : goal.returns-clause-left
returns-clause-left c = λ codec served j lt.
    c.put_numbers-2.ensures.others j 0 (omega (arith, lt, c.requires.alike)) (omega arith) (λ same. absurd (omega (arith, same))) ∙ c.put_numbers.ensures.put j (omega (arith, lt, c.requires.size))

pub returns-clause-right : goal.returns-clause-right
returns-clause-right c = λ codec served j lt. c.put_numbers-2.ensures.put j (omega (arith, lt, c.requires.alike))
