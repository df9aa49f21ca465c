use Rattle.std.proofs.Common.{ap, sym, ◌∙◌}
use Rattle.snd_app.specs.Outcome.{found_of}
use Rattle.snd_app.specs.declared.look.Found.TheVariants.{Refused}
use Rattle.snd_app.proofs.look.found_on.Goals as goal

pub returns-in-Err-Refused-clause-found : goal.returns-in-Err-Refused-clause-found
returns-in-Err-Refused-clause-found g c = λ b told.
    ap (λ refusal. Refused refusal) c.in-Err-Refused.refusal-is
    ∙ sym (ap (found_of b) (c.in-Err-Refused.ensures.opened c.in-Err-Refused.refusal b c.in-Err-Refused.field-0-is told))
