use Rattle.std.proofs.Common.{◌≡◌, ◌∙◌, sym, ap, Err}
use Rattle.snd_layout.specs.declared.refusal.OpenRefusal.{OpenRefusal}
use Rattle.snd_layout.specs.declared.refusal.OpenRefusal.TheVariants.{TooManyChunks}
use Rattle.snd_voc.proofs.Walking.{last_found, last_passed, last_refused}
use Rattle.snd_voc.proofs.blocks.look_last.Goals as goal

pub returns-in-Found-clause-told : goal.returns-in-Found-clause-told
returns-in-Found-clause-told g c = λ b told.
    last_found b c.args.place c.args.extension c.in-Found.kind (sym c.in-Found.is ∙ c.in_ok-kind.ensures.told b told)

pub returns-in-Refused-clause-told : goal.returns-in-Refused-clause-told
returns-in-Refused-clause-told g c = λ refusal b by told.
    let same : c.in-Refused.refusal ≡ refusal = cc in
    last_refused b c.args.place c.args.extension c.in-Refused.refusal (sym c.in-Refused.is ∙ c.in_ok-kind.ensures.told b told) ∙ ap (λ (r : OpenRefusal). Err r) same

pub returns-in-Passed-clause-told : goal.returns-in-Passed-clause-told
returns-in-Passed-clause-told g c = λ refusal b by told.
    let same : TooManyChunks ≡ refusal = cc in
    last_passed b c.args.place c.args.extension c.in-Passed.field-0 (sym c.in-Passed.is ∙ c.in_ok-kind.ensures.told b told) ∙ ap (λ (r : OpenRefusal). Err r) same
