use Rattle.std.proofs.Common.{◌∙◌, add-zero, refl}
use Rattle.snd_chunks.proofs.Public.{filled_agrees, same_number}
use Rattle.snd_fields.specs.declared.field.Order.TheVariants.{Little}
use Rattle.snd_w64.proofs.reads.read_number.Goals as goal

pub returns-clause-told : goal.returns-clause-told
returns-clause-told g c = λ b told.
    rw (← add-zero c.args.at) (c.u64_at.ensures ∙ same_number Little 0 8 8 c.args.at _ b refl (filled_agrees 8 c.args.at _ b (c.in_ok-fill.ensures.told b told)))
