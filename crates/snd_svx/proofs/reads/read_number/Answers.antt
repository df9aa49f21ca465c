use Rattle.std.proofs.Common.{◌∙◌, add-zero, refl}
use Rattle.snd_chunks.proofs.Public.{same_number}
use Rattle.snd_fields.specs.declared.field.Order.TheVariants.{Big}
use Rattle.snd_svx.proofs.Bodies.{filled_agrees}
use Rattle.snd_svx.proofs.reads.read_number.Goals as goal

pub returns-clause-told : goal.returns-clause-told
returns-clause-told g c = λ b told.
    rw (← add-zero c.args.at) (c.u32_at.ensures ∙ same_number Big 0 4 4 c.args.at _ b refl (filled_agrees 4 c.args.at _ b (c.in_ok-fill.ensures.told b told)))
