use Rattle.std.proofs.Common.{refl, ap, ◌∙◌, ◌++◌}
use Rattle.snd_chunks.specs.Written.{chunks_bytes}
use Rattle.snd_fields.specs.declared.field.Order.TheVariants.{Little}
use Rattle.snd_layout.specs.declared.field.Field.{Field}
use Rattle.snd_wave.specs.Put.{filler_for}
use Rattle.snd_wave.proofs.Putting.{closing_put}
use Rattle.snd_wave.proofs.closing.closing_bytes.Goals as goal

pub returns-clause-items : goal.returns-clause-items
returns-clause-items c =
    closing_put c.args.params.now.codec c.args.end c.fact_size.result _ c.new-bytes.result.items c.put_filler.new.into.items c.put_fact.new.into.items c.put_all.new.into.items c.put_number.new.into.items
    c.fact_size.ensures.size refl c.new-bytes.ensures (c.put_filler.ensures.items ∙ ap (λ (f : Field). c.new-bytes.result.items ++ chunks_bytes Little (filler_for f.at f.size)) c.inner_of.ensures) c.put_fact.ensures.items c.put_all.ensures.items c.put_number.ensures.items
