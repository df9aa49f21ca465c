use Rattle.std.proofs.Common.{ap, ◌∙◌, ◌++◌}
use Rattle.snd_chunks.specs.Written.{chunks_bytes}
use Rattle.snd_fields.specs.declared.field.Order.TheVariants.{Big}
use Rattle.snd_layout.specs.declared.field.Field.{Field}
use Rattle.snd_wave.specs.Put.{filler_for}
use Rattle.snd_svx.proofs.Putting.{closing_put}
use Rattle.snd_svx.proofs.changing.closing_bytes.Goals as goal

pub returns-clause-items : goal.returns-clause-items
returns-clause-items c =
    closing_put c.args.end c.new-bytes.result.items c.put_filler.new.into.items c.put_all.new.into.items c.put_number.new.into.items c.new-bytes.ensures
    (c.put_filler.ensures.items ∙ ap (λ (f : Field). c.new-bytes.result.items ++ chunks_bytes Big (filler_for f.at f.size)) c.inner_of.ensures) c.put_all.ensures.items c.put_number.ensures.items
