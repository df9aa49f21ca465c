use Rattle.std.proofs.Common.{◌∙◌, ap}
use Rattle.snd_fields.specs.Field.{bytes_of}
use Rattle.snd_fields.specs.declared.field.Order.TheVariants.{Little}
use Rattle.snd_rf64.specs.Values.{inner_value}
use Rattle.snd_rf64.proofs.values.inner_bytes.Goals as goal

pub returns : goal.returns
unfolding inner_value
returns c = c.number_bytes.ensures ∙ ap (bytes_of Little 8) c.bytes_in.ensures
