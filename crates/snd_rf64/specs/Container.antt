-- RF64 as a container.
use Rattle.std.specs.Prelude.{[], length}
use Rattle.snd_chunks.specs.Chunks.{padded_end}
use Rattle.snd_fields.specs.Field.{number}
use Rattle.snd_fields.specs.declared.field.Order.TheVariants.{Little}
use Rattle.snd_layout.specs.Container.{Container}
use Rattle.snd_rf64.specs.Layout.{outer_end, rf64_layout}
use Rattle.snd_rf64.specs.Values.{closing, inner_value, outer_value, side_value}
use Rattle.snd_rf64.specs.Written.{made_shape, rf64_head}

abbrev pub rf64 : Container
rf64 = record {
  layout = rf64_layout;
  inner = inner_value;
  outer = outer_value;
  side = side_value;
  closing = closing;
  declared_end = λ h. padded_end h.start h.declared;
  reach = λ kind b. outer_end (length b) (number Little b 20 8);
  head = λ p. rf64_head p [];
  made = λ p. made_shape p [];
}
