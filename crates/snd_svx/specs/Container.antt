-- 8SVX files as a container.
use Rattle.std.specs.Prelude.{[]}
use Rattle.snd_chunks.specs.Chunks.{padded_end}
use Rattle.snd_layout.specs.Container.{Container}
use Rattle.snd_svx.specs.Layout.{outer_end, svx_layout}
use Rattle.snd_svx.specs.Values.{closing, inner_value, outer_value, side_value}
use Rattle.snd_svx.specs.Written.{made_shape, svx_head}

abbrev pub svx : Container
svx = record {
  layout = svx_layout;
  inner = inner_value;
  outer = outer_value;
  side = side_value;
  closing = closing;
  declared_end = λ h. padded_end h.start h.declared;
  reach = λ kind b. outer_end b;
  head = λ p. svx_head p [];
  made = λ p. made_shape p [] 0;
}
