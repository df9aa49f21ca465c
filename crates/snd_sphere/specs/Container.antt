-- What SPHERE files are to the layers above. Nothing stands behind their data, and no size of the whole before them.
use Rattle.std.specs.Prelude.{◌+◌}
use Rattle.snd_layout.specs.Container.{Container}
use Rattle.snd_sphere.specs.Layout.{sphere_layout}
use Rattle.snd_sphere.specs.Values.{closing, inner_value, outer_value, side_value}
use Rattle.snd_sphere.specs.Written.{made_shape, sphere_head}

abbrev pub sphere : Container
sphere = record {
  layout = sphere_layout;
  inner = inner_value;
  outer = outer_value;
  side = side_value;
  closing = closing;
  declared_end = λ h. h.start + h.declared;
  reach = λ kind b. 0;
  head = sphere_head;
  made = made_shape;
}
