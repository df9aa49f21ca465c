-- Creative Voice as a container: how a file of the kind says what it holds.
use Rattle.std.specs.Prelude.{ℕ, ◌+◌, List}
use Rattle.snd_layout.specs.Container.{Container}
use Rattle.snd_layout.specs.Shape.{Shape}
use Rattle.snd_layout.specs.declared.kind.Kind.{Kind}
use Rattle.snd_voc.specs.Layout.{voc_layout}
use Rattle.snd_voc.specs.Values.{closing, inner_value, outer_value, side_value}
use Rattle.snd_voc.specs.Written.{made_shape, voc_head}

-- the place behind the lone 0 that closes the data that a block states
abbrev pub declared_end : Shape → ℕ
declared_end h = h.start + h.declared + 1

-- nothing but the flag of what stands behind the data is read there
abbrev pub reach : Kind → List ℕ → ℕ
reach kind b = 0

abbrev pub voc : Container
voc = record {
  layout = voc_layout;
  inner = inner_value;
  outer = outer_value;
  side = side_value;
  closing = closing;
  declared_end = declared_end;
  reach = reach;
  head = voc_head;
  made = made_shape;
}
