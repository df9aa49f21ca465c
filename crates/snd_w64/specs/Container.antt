-- Wave64 as a container ("Sony Wave64", Sony Media Software).
use Rattle.std.specs.Prelude.{ℕ, ◌+◌, List, length}
use Rattle.snd_layout.specs.Container.{Container}
use Rattle.snd_layout.specs.Shape.{Shape}
use Rattle.snd_layout.specs.declared.kind.Kind.{Kind}
use Rattle.snd_w64.specs.Layout.{outer_end, raised, w64_layout, whole_size}
use Rattle.snd_w64.specs.Values.{closing, inner_value, outer_value, side_value}
use Rattle.snd_w64.specs.Written.{made_shape, w64_head}

-- the place behind what closes the data that a head declares
abbrev pub declared_end : Shape → ℕ
declared_end h = raised (h.start + h.declared)

-- the place up to which a file counts
abbrev pub reach : Kind → List ℕ → ℕ
reach kind x = outer_end (length x) (whole_size x)

abbrev pub w64 : Container
w64 = record {
  layout = w64_layout;
  inner = inner_value;
  outer = outer_value;
  side = side_value;
  closing = closing;
  declared_end = declared_end;
  reach = reach;
  head = w64_head;
  made = made_shape;
}
