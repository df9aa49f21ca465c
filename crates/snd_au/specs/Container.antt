-- AU files as a container.
use Rattle.std.specs.Prelude.{ℕ, ◌+◌, List}
use Rattle.snd_fields.specs.declared.field.Order.{Order}
use Rattle.snd_layout.specs.Container.{Container}
use Rattle.snd_layout.specs.Shape.{Shape}
use Rattle.snd_layout.specs.declared.kind.Kind.{Kind}
use Rattle.snd_au.specs.Layout.{au_layout}
use Rattle.snd_au.specs.Values.{closing, inner_value, outer_value, side_value}
use Rattle.snd_au.specs.Written.{au_head, made_shape}

-- nothing is read behind the data
abbrev pub reach : Kind → List ℕ → ℕ
reach kind b = 0

abbrev pub declared_end : Shape → ℕ
declared_end h = h.start + h.declared

-- the files of a byte order
abbrev pub au : Order → Container
au order = record {
  layout = au_layout order;
  inner = inner_value;
  outer = outer_value;
  side = side_value;
  closing = closing;
  declared_end = declared_end;
  reach = reach;
  head = au_head order;
  made = made_shape order;
}
