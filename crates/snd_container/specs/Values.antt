-- What the fields of a file of any kind say of a number of frames, and what closes their data.
use Rattle.std.specs.Prelude.{ℕ, ◌+◌, List, length}
use Rattle.snd_layout.specs.Container.{Container}
use Rattle.snd_layout.specs.Shape.{Shape, end}
use Rattle.snd_layout.specs.declared.kind.Kind.{Kind}
use Rattle.snd_container.specs.Kinds.{container_of}
use Rattle.snd_container.specs.Sound.{layout_of}

-- what the field that decides the count says
abbrev pub inner_value : Shape → ℕ → List ℕ
inner_value h frames = (container_of h.kind).inner h frames

-- what the size of the whole says
abbrev pub outer_value : Shape → ℕ → List ℕ
outer_value h frames = (container_of h.kind).outer h frames

-- what the count says that is not read
abbrev pub side_value : Shape → ℕ → List ℕ
side_value h frames = (container_of h.kind).side h frames

-- what stands behind the data of so many frames, and the place behind that
abbrev pub closing : Shape → ℕ → List ℕ
closing h frames = (container_of h.kind).closing h frames

abbrev pub closed_end : Shape → ℕ → ℕ
closed_end h frames = end h frames + length (closing h frames)

-- the place behind what closes the data that a head declares
abbrev pub declared_end : Shape → ℕ
declared_end h = (container_of h.kind).declared_end h

-- the place up to which a file is read behind its data
abbrev pub reach : Kind → List ℕ → ℕ
reach kind x = (container_of kind).reach kind x

abbrev pub outer_reach : Shape → List ℕ → ℕ
outer_reach h x = reach h.kind x

-- The container of the files of any kind, of which new ones are of one kind
abbrev pub any : Kind → Container
any kind = record {
  layout = layout_of;
  inner = inner_value;
  outer = outer_value;
  side = side_value;
  closing = closing;
  declared_end = declared_end;
  reach = reach;
  head = (container_of kind).head;
  made = (container_of kind).made;
}
