-- What the data size of an AU file says of a number of frames, after the manual page au(4) of Solaris (Sun Microsystems).
-- There is no other field, and nothing closes the data.
use Rattle.std.specs.Prelude.{◌≡◌, ◌⊎◌, ℕ, List, []}
use Rattle.snd_fields.specs.Field.{bytes_of}
use Rattle.snd_fields.specs.declared.field.Order.{Order}
use Rattle.snd_fields.specs.declared.field.Order.TheVariants.{Little, Big}
use Rattle.snd_layout.specs.Params.{data_bytes}
use Rattle.snd_layout.specs.Shape.{Shape}
use Rattle.snd_layout.specs.declared.kind.Kind.{Kind}
use Rattle.snd_layout.specs.declared.kind.Kind.TheVariants.{Au, Dns}

-- a kind is AU, in one byte order or the other
abbrev pub IsAu : Kind → Type 0
IsAu kind = (kind ≡ Au) ⊎ (kind ≡ Dns)

abbrev pub order_of : Kind → Order
order_of Dns = Little
order_of kind = Big

-- what the field that decides the count says
unfoldable pub inner_value : Shape → ℕ → List ℕ
inner_value h frames = bytes_of (order_of h.kind) 4 (data_bytes h.params frames)

abbrev pub outer_value : Shape → ℕ → List ℕ
outer_value h frames = []

abbrev pub side_value : Shape → ℕ → List ℕ
side_value h frames = []

-- what closes the data
abbrev pub closing : Shape → ℕ → List ℕ
closing h frames = []
