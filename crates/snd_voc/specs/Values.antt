-- What the size of a Creative Voice file's block says of a number of frames, after "The Developer Kit for Sound Blaster Series"
-- (Creative Labs, 1991), appendix "Creative Voice File Format".
use Rattle.std.specs.Prelude.{ℕ, ◌+◌, ◌-◌, List, [], ◌∷◌}
use Rattle.snd_fields.specs.Field.{bytes_of}
use Rattle.snd_fields.specs.declared.field.Order.TheVariants.{Little}
use Rattle.snd_layout.specs.Params.{data_bytes}
use Rattle.snd_layout.specs.Shape.{Shape}

-- what stands between the size and the data: 2 bytes in a block of type 1, 12 in one of type 9
abbrev pub format_size : Shape → ℕ
format_size h = h.start - (h.inner.at + 3)

-- what the field that decides the count says: the size of the block's body
unfoldable pub inner_value : Shape → ℕ → List ℕ
inner_value h frames = bytes_of Little 3 (data_bytes h.params frames + format_size h)

-- there is no size of the whole, and no other count
unfoldable pub outer_value : Shape → ℕ → List ℕ
outer_value h frames = []

unfoldable pub side_value : Shape → ℕ → List ℕ
side_value h frames = []

-- what closes the data: the block of type 0, a lone byte
unfoldable pub closing : Shape → ℕ → List ℕ
closing h frames = 0 ∷ []
