-- What the fields of an RF64 file say of a number of frames, after EBU Tech 3306, "MBWF / RF64: An Extended File Format for
-- Audio" (European Broadcasting Union, 2009): the chunk `ds64` has the size of the whole, the data size and the count in 64 bits.
use Rattle.std.specs.Prelude.{ℕ, ◌-◌, List}
use Rattle.snd_chunks.specs.Chunks.{padded_end}
use Rattle.snd_chunks.specs.Written.{pad}
use Rattle.snd_fields.specs.Field.{bytes_of}
use Rattle.snd_fields.specs.declared.field.Order.TheVariants.{Little}
use Rattle.snd_layout.specs.Params.{data_bytes}
use Rattle.snd_layout.specs.Shape.{Shape}

-- the data size, which decides the count
unfoldable pub inner_value : Shape → ℕ → List ℕ
inner_value h frames = bytes_of Little 8 (data_bytes h.params frames)

-- the size of the whole: all behind its first 8 bytes, with the pad of the data
unfoldable pub outer_value : Shape → ℕ → List ℕ
outer_value h frames = bytes_of Little 8 (padded_end h.start (data_bytes h.params frames) - 8)

-- the count that is not read
unfoldable pub side_value : Shape → ℕ → List ℕ
side_value h frames = bytes_of Little 8 frames

-- what closes the data of so many frames: a pad byte behind an odd number of bytes
unfoldable pub closing : Shape → ℕ → List ℕ
closing h frames = pad (data_bytes h.params frames)
