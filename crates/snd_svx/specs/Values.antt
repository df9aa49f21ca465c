-- What the fields of an 8SVX file say of a number of frames: the sizes of the whole and of the body, after "EA IFF 85: Standard
-- for Interchange Format Files" (Jerry Morrison, Electronic Arts, 1985), and the one-shot samples of the voice header, after
-- "8SVX IFF 8-Bit Sampled Voice" (Steve Hayes and Jerry Morrison, Electronic Arts, 1985).
use Rattle.std.specs.Prelude.{ℕ, ◌-◌, ◌^◌, List, min}
use Rattle.snd_chunks.specs.Chunks.{padded_end}
use Rattle.snd_chunks.specs.Written.{pad}
use Rattle.snd_fields.specs.Field.{bytes_of}
use Rattle.snd_fields.specs.declared.field.Order.TheVariants.{Big}
use Rattle.snd_layout.specs.Params.{data_bytes}
use Rattle.snd_layout.specs.Shape.{Shape}

-- The size of the FORM of a file whose data begin at a place: all behind its first 8 bytes, with the pad of the data. Where
-- that passes 32 bits it is the greatest number that they hold.
abbrev pub form_size : ℕ → ℕ → ℕ
form_size start bytes = min (2 ^ 32 - 1) (padded_end start bytes - 8)

-- what the size of the body says, which decides the count
unfoldable pub inner_value : Shape → ℕ → List ℕ
inner_value h frames = bytes_of Big 4 (data_bytes h.params frames)

-- what the size of the whole says
unfoldable pub outer_value : Shape → ℕ → List ℕ
outer_value h frames = bytes_of Big 4 (form_size h.start (data_bytes h.params frames))

-- what the one-shot samples say, which are not read
unfoldable pub side_value : Shape → ℕ → List ℕ
side_value h frames = bytes_of Big 4 frames

-- what closes the data of so many frames: a pad byte behind an odd number of bytes
unfoldable pub closing : Shape → ℕ → List ℕ
closing h frames = pad (data_bytes h.params frames)
