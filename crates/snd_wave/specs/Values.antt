-- What the fields of a WAVE file say of a number of frames: the size of the whole and of the data, after "Multimedia
-- Programming Interface and Data Specifications 1.0" (IBM and Microsoft, 1991), chapters 2 and 3, and the count of the `fact`
-- chunk, after "New Multimedia Data Types and Data Techniques" 3.0 (Microsoft, 1994). That one write changes all from an
-- ADPCM file's count to its data size is this library's own rule.
use Rattle.std.specs.Prelude.{ℕ, ◌-◌, ◌^◌, ◌==◌, List, [], ◌++◌, Option, None, Some, codes, min, if◌then◌else◌}
use Rattle.snd_chunks.specs.Chunks.{padded_end}
use Rattle.snd_chunks.specs.Written.{pad}
use Rattle.snd_fields.specs.Field.{bytes_of}
use Rattle.snd_fields.specs.declared.field.Order.TheVariants.{Little}
use Rattle.snd_layout.specs.Params.{data_bytes}
use Rattle.snd_layout.specs.Shape.{Shape}
use Rattle.snd_layout.specs.declared.field.Field.{Field}

-- The RIFF size of a file whose data begin at a place: all behind its first 8 bytes, with the pad of the data. Where that
-- passes 32 bits it is the greatest number that they hold.
abbrev pub riff_size : ℕ → ℕ → ℕ
riff_size start bytes = min (2 ^ 32 - 1) (padded_end start bytes - 8)

-- what the field that decides the count says: the data size; where it has 12 bytes, the count of the `fact`, the identifier
-- of the data chunk, and the data size
unfoldable pub inner_value : Shape → ℕ → List ℕ
inner_value h frames =
    if h.inner.size == 12
    then bytes_of Little 4 frames ++ codes "data" ++ bytes_of Little 4 (data_bytes h.params frames)
    else bytes_of Little 4 (data_bytes h.params frames)

-- what the size of the whole says
unfoldable pub outer_value : Shape → ℕ → List ℕ
outer_value h frames = bytes_of Little 4 (riff_size h.start (data_bytes h.params frames))

-- what the count says that is not read: nothing where there is none
abbrev pub count_bytes : Option Field → ℕ → List ℕ
count_bytes None frames = []
count_bytes (Some field) frames = bytes_of Little 4 frames

unfoldable pub side_value : Shape → ℕ → List ℕ
side_value h frames = count_bytes h.side frames

-- what closes the data of so many frames: a pad byte behind an odd number of bytes
unfoldable pub closing : Shape → ℕ → List ℕ
closing h frames = pad (data_bytes h.params frames)
