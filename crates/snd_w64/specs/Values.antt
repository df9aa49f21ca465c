-- What the fields of a Wave64 file say of a number of frames, after "Sony Wave64" (Sony Media Software): the size of the whole
-- file, and the data size, which counts the 24 bytes of its chunk's head. The count of the `fact` chunk, and that one write
-- changes all from an ADPCM file's count to its data size, are this library's own rules.
use Rattle.std.specs.Prelude.{ℕ, ◌+◌, ◌-◌, ◌^◌, ◌==◌, List, [], ◌++◌, Option, None, Some, codes, min, replicate, if◌then◌else◌}
use Rattle.snd_fields.specs.Field.{bytes_of}
use Rattle.snd_fields.specs.declared.field.Order.TheVariants.{Little}
use Rattle.snd_layout.specs.Params.{data_bytes}
use Rattle.snd_layout.specs.Shape.{Shape, end}
use Rattle.snd_layout.specs.declared.field.Field.{Field}
use Rattle.snd_w64.specs.Layout.{id_end, raised}

-- the size of the data chunk
abbrev pub data_size : Shape → ℕ → ℕ
data_size h frames = data_bytes h.params frames + 24

-- what the field that decides the count says: the data size; where it has 32 bytes, the count of the `fact`, the identifier
-- of the data chunk, and the data size
unfoldable pub inner_value : Shape → ℕ → List ℕ
inner_value h frames =
    if h.inner.size == 32
    then bytes_of Little 8 frames ++ (codes "data" ++ id_end) ++ bytes_of Little 8 (data_size h frames)
    else bytes_of Little 8 (data_size h frames)

-- The whole: from the file's start to the end of the data, raised to a multiple of 8. Where that passes 64 bits it is the
-- greatest number that they hold.
abbrev pub whole_of : ℕ → ℕ
whole_of data_end = min (2 ^ 64 - 1) (raised data_end)

-- what the size of the whole says
unfoldable pub outer_value : Shape → ℕ → List ℕ
outer_value h frames = bytes_of Little 8 (whole_of (end h frames))

-- what the count says that is not read: nothing where there is none
abbrev pub count_bytes : Option Field → ℕ → List ℕ
count_bytes None frames = []
count_bytes (Some field) frames = bytes_of Little 8 frames

unfoldable pub side_value : Shape → ℕ → List ℕ
side_value h frames = count_bytes h.side frames

-- what closes the data of so many frames: zeros up to the next multiple of 8
unfoldable pub closing : Shape → ℕ → List ℕ
closing h frames = replicate (raised (end h frames) - end h frames) 0
