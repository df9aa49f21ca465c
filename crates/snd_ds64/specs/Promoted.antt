-- A WAVE file turned into RF64 in place, after EBU Tech 3306, "MBWF / RF64: An Extended File Format for Audio" (European Broadcasting
-- Union, 2009), "Achieving compatibility between BWF and RF64": a recorder reserves a chunk `JUNK` that is as large as a chunk `ds64`,
-- as the first of all. Once the sizes need 64 bits, it becomes `ds64`, which states them, each size of 32 bits becomes 0xFFFFFFFF,
-- and `RIFF` becomes `RF64`.
use Rattle.std.specs.Prelude.{◌≡◌, ℕ, ◌+◌, ◌-◌, ◌^◌, ◌≤◌, false, true, List, ◌++◌, All, Ok, codes, is_some, length, unwrap_or}
use Rattle.snd_disk.specs.Bytes.{over}
use Rattle.snd_fields.specs.Field.{bytes_of}
use Rattle.snd_fields.specs.Laws.{IsByte}
use Rattle.snd_fields.specs.declared.field.Order.TheVariants.{Little}
use Rattle.snd_layout.specs.Params.{data_bytes}
use Rattle.snd_layout.specs.Shape.{Shape, end}
use Rattle.snd_rf64.specs.Layout.{shape_at}
use Rattle.snd_rf64.specs.Values.{inner_value, outer_value, side_value}
use Rattle.snd_rf64.specs.Written.{no_size}
use Rattle.snd_wave.specs.Layout.{wave_layout}

-- The first 48 bytes of the RF64 file of n frames: `ds64` is as large as the reservation was, and states the size of the whole, the
-- data size and the count of the frames; its table is empty.
unfoldable pub new_front : Shape → ℕ → List ℕ
new_front h n =
    codes "RF64" ++ bytes_of Little 4 no_size ++ codes "WAVE" ++ codes "ds64" ++ bytes_of Little 4 (unwrap_or h.reserve 0)
    ++ outer_value h n ++ inner_value h n ++ side_value h n ++ bytes_of Little 4 0

-- The data size of 32 bits, which stands right before the data
unfoldable pub new_size : List ℕ
new_size = bytes_of Little 4 no_size

-- The file b with both. The count of a `fact` chunk stays: RF64 does not read it.
abbrev pub promoted : List ℕ → Shape → ℕ → List ℕ
promoted b h n = over (over b 0 (new_front h n)) (h.start - 4) new_size

-- What it says: the parameters, the place of the data and the further chunks are those of the WAVE file.
abbrev pub promoted_shape : Shape → ℕ → Shape
promoted_shape h n = shape_at h.params h.start n (data_bytes h.params n) false h.pieces

-- A file may be promoted to n frames: it is a WAVE file with a reservation, and so a first chunk `JUNK` at place 12 of 28 bytes or
-- more; it does not go on behind its data; and the data of the frames are there, and end on a disk.
pub record MayPromote (b : List ℕ) (h : Shape) (n : ℕ) : Type 0 where
  pub says : wave_layout b ≡ Ok h
  pub bytes : All IsByte b
  pub reserved : is_some h.reserve ≡ true
  pub free : h.trailing ≡ false
  pub there : end h n ≤ length b
  pub on_disk : end h n + 8 ≤ 2 ^ 63
