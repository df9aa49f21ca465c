-- What a sound file says of itself, and what holds of every layout.
use Rattle.std.specs.Prelude.{◌≡◌, ℕ, ◌+◌, ◌-◌, ◌*◌, ◌^◌, ◌<◌, ◌≤◌, ◌==◌, Bool, true, false, not, ◌&&◌, ◌||◌, Option, Some, None, IfSome, List, All, IsTrue, max, min, nat_le, is_none, if◌then◌else◌}
use Rattle.snd_layout.specs.declared.codec.Codec.{Codec}
use Rattle.snd_layout.specs.declared.field.Field.{Field}
use Rattle.snd_layout.specs.declared.kind.Kind.{Kind}
use Rattle.snd_layout.specs.declared.kind.Kind.TheVariants.{Wave, Rf64, W64, Au, Dns, Voc, Svx, Sphere}
use Rattle.snd_layout.specs.declared.piece.Piece.{Piece}
use Rattle.snd_layout.specs.Blocks.{block_align, is_adpcm}
use Rattle.snd_layout.specs.Fit.{fit_refusal}
use Rattle.snd_layout.specs.Params.{Parameters, data_bytes}

pub record Shape : Type 0 where
  pub kind : Kind
  pub params : Parameters
  pub start : ℕ
  pub frames : ℕ
  pub declared : ℕ
  pub inner : Field
  pub outer : Option Field
  pub side : Option Field
  pub trailing : Bool
  pub unknown_length : Bool
  pub reserve : Option ℕ
  pub pieces : List Piece

-- The size of the field that decides the count. In an ADPCM file it may span the count of the `fact`
-- chunk, the head of the data chunk behind it and the data size.
abbrev pub is_inner_size : Kind → Codec → ℕ → Bool
is_inner_size Wave codec size = (size == 4) || (is_adpcm codec && (size == 12))
is_inner_size Rf64 codec size = size == 8
is_inner_size W64 codec size = (size == 8) || (is_adpcm codec && (size == 32))
is_inner_size Au codec size = size == 4
is_inner_size Dns codec size = size == 4
is_inner_size Voc codec size = size == 3
is_inner_size Svx codec size = size == 4
is_inner_size Sphere codec size = nat_le 1 size && nat_le size 18

abbrev pub has_size : Option Field → ℕ → Bool
has_size None size = false
has_size (Some field) size = field.size == size

-- the size of the whole, where the kind has such a field
abbrev pub is_outer_size : Kind → Option Field → Bool
is_outer_size Wave outer = has_size outer 4
is_outer_size Rf64 outer = has_size outer 8
is_outer_size W64 outer = has_size outer 8
is_outer_size Au outer = is_none outer
is_outer_size Dns outer = is_none outer
is_outer_size Voc outer = is_none outer
is_outer_size Svx outer = has_size outer 4
is_outer_size Sphere outer = is_none outer

-- the count that is written but not read: that of a `fact` chunk may be missing
abbrev pub is_side_size : Kind → Codec → Option Field → Bool
is_side_size Wave codec side = is_none side || (not (is_adpcm codec) && has_size side 4)
is_side_size Rf64 codec side = has_size side 8
is_side_size W64 codec side = is_none side || (not (is_adpcm codec) && has_size side 8)
is_side_size Au codec side = is_none side
is_side_size Dns codec side = is_none side
is_side_size Voc codec side = is_none side
is_side_size Svx codec side = has_size side 4
is_side_size Sphere codec side = is_none side

-- The data bytes that the fields of the head have room for: in RIFF and IFF the size of the whole has 32
-- bits, in RF64 and Wave64 it is held below 2^62, in AU the data size has 32 bits, in Creative Voice the
-- block's size has 24, and in SPHERE the count of the frames has its digits.
abbrev pub kind_room : Kind → Parameters → ℕ → Field → ℕ
kind_room Wave p start inner = 2 ^ 32 + 6 - start
kind_room Rf64 p start inner = 2 ^ 62 - start
kind_room W64 p start inner = 2 ^ 62 - start
kind_room Au p start inner = 2 ^ 32 - 2
kind_room Dns p start inner = 2 ^ 32 - 2
kind_room Voc p start inner = if start == inner.at + 5 then 2 ^ 24 - 3 else 2 ^ 24 - 13
kind_room Svx p start inner = 2 ^ 32 + 6 - start
kind_room Sphere p start inner = min ((10 ^ inner.size - 1) * block_align p.channels p.codec) (2 ^ 62 - 1024)

abbrev pub room : Shape → ℕ
room s = kind_room s.kind s.params s.start s.inner

-- the place behind the data of so many frames
abbrev pub end : Shape → ℕ → ℕ
end s frames = s.start + data_bytes s.params frames

-- a field ends by a place
abbrev pub EndsBy : ℕ → Field → Type 0
EndsBy place field = field.at + field.size ≤ place

-- In Creative Voice the sound follows the block's size and 2 bytes, or 12.
abbrev pub is_kinds_start : Kind → Field → ℕ → Bool
is_kinds_start Voc inner start = (start == inner.at + 5) || (start == inner.at + 15)
is_kinds_start _ inner start = true

abbrev pub IsPlaced : Piece → Type 0
IsPlaced piece = piece.at + piece.len < 2 ^ 63

-- A chunk that is reserved for 64-bit sizes, of so many bytes: it stands before all others of a WAVE file whose samples have a
-- fixed size, and has room for them (EBU Tech 3306).
pub record IsReserve (kind : Kind) (codec : Codec) (start len : ℕ) : Type 0 where
  pub is_wave : kind ≡ Wave
  pub fixed : is_adpcm codec ≡ false
  pub least : 28 ≤ len
  pub few : len < 2 ^ 32
  pub before : 28 + len ≤ start

-- what holds of every layout, whether or not a disk tells its contents
pub record KeepsRule (s : Shape) : Type 0 where
  pub fits : fit_refusal s.kind s.params ≡ None
  pub inner_size : IsTrue (is_inner_size s.kind s.params.codec s.inner.size)
  pub outer_size : IsTrue (is_outer_size s.kind s.outer)
  pub side_size : IsTrue (is_side_size s.kind s.params.codec s.side)
  pub inner_end : EndsBy s.start s.inner
  pub outer_end : IfSome s.outer (EndsBy s.start)
  pub side_end : IfSome s.side (EndsBy s.start)
  pub sound_start : IsTrue (is_kinds_start s.kind s.inner s.start)
  pub pieces_placed : All IsPlaced s.pieces
  pub data_end : end s s.frames + 8 ≤ 2 ^ 63
  pub in_room : s.unknown_length ≡ false → data_bytes s.params s.frames ≤ max (room s) s.declared
  pub declared_fits : s.declared < 2 ^ 63
  pub reserved : IfSome s.reserve (IsReserve s.kind s.params.codec s.start)
