-- A Creative Voice file as it is made, after "The Developer Kit for Sound Blaster Series" (Creative Labs, 1991), appendix
-- "Creative Voice File Format": a head of 26 bytes of version 1.20, and one block of type 9.
use Rattle.std.specs.Prelude.{ℕ, List, [], ◌∷◌, ◌++◌, None, codes}
use Rattle.snd_fields.specs.Field.{bytes_of}
use Rattle.snd_fields.specs.declared.field.Order.TheVariants.{Little}
use Rattle.snd_layout.specs.Made.{made}
use Rattle.snd_layout.specs.Params.{Parameters}
use Rattle.snd_layout.specs.Shape.{Shape}
use Rattle.snd_layout.specs.declared.codec.Codec.{Codec}
use Rattle.snd_layout.specs.declared.codec.Codec.TheVariants.{S16, MuLaw, ALaw}
use Rattle.snd_layout.specs.declared.kind.Kind.TheVariants.{Voc}

-- the bits of a sample, and the number of a codec
abbrev pub bits_of : Codec → ℕ
bits_of (S16 order) = 16
bits_of codec = 8

abbrev pub code_of : Codec → ℕ
code_of (S16 order) = 4
code_of ALaw = 6
code_of MuLaw = 7
code_of codec = 0

-- the head of the file: its mark, its size, the version 0x0114 and the check of that version
unfoldable pub file_head : List ℕ
file_head = codes "Creative Voice File" ++ 0x1a ∷ 26 ∷ 0 ∷ 0x14 ∷ 0x01 ∷ 0x1f ∷ 0x11 ∷ []

-- the head of the block: its type, its size without data, the format, and four bytes that are not used
unfoldable pub block_head : Parameters → List ℕ
block_head p =
    (9 ∷ 12 ∷ 0 ∷ 0 ∷ []) ++ bytes_of Little 4 p.rate ++ bits_of p.codec ∷ p.channels ∷ code_of p.codec ∷ 0 ∷ 0 ∷ 0 ∷ 0 ∷ 0 ∷ []

unfoldable pub voc_head : Parameters → List ℕ
voc_head p = file_head ++ block_head p

-- what it says of itself
unfoldable pub made_shape : Parameters → Shape
made_shape p = made Voc p 42 (record { at = 27; size = 3 }) None None
