-- An AU file as it is made, after the manual page au(4) of Solaris (Sun Microsystems): the mark and five numbers, and no
-- remark before the data.
use Rattle.std.specs.Prelude.{ℕ, List, ◌++◌, None, codes}
use Rattle.snd_fields.specs.Field.{bytes_of}
use Rattle.snd_fields.specs.declared.field.Order.{Order}
use Rattle.snd_fields.specs.declared.field.Order.TheVariants.{Little, Big}
use Rattle.snd_layout.specs.Made.{made}
use Rattle.snd_layout.specs.Params.{Parameters}
use Rattle.snd_layout.specs.Shape.{Shape}
use Rattle.snd_layout.specs.declared.codec.Codec.{Codec}
use Rattle.snd_layout.specs.declared.codec.Codec.TheVariants.{S8, S16, S24, S32, MuLaw, ALaw}
use Rattle.snd_au.specs.Layout.{kind_of}

abbrev pub mark : Order → List ℕ
mark Big = codes ".snd"
mark Little = codes "dns."

-- the encoding of a codec, 0 where there is none
abbrev pub encoding_of : Codec → ℕ
encoding_of MuLaw = 1
encoding_of S8 = 2
encoding_of (S16 order) = 3
encoding_of (S24 order) = 4
encoding_of (S32 order) = 5
encoding_of ALaw = 27
encoding_of _ = 0

-- the head of a file without frames
unfoldable pub au_head : Order → Parameters → List ℕ
au_head order p =
    mark order ++ bytes_of order 4 24 ++ bytes_of order 4 0 ++ bytes_of order 4 (encoding_of p.codec)
    ++ bytes_of order 4 p.rate ++ bytes_of order 4 p.channels

-- what it says of itself
abbrev pub made_shape : Order → Parameters → Shape
made_shape order p = made (kind_of order) p 24 (record { at = 8; size = 4 }) None None
