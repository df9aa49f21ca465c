-- Numbers in the fields of a head. A list of bytes is a list of numbers below 256.
use Rattle.std.specs.Prelude.{ℕ, ◌+◌, List, ◌++◌, length, take, drop}
use Rattle.byteorder.specs.Endian.{big_bytes, big_from, little_bytes, little_from}
use Rattle.snd_fields.specs.declared.field.Order.{Order}
use Rattle.snd_fields.specs.declared.field.Order.TheVariants.{Little, Big}

-- a number in a field: the k bytes of b from a place on, in an order
abbrev pub number : Order → List ℕ → ℕ → ℕ → ℕ
number Little b at k = little_from at k b
number Big b at k = big_from at k b

-- the k bytes of a number, in an order
abbrev pub bytes_of : Order → ℕ → ℕ → List ℕ
bytes_of Little k n = little_bytes k n
bytes_of Big k n = big_bytes k n

-- b with these bytes at a place that lies within it
abbrev pub with_field : List ℕ → ℕ → List ℕ → List ℕ
with_field b at bytes = take at b ++ bytes ++ drop (at + length bytes) b
