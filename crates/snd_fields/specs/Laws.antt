-- The laws of numbers in fields, for both orders and any number k of bytes.
use Rattle.std.specs.Prelude.{◌≡◌, ◌⊎◌, ℕ, ◌+◌, ◌<◌, ◌≤◌, ◌^◌, List, All, length, slice_index, take, drop}
use Rattle.snd_fields.specs.declared.field.Order.{Order}
use Rattle.snd_fields.specs.Field.{bytes_of, number, with_field}

abbrev pub IsByte : ℕ → Type 0
IsByte n = n < 256

-- a number's bytes are k, each a byte
abbrev pub BytesAreBytes : Type 0
BytesAreBytes = (order : Order) (k n : ℕ) → (length (bytes_of order k n) ≡ k) × All IsByte (bytes_of order k n)

-- the number of a number's bytes is that number
abbrev pub NumberOfBytes : Type 0
NumberOfBytes = (order : Order) (k n : ℕ) → n < 256 ^ k → number order (bytes_of order k n) 0 k ≡ n

-- and so where they were put into a field
abbrev pub NumberOfField : Type 0
NumberOfField = (order : Order) (b : List ℕ) (at k n : ℕ) → at + k ≤ length b → n < 256 ^ k →
    number order (with_field b at (bytes_of order k n)) at k ≡ n

-- the bytes of a field's number are the field's bytes
abbrev pub BytesOfNumber : Type 0
BytesOfNumber = (order : Order) (b : List ℕ) (at k : ℕ) → at + k ≤ length b → All IsByte b →
    bytes_of order k (number order b at k) ≡ take k (drop at b)

-- a field's number fits its k bytes
abbrev pub NumberFits : Type 0
NumberFits = (order : Order) (b : List ℕ) (at k : ℕ) → All IsByte b → number order b at k < 256 ^ k

-- a field's number depends only on its own places
abbrev pub NumberIsLocal : Type 0
NumberIsLocal = (order : Order) (x y : List ℕ) (at k : ℕ) →
    ((i : ℕ) → at ≤ i → i < at + k → slice_index x i ≡ slice_index y i) → number order x at k ≡ number order y at k

-- bytes put beside a field leave its number
abbrev pub NumberStays : Type 0
NumberStays = (order : Order) (b bytes : List ℕ) (put at k : ℕ) → put + length bytes ≤ length b →
    (at + k ≤ put) ⊎ (put + length bytes ≤ at) → number order (with_field b put bytes) at k ≡ number order b at k
