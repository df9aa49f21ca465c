-- Bytes that a script writes as two hexadecimal digits each.
use Rattle.std.specs.Prelude.{ℕ, ◌+◌, ◌-◌, ◌*◌, ◌%◌, List, [], ◌∷◌, nat_le, if◌then◌else◌}

-- the value of a digit, 0 to 9 and a to f
abbrev pub hex_value : ℕ → ℕ
hex_value c = (if nat_le c 57 then c - 48 else c - 87) % 16

-- the bytes; a digit without another is passed over
unfoldable pub bytes_of_hex : List ℕ → List ℕ
bytes_of_hex (high ∷ low ∷ digits) = (16 * hex_value high + hex_value low) ∷ bytes_of_hex digits
bytes_of_hex digits = []
