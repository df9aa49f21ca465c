-- The forms of the words of a script: numbers, names, identifiers, hex digits and texts.
use Rattle.std.specs.Prelude.{ℕ, ◌-◌, ◌%◌, ◌^◌, ℤ, pos, neg_ℤ, Bool, ◌&&◌, ◌||◌, ◌==◌, not, List, [], ◌∷◌, Option, None, Some, option_map, length, map, codes, nat_le, if◌then◌else◌}
use Rattle.std.specs.List.{list_all}
use Rattle.std.specs.Str.{bytes_eq}
use Rattle.snd_fields.specs.Decimal.{decimal}

abbrev pub at_most : ℕ → Option ℕ → Option ℕ
at_most most None = None
at_most most (Some n) = if nat_le n most then Some n else None

-- S: a '-' or none, and 1 to 10 digits; a number of 32 bits with a sign
abbrev pub ten_digits : List ℕ → Option ℕ
ten_digits text = if nat_le (length text) 10 then decimal text else None

abbrev pub signed : List ℕ → Option ℤ
signed [] = None
signed (c ∷ cs) =
    if c == 45 then option_map (λ n. neg_ℤ (pos n)) (at_most (2 ^ 31) (ten_digits cs))
    else option_map pos (at_most (2 ^ 31 - 1) (ten_digits (c ∷ cs)))

-- from '!' to '~'
abbrev pub is_printed : ℕ → Bool
is_printed c = nat_le 33 c && nat_le c 126

-- NAME: 1 to 255 printed bytes, none of them a space
abbrev pub is_name : List ℕ → Bool
is_name text = nat_le 1 (length text) && nat_le (length text) 255 && list_all is_printed text

-- ID: four printed bytes, where '_' stands for a space
abbrev pub ident_byte : ℕ → ℕ
ident_byte c = if c == 95 then 32 else c

abbrev pub is_ident : List ℕ → Bool
is_ident text = length text == 4 && list_all is_printed text

abbrev pub ident : List ℕ → Option (List ℕ)
ident text = if is_ident text then Some (map ident_byte text) else None

-- HEX: an even number of hex digits in lower case, or '-' for none
abbrev pub is_hex_digit : ℕ → Bool
is_hex_digit c = (nat_le 48 c && nat_le c 57) || (nat_le 97 c && nat_le c 102)

abbrev pub is_hex : List ℕ → Bool
is_hex text = length text % 2 == 0 && list_all is_hex_digit text

abbrev pub hex : List ℕ → Option (List ℕ)
hex text = if bytes_eq text (codes "-") then Some [] else if is_hex text then Some text else None

-- TEXT: 1 or more bytes, none of them 0
abbrev pub is_not_zero : ℕ → Bool
is_not_zero c = not (c == 0)

abbrev pub is_text : List ℕ → Bool
is_text text = nat_le 1 (length text) && list_all is_not_zero text
