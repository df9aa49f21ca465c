-- Numbers as decimal digits, in ASCII.
use Rattle.std.specs.Prelude.{ℕ, ◌-◌, ◌^◌, Bool, ◌&&◌, Option, None, Some, List, length, map, nat_le, nat_lt, if◌then◌else◌}
use Rattle.std.specs.List.{list_all}
use Rattle.std.specs.Int.Digits.{number_from_digits}

-- from '0' to '9'
abbrev pub is_digit : ℕ → Bool
is_digit c = nat_le 48 c && nat_le c 57

-- the number that digits write, the highest first
abbrev pub digits_number : List ℕ → ℕ
digits_number text = number_from_digits 10 (map (λ c. c - 48) text)

-- 1 to 19 digits, leading zeros among them, whose number is at most 2^63 - 1
abbrev pub is_decimal : List ℕ → Bool
is_decimal text = nat_le 1 (length text) && nat_le (length text) 19 && list_all is_digit text && nat_lt (digits_number text) (2 ^ 63)

abbrev pub decimal : List ℕ → Option ℕ
decimal text = if is_decimal text then Some (digits_number text) else None
