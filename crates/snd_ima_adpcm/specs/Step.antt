-- One code of IMA ADPCM, by the recommended practices of the Interactive Multimedia Association (revision 3.00, 1992).
-- A code has four bits. Its low three are a distance, measured in steps; the fourth is the distance's sign.
use Rattle.std.specs.Prelude.{◌+◌, ◌-◌, ◌*◌, ◌/◌, ◌%◌, ℕ, ℤ, pos, ◌+ℤ◌, ◌-ℤ◌, List, [], ◌∷◌, ◌==◌, nat_lt, nat_le, min, max, bit_and, unsigned_abs, slice_index, if◌then◌else◌}
use Rattle.std.specs.Int.{is_negative}

-- the step sizes, by index 0 to 88
unfoldable pub step_sizes : List ℕ
step_sizes = 7 ∷ 8 ∷ 9 ∷ 10 ∷ 11 ∷ 12 ∷ 13 ∷ 14 ∷ 16 ∷ 17 ∷ 19 ∷ 21 ∷ 23 ∷ 25 ∷ 28 ∷ 31 ∷ 34 ∷ 37 ∷ 41 ∷ 45 ∷ 50 ∷ 55 ∷ 60 ∷ 66 ∷ 73 ∷ 80 ∷ 88 ∷ 97 ∷ 107 ∷ 118
    ∷ 130 ∷ 143 ∷ 157 ∷ 173 ∷ 190 ∷ 209 ∷ 230 ∷ 253 ∷ 279 ∷ 307 ∷ 337 ∷ 371 ∷ 408 ∷ 449 ∷ 494 ∷ 544 ∷ 598 ∷ 658 ∷ 724 ∷ 796 ∷ 876 ∷ 963 ∷ 1060 ∷ 1166 ∷ 1282 ∷ 1411 ∷ 1552 ∷ 1707 ∷ 1878
    ∷ 2066 ∷ 2272 ∷ 2499 ∷ 2749 ∷ 3024 ∷ 3327 ∷ 3660 ∷ 4026 ∷ 4428 ∷ 4871 ∷ 5358 ∷ 5894 ∷ 6484 ∷ 7132 ∷ 7845 ∷ 8630 ∷ 9493 ∷ 10442 ∷ 11487 ∷ 12635 ∷ 13899 ∷ 15289 ∷ 16818 ∷ 18500
    ∷ 20350 ∷ 22385 ∷ 24623 ∷ 27086 ∷ 29794 ∷ 32767 ∷ []

unfoldable pub step_size : ℕ → ℕ
step_size index = slice_index step_sizes index

-- a part of a step, where a bit of the code is set
abbrev pub part_if : ℕ → ℕ → ℕ → ℕ
part_if code bit part = if bit_and code bit == 0 then 0 else part

-- the distance that the low three bits of a code stand for
abbrev pub distance : ℕ → ℕ → ℕ
distance step code = step / 8 + part_if code 4 step + part_if code 2 (step / 2) + part_if code 1 (step / 4)

-- the predictor moved by a code, before it is clamped
abbrev pub moved : ℤ → ℕ → ℕ → ℤ
moved predictor step code = if bit_and code 8 == 0 then predictor +ℤ pos (distance step code) else predictor -ℤ pos (distance step code)

-- the change of the predictor by a code at an index, before it is clamped
unfoldable pub change : ℕ → ℕ → ℤ
change index code = if bit_and code 8 == 0 then pos (distance (step_size index) code) else pos 0 -ℤ pos (distance (step_size index) code)

-- the index moved by a code: by -1 -1 -1 -1 2 4 6 8 for the low three bits 0 to 7, and kept from `first` to `last`
abbrev pub next_index : ℕ → ℕ → ℕ → ℕ → ℕ
next_index first last index code = max first (min last (if nat_lt (code % 8) 4 then index - 1 else index + 2 * (code % 8 - 3)))

-- ---- choosing a code: the bits are taken from the highest down, each where its part of the step still fits

abbrev pub bit_if_fits : ℕ → ℕ → ℕ → ℕ
bit_if_fits part rest bit = if nat_le part rest then bit else 0

abbrev pub rest_after : ℕ → ℕ → ℕ
rest_after part rest = if nat_le part rest then rest - part else rest

-- the low three bits for a distance
abbrev pub distance_bits : ℕ → ℕ → ℕ
distance_bits step distance =
    let after_step = rest_after step distance in
    let after_half = rest_after (step / 2) after_step in
    bit_if_fits step distance 4 + bit_if_fits (step / 2) after_step 2 + bit_if_fits (step / 4) after_half 1

-- what is left of a distance once its bits' parts are taken
abbrev pub distance_rest : ℕ → ℕ → ℕ
distance_rest step distance =
    let after_step = rest_after step distance in
    let after_half = rest_after (step / 2) after_step in
    rest_after (step / 4) after_half

-- the code for the way from the predictor to a target
abbrev pub code_for : ℕ → ℤ → ℕ
code_for step way = (if is_negative way then 8 else 0) + distance_bits step (unsigned_abs way)
