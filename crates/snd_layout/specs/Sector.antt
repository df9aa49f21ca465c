-- Fields of a head, and the sectors of a disk.
use Rattle.std.specs.Prelude.{ℕ, ◌+◌, ◌-◌, ◌/◌, ◌==◌, Bool}

-- whether the first and the last byte of a field lie in one sector of 512 bytes
abbrev pub is_in_one_sector : ℕ → ℕ → Bool
is_in_one_sector at size = at / 512 == (at + size - 1) / 512
