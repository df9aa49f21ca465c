-- What the segment of a byte of a law does to its step, and which step it is. It is said for the proofs alone.
use Rattle.std.specs.Prelude.{ℕ, ℤ, ◌+◌, ◌-◌, ◌*◌, ◌/◌, ◌%◌, ◌^◌, bit_xor, if◌then◌else◌, nat_lt, neg_ℤ, pos}

-- how many times the steps of the first segment go into those of a mu-law byte's
abbrev pub mulaw_factor : ℕ → ℕ
mulaw_factor byte = 2 ^ ((255 - byte) % 128 / 16)

-- the code of an A-law byte, whose even bits are inverted
abbrev pub alaw_code_in : ℕ → ℕ
alaw_code_in byte = bit_xor byte 0x55 % 128

-- how many times the steps of the first two segments, which are alike, go into those of an A-law byte's
abbrev pub alaw_factor : ℕ → ℕ
alaw_factor byte = 2 ^ (alaw_code_in byte / 16 - 1)

-- how many halves of its steps the value of an A-law byte lies above zero
abbrev pub alaw_halves : ℕ → ℤ
alaw_halves byte =
    let halves = 2 * (alaw_code_in byte % 16) + (if nat_lt (alaw_code_in byte) 16 then 1 else 33) in
    if nat_lt byte 128 then neg_ℤ (pos halves) else pos halves
