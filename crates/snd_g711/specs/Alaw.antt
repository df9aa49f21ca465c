-- The A-law of ITU-T G.711, on 16-bit values.
use Rattle.std.specs.Prelude.{◌≡◌, ℕ, ℤ, pos, negsuc, neg_ℤ, ◌+◌, ◌-◌, ◌*◌, ◌/◌, ◌%◌, ◌^◌, ◌<◌, bit_xor, nat_lt, if◌then◌else◌}
use Rattle.std.specs.Int.{is_negative}
use Rattle.snd_g711.specs.Segment.{segment_and_step}

-- The magnitude that a code from 0 to 127 stands for, in the middle of its step: segment code / 16, step code % 16.
-- The first two segments have steps of 16; from there on a segment's steps are twice as long as those before.
abbrev pub alaw_magnitude : ℕ → ℕ
alaw_magnitude code =
    if nat_lt code 16 then code * 16 + 8 else (code % 16 * 16 + 264) * 2 ^ (code / 16 - 1)

-- The value of a byte, whose even bits are inverted (0x55). Bytes from 128 on are positive.
unfoldable pub alaw_value : ℕ → ℤ
alaw_value byte =
    let magnitude = alaw_magnitude (bit_xor byte 0x55 % 128) in
    if nat_lt byte 128 then neg_ℤ (pos magnitude) else pos magnitude

-- How far a 16-bit value lies from 0, or a negative one from -1. `negsuc n` is - (n + 1).
abbrev pub alaw_distance : ℤ → ℕ
alaw_distance (pos n) = n
alaw_distance (negsuc n) = n

-- The code of a distance below 2 ^ 15: sixteen steps of 16, and then the segments.
abbrev pub alaw_code : ℕ → ℕ
alaw_code distance = if nat_lt distance 256 then distance / 16 else segment_and_step distance

-- The byte of a 16-bit value: the sign bit, which is set for zero and above, and the code, with the even bits inverted.
unfoldable pub alaw_byte : ℤ → ℕ
alaw_byte value = bit_xor ((if is_negative value then 0 else 128) + alaw_code (alaw_distance value)) 0x55

-- Decoding and encoding give each byte back.
abbrev pub AlawRoundTrip : Type 0
AlawRoundTrip = (byte : ℕ) → byte < 256 → alaw_byte (alaw_value byte) ≡ byte
