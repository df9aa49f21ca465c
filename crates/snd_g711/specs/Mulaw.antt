-- The mu-law of ITU-T G.711, on 16-bit values.
use Rattle.std.specs.Prelude.{◌≡◌, ℕ, ℤ, pos, neg_ℤ, unsigned_abs, ◌+◌, ◌-◌, ◌*◌, ◌/◌, ◌%◌, ◌^◌, ◌<◌, min, nat_lt, ◌==◌, if◌then◌else◌}
use Rattle.std.specs.Int.{is_negative}
use Rattle.snd_g711.specs.Segment.{segment_and_step}

-- The magnitude that a code from 0 to 127 stands for, in the middle of its step: segment code / 16, step code % 16.
-- With the bias of 132 the segments begin at powers of two.
abbrev pub mulaw_magnitude : ℕ → ℕ
mulaw_magnitude code = (code % 16 * 8 + 132) * 2 ^ (code / 16) - 132

-- The value of a byte. The byte is the complement of a sign bit and a code, so bytes below 128 are negative.
unfoldable pub mulaw_value : ℕ → ℤ
mulaw_value byte =
    let magnitude = mulaw_magnitude ((255 - byte) % 128) in
    if nat_lt byte 128 then neg_ℤ (pos magnitude) else pos magnitude

-- The code of a magnitude, which is cut to 32635, so that with the bias it stays below 2 ^ 15.
abbrev pub mulaw_code : ℕ → ℕ
mulaw_code magnitude = segment_and_step (min magnitude 32635 + 132)

-- The byte of a 16-bit value: the complement of the sign bit, which is set below zero, and the code.
unfoldable pub mulaw_byte : ℤ → ℕ
mulaw_byte value = 255 - ((if is_negative value then 128 else 0) + mulaw_code (unsigned_abs value))

-- Decoding and encoding give each byte back, but for the second zero 0x7F, which is written as 0xFF.
abbrev pub MulawRoundTrip : Type 0
MulawRoundTrip = (byte : ℕ) → byte < 256 → mulaw_byte (mulaw_value byte) ≡ (if byte == 0x7F then 0xFF else byte)

-- A decoded value is not changed by encoding and decoding it.
abbrev pub MulawKeepsDecoded : Type 0
MulawKeepsDecoded = (byte : ℕ) → byte < 256 → mulaw_value (mulaw_byte (mulaw_value byte)) ≡ mulaw_value byte
