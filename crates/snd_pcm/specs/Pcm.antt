-- Linear samples: the number that a sample's bytes stand for, and the bytes of a number. After
-- Microsoft's and IBM's "Multimedia Programming Interface and Data Specifications 1.0" (RIFF), WAVE
-- format PCM, where 8 bits are offset binary and more are two's complement, the lowest byte first; and
-- Apple's "Audio Interchange File Format" 1.3, where all are two's complement, the highest byte first.
use Rattle.std.specs.Prelude.{ℕ, ◌-◌, ◌*◌, ◌^◌, ℤ, pos, negsuc, ◌+ℤ◌, ◌-ℤ◌, neg_ℤ, ◌≤ℤ◌, nat_lt, unsigned_abs, if◌then◌else◌, List, map}
use Rattle.std.specs.List.{flat_map}
use Rattle.snd_fields.specs.declared.field.Order.{Order}
use Rattle.snd_fields.specs.declared.field.Order.TheVariants.{Little}
use Rattle.snd_fields.specs.Field.{bytes_of, number}
use Rattle.snd_pcm.specs.Groups.{groups}
use Rattle.snd_pcm.specs.declared.linear.Linear.{Linear}
use Rattle.snd_pcm.specs.declared.linear.Linear.TheVariants.{U8, S8, S16, S24, S32}

-- how many bytes a sample has
abbrev pub byte_count : Linear → ℕ
byte_count U8 = 1
byte_count S8 = 1
byte_count (S16 order) = 2
byte_count (S24 order) = 3
byte_count (S32 order) = 4

-- how many bits
abbrev pub bit_count : Linear → ℕ
bit_count form = 8 * byte_count form

-- a single byte has either order
abbrev pub order_of : Linear → Order
order_of U8 = Little
order_of S8 = Little
order_of (S16 order) = order
order_of (S24 order) = order
order_of (S32 order) = order

-- the least and the greatest number
abbrev pub low : Linear → ℤ
low form = neg_ℤ (pos (2 ^ (bit_count form - 1)))

abbrev pub high : Linear → ℤ
high form = pos (2 ^ (bit_count form - 1) - 1)

abbrev pub InRange : Linear → ℤ → Type 0
InRange form x = (low form ≤ℤ x) × (x ≤ℤ high form)

-- two's complement in k bytes: the number of a code, and the code of a number
abbrev pub twos_number : ℕ → ℕ → ℤ
twos_number k n = if nat_lt n (2 ^ (8 * k - 1)) then pos n else negsuc (2 ^ (8 * k) - 1 - n)

abbrev pub twos_code : ℕ → ℤ → ℕ
twos_code k (pos n) = n
twos_code k (negsuc n) = 2 ^ (8 * k) - 1 - n

-- the number of a sample's code: 8 bits unsigned have 128 added
abbrev pub value : Linear → ℕ → ℤ
value U8 n = pos n -ℤ pos 128
value S8 n = twos_number 1 n
value (S16 order) n = twos_number 2 n
value (S24 order) n = twos_number 3 n
value (S32 order) n = twos_number 4 n

-- and the code of a number
abbrev pub code : Linear → ℤ → ℕ
code U8 x = unsigned_abs (x +ℤ pos 128)
code S8 x = twos_code 1 x
code (S16 order) x = twos_code 2 x
code (S24 order) x = twos_code 3 x
code (S32 order) x = twos_code 4 x

-- one sample
abbrev pub sample : Linear → List ℕ → ℤ
sample form bytes = value form (number (order_of form) bytes 0 (byte_count form))

abbrev pub sample_bytes : Linear → ℤ → List ℕ
sample_bytes form x = bytes_of (order_of form) (byte_count form) (code form x)

-- the samples that bytes hold, one after the other, and the bytes of samples
unfoldable pub samples : Linear → List ℕ → List ℤ
samples form bytes = map (sample form) (groups (byte_count form) bytes)

unfoldable pub samples_bytes : Linear → List ℤ → List ℕ
samples_bytes form xs = flat_map (sample_bytes form) xs
