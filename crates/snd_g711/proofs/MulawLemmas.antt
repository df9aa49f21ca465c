-- Facts on the mu-law's definitions.
use Rattle.std.proofs.Common.{◌≡◌, refl, sym, ap, ◌∙◌, ℕ, ℤ, pos, neg_ℤ, ◌+◌, ◌-◌, ◌*◌, ◌/◌, ◌%◌, ◌^◌, ◌<◌, ◌≤◌, inl, inr, Bool, true, false, FitsSigned, List, map, All, get_or, bit_xor, arith}
use Rattle.std.specs.Prelude.{if◌then◌else◌, nat_lt, nat_eq, ◌==◌, unsigned_abs}
use Rattle.std.specs.Int.{w16, is_negative}
use Rattle.std.proofs.lemmas.Bool.{cases_lt}
use Rattle.std.proofs.lemmas.Bool.Decides.{nat_tests}
use Rattle.std.proofs.lemmas.List.Elements.{All-map}
use lib.Dec.{ltb→lt, eqb→eq}
use Rattle.snd_g711.specs.Segment.{segment_and_step}
use Rattle.snd_g711.specs.Mulaw.{mulaw_magnitude, mulaw_value, mulaw_code, mulaw_byte, MulawRoundTrip, MulawKeepsDecoded}
use Rattle.snd_g711.proofs.Below.{every_below}
use Rattle.snd_g711.proofs.Widths.{fits_positive, fits_negative}

-- a code's magnitude with the bias
abbrev pub biased : ℕ → ℕ
biased code = (code % 16 * 8 + 132) * 2 ^ (code / 16)

pub biased-lt : (code : ℕ) → code < 128 → biased code < 32768
biased-lt code h = ltb→lt _ _ (every_below (λ k. nat_lt (biased k) 32768) 128 tt code h)

pub magnitude-lt : (byte : ℕ) → mulaw_magnitude ((255 - byte) % 128) < 32768
magnitude-lt byte =
    let h : (255 - byte) % 128 < 128 = omega arith in
    omega (arith, biased-lt ((255 - byte) % 128) h)

pub value_negative : (byte : ℕ) → byte < 128 → mulaw_value byte ≡ neg_ℤ (pos (mulaw_magnitude ((255 - byte) % 128)))
unfolding mulaw_value
value_negative byte h =
    let m : ℕ = mulaw_magnitude ((255 - byte) % 128) in
    let e : nat_lt byte 128 ≡ true = grind (arith, nat_tests) in
    ap (λ (b : Bool). if b then neg_ℤ (pos m) else pos m) e

pub value_positive : (byte : ℕ) → 128 ≤ byte → mulaw_value byte ≡ pos (mulaw_magnitude ((255 - byte) % 128))
unfolding mulaw_value
value_positive byte h =
    let m : ℕ = mulaw_magnitude ((255 - byte) % 128) in
    let e : nat_lt byte 128 ≡ false = grind (arith, nat_tests) in
    ap (λ (b : Bool). if b then neg_ℤ (pos m) else pos m) e

-- every value has 16 bits
pub mulaw_value_fits : (byte : ℕ) → FitsSigned w16 (mulaw_value byte)
mulaw_value_fits byte =
    elim (cases_lt byte 128) [
      | inl lt ↦ rw (value_negative byte lt) (fits_negative _ (magnitude-lt byte))
      | inr le ↦ rw (value_positive byte le) (fits_positive _ (magnitude-lt byte))
    ]

pub all_values_fit : (bytes : List ℕ) → All (FitsSigned w16) (map mulaw_value bytes)
all_values_fit bytes = All-map (FitsSigned w16) mulaw_value bytes (λ k d lt. mulaw_value_fits (get_or bytes k d))

pub byte_negative : (value : ℤ) (code : ℕ) → is_negative value ≡ true → code ≡ mulaw_code (unsigned_abs value) → 127 - code ≡ mulaw_byte value
unfolding mulaw_byte
byte_negative value code n e =
    let sum : 127 - code ≡ 255 - (128 + code) = omega arith in
    sum ∙ ap (λ (k : ℕ). 255 - (128 + k)) e ∙ ap (λ (b : Bool). 255 - ((if b then 128 else 0) + mulaw_code (unsigned_abs value))) (sym n)

pub byte_positive : (value : ℤ) (code : ℕ) → is_negative value ≡ false → code ≡ mulaw_code (unsigned_abs value) → 255 - code ≡ mulaw_byte value
unfolding mulaw_byte
byte_positive value code n e =
    let sum : 255 - code ≡ 255 - (0 + code) = omega arith in
    sum ∙ ap (λ (k : ℕ). 255 - (0 + k)) e ∙ ap (λ (b : Bool). 255 - ((if b then 128 else 0) + mulaw_code (unsigned_abs value))) (sym n)

-- the byte, by the bits that are inverted of the code
complement : (code : ℕ) → code < 128 → (bit_xor code 127 ≡ 127 - code) × (bit_xor code 255 ≡ 255 - code)
complement code h = (
  eqb→eq _ _ (every_below (λ k. nat_eq (bit_xor k 127) (127 - k)) 128 tt code h),
  eqb→eq _ _ (every_below (λ k. nat_eq (bit_xor k 255) (255 - k)) 128 tt code h),
)

pub byte_by_sign : (value : ℤ) (code bits : ℕ) → code < 128 → code ≡ mulaw_code (unsigned_abs value) → bits ≡ (if is_negative value then 127 else 255) → bit_xor code bits ≡ mulaw_byte value
byte_by_sign value code bits h e b = go (is_negative value) refl
  where
    go : (sign : Bool) → is_negative value ≡ sign → bit_xor code bits ≡ mulaw_byte value
    go true n = ap (bit_xor code) (b ∙ ap (λ (s : Bool). if s then 127 else 255) n) ∙ (complement code h).0 ∙ byte_negative value code n e
    go false n = ap (bit_xor code) (b ∙ ap (λ (s : Bool). if s then 127 else 255) n) ∙ (complement code h).1 ∙ byte_positive value code n e

pub xor_fits : (value : ℤ) (code bits : ℕ) → code < 128 → bits ≡ (if is_negative value then 127 else 255) → bit_xor code bits < 256
xor_fits value code bits h b = go (is_negative value) refl
  where
    go : (sign : Bool) → is_negative value ≡ sign → bit_xor code bits < 256
    go true n = omega (arith, ap (bit_xor code) (b ∙ ap (λ (s : Bool). if s then 127 else 255) n) ∙ (complement code h).0)
    go false n = omega (arith, ap (bit_xor code) (b ∙ ap (λ (s : Bool). if s then 127 else 255) n) ∙ (complement code h).1)

-- the byte that encoding gives for a byte's value
abbrev returned : ℕ → ℕ
returned byte = if byte == 127 then 255 else byte

pub round_trip : MulawRoundTrip
unfolding mulaw_byte mulaw_value segment_and_step
round_trip byte h = eqb→eq _ _ (every_below (λ k. nat_eq (mulaw_byte (mulaw_value k)) (returned k)) 256 tt byte h)

-- the two zeros
zeros : mulaw_value 255 ≡ mulaw_value 127
unfolding mulaw_value
zeros = refl

same_value : (byte : ℕ) → mulaw_value (returned byte) ≡ mulaw_value byte
same_value byte = go (byte == 127) refl
  where
    go : (b : Bool) → byte == 127 ≡ b → mulaw_value (if b then 255 else byte) ≡ mulaw_value byte
    go true e =
        let same : byte ≡ 127 = grind (arith, nat_tests) in
        zeros ∙ ap mulaw_value (sym same)
    go false e = refl

pub keeps_decoded : MulawKeepsDecoded
keeps_decoded byte h = ap mulaw_value (round_trip byte h) ∙ same_value byte
