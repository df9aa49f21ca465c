-- Facts on the A-law's definitions.
use Rattle.std.proofs.Common.{negsuc, ◌⊎◌, ◌≡◌, sym, ap, ◌∙◌, ℕ, ℤ, pos, neg_ℤ, ◌+◌, ◌/◌, ◌%◌, ◌<◌, ◌≤◌, inl, inr, refl, subst, Bool, true, false, FitsSigned, List, map, All, get_or, zero-add, arith, bit_xor}
use Rattle.std.specs.Prelude.{if◌then◌else◌, nat_lt, nat_eq}
use Rattle.std.specs.Int.{w16, is_negative}
use Rattle.std.proofs.lemmas.Bool.{cases_lt}
use Rattle.std.proofs.lemmas.Bool.Decides.{nat_tests}
use Rattle.std.proofs.lemmas.List.Elements.{All-map}
use lib.Dec.{ltb→lt, eqb→eq}
use Rattle.snd_g711.specs.Segment.{segment_and_step}
use Rattle.snd_g711.specs.Alaw.{alaw_magnitude, alaw_value, alaw_distance, alaw_code, alaw_byte, AlawRoundTrip}
use Rattle.snd_g711.proofs.Segments.{segment_and_step-lt, code-half}
use Rattle.snd_g711.proofs.Below.{every_below}
use Rattle.snd_g711.proofs.Widths.{fits_positive, fits_negative}

pub magnitude-lt : (code : ℕ) → code < 128 → alaw_magnitude code < 32768
magnitude-lt code h = ltb→lt _ _ (every_below (λ k. nat_lt (alaw_magnitude k) 32768) 128 tt code h)

pub value_negative : (byte : ℕ) → byte < 128 → alaw_value byte ≡ neg_ℤ (pos (alaw_magnitude (bit_xor byte 85 % 128)))
unfolding alaw_value
value_negative byte h =
    let m : ℕ = alaw_magnitude (bit_xor byte 85 % 128) in
    let e : nat_lt byte 128 ≡ true = grind (arith, nat_tests) in
    ap (λ (b : Bool). if b then neg_ℤ (pos m) else pos m) e

pub value_positive : (byte : ℕ) → 128 ≤ byte → alaw_value byte ≡ pos (alaw_magnitude (bit_xor byte 85 % 128))
unfolding alaw_value
value_positive byte h =
    let m : ℕ = alaw_magnitude (bit_xor byte 85 % 128) in
    let e : nat_lt byte 128 ≡ false = grind (arith, nat_tests) in
    ap (λ (b : Bool). if b then neg_ℤ (pos m) else pos m) e

-- every value has 16 bits
pub alaw_value_fits : (byte : ℕ) → FitsSigned w16 (alaw_value byte)
alaw_value_fits byte =
    elim (cases_lt byte 128) [
      | inl lt ↦ rw (value_negative byte lt) (fits_negative _ (magnitude-lt _ small))
      | inr le ↦ rw (value_positive byte le) (fits_positive _ (magnitude-lt _ small))
    ]
  where
    small : bit_xor byte 85 % 128 < 128
    small = omega arith

pub all_values_fit : (bytes : List ℕ) → All (FitsSigned w16) (map alaw_value bytes)
all_values_fit bytes = All-map (FitsSigned w16) alaw_value bytes (λ k d lt. alaw_value_fits (get_or bytes k d))

pub code-lt : (distance : ℕ) → alaw_code distance < 128
code-lt distance = grind (arith, nat_tests, segment_and_step-lt)

pub distance-lt : (value : ℤ) → FitsSigned w16 value → alaw_distance value < 32768
distance-lt (pos n) h = h.sfits
distance-lt (negsuc n) h = h.sfits

-- the steps below half of a distance are its code
pub code_is : (distance steps : ℕ) → distance < 32768 → (distance / 2 < 128 → steps ≡ distance / 2 / 8) → (128 ≤ distance / 2 → steps ≡ 16 + segment_and_step (distance / 2)) → steps ≡ alaw_code distance
code_is distance steps h low high = go (cases_lt distance 256)
  where
    go : (distance < 256) ⊎ (256 ≤ distance) → steps ≡ alaw_code distance
    go (inl lt) =
        let t : nat_lt distance 256 ≡ true = grind (arith, nat_tests) in
        let s : steps ≡ distance / 16 = omega (arith, low (omega arith)) in
        s ∙ ap (λ (b : Bool). if b then distance / 16 else segment_and_step distance) (sym t)
    go (inr le) =
        let t : nat_lt distance 256 ≡ false = grind (arith, nat_tests) in
        let s : steps ≡ segment_and_step distance = omega (arith, high (omega arith), code-half distance le h) in
        s ∙ ap (λ (b : Bool). if b then distance / 16 else segment_and_step distance) (sym t)

pub byte_negative : (value : ℤ) (code : ℕ) → is_negative value ≡ true → code ≡ alaw_code (alaw_distance value) → bit_xor code 85 ≡ alaw_byte value
unfolding alaw_byte
byte_negative value code n e =
    ap (λ (k : ℕ). bit_xor k 85) (sym (zero-add code) ∙ ap (λ (k : ℕ). 0 + k) e)
    ∙ ap (λ (b : Bool). bit_xor ((if b then 0 else 128) + alaw_code (alaw_distance value)) 85) (sym n)

pub byte_positive : (value : ℤ) (code : ℕ) → is_negative value ≡ false → code ≡ alaw_code (alaw_distance value) → bit_xor (128 + code) 85 ≡ alaw_byte value
unfolding alaw_byte
byte_positive value code n e =
    ap (λ (k : ℕ). bit_xor (128 + k) 85) e
    ∙ ap (λ (b : Bool). bit_xor ((if b then 0 else 128) + alaw_code (alaw_distance value)) 85) (sym n)

-- inverting the sign bit as well sets it
turned : (code : ℕ) → code < 128 → bit_xor code 213 ≡ bit_xor (128 + code) 85
turned code h = eqb→eq _ _ (every_below (λ k. nat_eq (bit_xor k 213) (bit_xor (128 + k) 85)) 128 tt code h)

-- the byte, by the bits that are inverted of the code
pub byte_by_sign : (value : ℤ) (code bits : ℕ) → code ≡ alaw_code (alaw_distance value) → bits ≡ (if is_negative value then 85 else 213) → bit_xor code bits ≡ alaw_byte value
byte_by_sign value code bits e b = go (is_negative value) refl
  where
    go : (sign : Bool) → is_negative value ≡ sign → bit_xor code bits ≡ alaw_byte value
    go true n = ap (bit_xor code) (b ∙ ap (λ (s : Bool). if s then 85 else 213) n) ∙ byte_negative value code n e
    go false n =
        ap (bit_xor code) (b ∙ ap (λ (s : Bool). if s then 85 else 213) n)
        ∙ turned code (subst (λ (k : ℕ). k < 128) (sym e) (code-lt (alaw_distance value)))
        ∙ byte_positive value code n e

pub round_trip : AlawRoundTrip
unfolding alaw_byte alaw_value segment_and_step
round_trip byte h = eqb→eq _ _ (every_below (λ k. nat_eq (alaw_byte (alaw_value k)) k) 256 tt byte h)
