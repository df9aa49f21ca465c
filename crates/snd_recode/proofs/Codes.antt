-- The values of both laws in 16 bits, seen for each byte.
use Rattle.std.proofs.Common.{◌≡◌, ◌∙◌, subst, ap, refl, ℕ, ℤ, pos, Bool, true, false, ◌+◌, ◌-◌, ◌*◌, ◌*ℤ◌, ◌/◌, ◌%◌, ◌^◌, ◌<◌, ◌≤◌, List, get_or, length, map, nat_cmp, nat_eq, nat_lt, of_z, to_z, w8, arith}
use Rattle.std.specs.Ordering.{int_eq, ord_max}
use Rattle.std.proofs.lemmas.List.{get_or-map}
use Rattle.std.proofs.lemmas.Bool.Decides.{Decides-int_eq}
use lib.Dec.{T, ltb→lt, eqb→eq}
use Rattle.snd_g711.proofs.Below.{every_below}
use Rattle.snd_g711.specs.Alaw.{alaw_value}
use Rattle.snd_g711.specs.Mulaw.{mulaw_value}
use Rattle.snd_pcm.specs.Pcm.{twos_code}
use Rattle.snd_recode.specs.Factors.{alaw_factor, alaw_halves, mulaw_factor}

pub factor_is : (byte : ℕ) → byte < 256 → 128 / 2 ^ (byte / 16 % 8) ≡ mulaw_factor byte
factor_is byte lt = eqb→eq _ _ (every_below (λ k. nat_eq (128 / 2 ^ (k / 16 % 8)) (mulaw_factor k)) 256 tt byte lt)

abbrev magnitude : ℕ → ℕ
magnitude byte = (252 - byte % 16 * 8) * mulaw_factor byte - 132

magnitude-lt : (byte : ℕ) → byte < 256 → magnitude byte < 32768
magnitude-lt byte lt = ltb→lt _ _ (every_below (λ k. nat_lt (magnitude k) 32768) 256 tt byte lt)

negative_is : (byte : ℕ) → byte < 128 → (65536 - magnitude byte) % 65536 ≡ twos_code 2 (mulaw_value byte)
unfolding mulaw_value
negative_is byte lt = eqb→eq _ _ (every_below (λ k. nat_eq ((65536 - magnitude k) % 65536) (twos_code 2 (mulaw_value k))) 128 tt byte lt)

positive_is : (byte : ℕ) → byte < 128 → magnitude (byte + 128) ≡ twos_code 2 (mulaw_value (byte + 128))
unfolding mulaw_value
positive_is byte lt = eqb→eq _ _ (every_below (λ k. nat_eq (magnitude (k + 128)) (twos_code 2 (mulaw_value (k + 128)))) 128 tt byte lt)

pub negative : (byte factor m result : ℕ) → byte < 128 → factor ≡ mulaw_factor byte → m ≡ (252 - byte % 16 * 8) * factor - 132 → result < 65536 → (result + m) % 65536 ≡ 0
    → result ≡ twos_code 2 (mulaw_value byte)
negative byte factor m result lt f is fits turned =
    let same : m ≡ magnitude byte = is ∙ ap (λ (n : ℕ). (252 - byte % 16 * 8) * n - 132) f in
    let small = magnitude-lt byte (omega (arith, lt)) in
    let e : result ≡ (65536 - magnitude byte) % 65536 = omega (arith, same, small, fits, turned) in
    e ∙ negative_is byte lt

pub positive : (byte factor : ℕ) → 128 ≤ byte → byte < 256 → factor ≡ mulaw_factor byte → (252 - byte % 16 * 8) * factor - 132 ≡ twos_code 2 (mulaw_value byte)
positive byte factor ge lt f =
    ap (λ (n : ℕ). (252 - byte % 16 * 8) * n - 132) f
    ∙ subst (λ (k : ℕ). magnitude k ≡ twos_code 2 (mulaw_value k)) (let e : byte - 128 + 128 ≡ byte = omega (arith, ge) in e) (positive_is (byte - 128) (omega (arith, ge, lt)))

-- ---- of the A-law

is_true : (b : Bool) → T b → b ≡ true
is_true true t = refl
is_true false t = absurd t

pub alaw_factor_is : (code : ℕ) → code < 128 → ord_max nat_cmp (64 / 2 ^ (7 - code / 16)) 1 ≡ 2 ^ (code / 16 - 1)
alaw_factor_is code lt = eqb→eq _ _ (every_below (λ k. nat_eq (ord_max nat_cmp (64 / 2 ^ (7 - k / 16)) 1) (2 ^ (k / 16 - 1))) 128 tt code lt)

-- as the code reads the halves, of 8 bits
pub alaw_value_is : (byte : ℕ) → byte < 256 → to_z w8 (of_z w8 (alaw_halves byte)) *ℤ pos (8 * alaw_factor byte) ≡ alaw_value byte
unfolding alaw_value
alaw_value_is byte lt = (Decides-int_eq _ _).0 (is_true _ (every_below (λ k. int_eq (to_z w8 (of_z w8 (alaw_halves k)) *ℤ pos (8 * alaw_factor k)) (alaw_value k)) 256 tt byte lt))

-- .. at its place of two lists
pub alaw_value_at : (bytes factors : List ℕ) (halves : List ℤ) (i : ℕ) → i < length bytes → get_or bytes i 0 < 256 → factors ≡ map alaw_factor bytes → halves ≡ map alaw_halves bytes
    → to_z w8 (of_z w8 (get_or halves i (pos 0))) *ℤ pos (8 * get_or factors i 0) ≡ alaw_value (get_or bytes i 0)
alaw_value_at bytes factors halves i within lt factors_are halves_are =
    let half : get_or halves i (pos 0) ≡ alaw_halves (get_or bytes i 0) = ap (λ (l : List ℤ). get_or l i (pos 0)) halves_are ∙ get_or-map alaw_halves bytes i 0 (pos 0) within in
    let factor : get_or factors i 0 ≡ alaw_factor (get_or bytes i 0) = ap (λ (l : List ℕ). get_or l i 0) factors_are ∙ get_or-map alaw_factor bytes i 0 0 within in
    rw (half, factor) (alaw_value_is (get_or bytes i 0) lt)
