-- How many deltas lie in a way, from -8 to 7, bit by bit.
use Rattle.std.proofs.Common.{◌≡◌, ℕ, ℤ, pos, negsuc, ◌+◌, ◌*◌, ◌-◌, ◌/◌, ◌%◌, ◌<◌, ◌≤◌, ◌+ℤ◌, ◌-ℤ◌, ◌*ℤ◌, ◌≤ℤ◌, ◌<ℤ◌, unsigned_abs, zero, suc, refl, sym, ap, ◌∙◌, arith}
use Rattle.std.proofs.Common.{inl, inr}
use Rattle.std.proofs.lemmas.Int.{ints, by_lt_z}
use Rattle.std.proofs.lemmas.Bool.{cases_lt}
use Rattle.std.proofs.lemmas.Nat.{div-mul-add, div_below, mod_below, le-div, div-add-mod'}
use Rattle.std.proofs.Math.Nat.{add-mul-div_right}
use Rattle.snd_ima_adpcm.specs.Frames.{clamp, floor_div}
use Rattle.snd_ms_adpcm.specs.Microsoft.{code_of_number, signed_code}

-- sums of products
sum2 : (p q s : ℕ) → (p + q) * s ≡ p * s + q * s
sum2 p q s = omega arith

sum4 : (a b c e d : ℕ) → (a + b + c + e) * d ≡ a * d + b * d + c * d + e * d
sum4 a b c e d = omega arith

-- ---- rounded to the nearest: half a divisor more, rounded down

half_first : (a d : ℕ) → 0 < d → a / (2 * d) ≡ a / 2 / d
half_first a d some =
    let q = a / 2 / d in
    let r = a / 2 % d in
    let half_is : q * d + r ≡ a / 2 = div-add-mod' (a / 2) d in
    let r_less : r < d = mod_below (a / 2) d some in
    let twice : q * (2 * d) ≡ q * d + q * d = omega arith in
    let a_is : q * (2 * d) + (2 * r + a % 2) ≡ a = omega arith in
    sym (ap (λ n. n / (2 * d)) a_is) ∙ div-mul-add q (2 * d) (2 * r + a % 2) (omega arith)

floor_half_first : (z : ℤ) (d : ℕ) → 0 < d → floor_div z (2 * d) ≡ floor_div (floor_div z 2) d
floor_half_first (pos a) d some = ap pos (half_first a d some)
floor_half_first (negsuc a) d some = ap negsuc (half_first a d some)

half_of : (w z : ℤ) (d : ℕ) → z ≡ pos 2 *ℤ w +ℤ pos d → floor_div z 2 ≡ w +ℤ pos (d / 2)
half_of w (pos a) d is = omega (arith, ints)
half_of w (negsuc a) d is = omega (arith, ints)

pub half_bounds : (z : ℤ) → pos 0 ≤ℤ z → z ≤ℤ pos 1048576 → (pos 0 ≤ℤ floor_div z 2) × (floor_div z 2 ≤ℤ pos 524288)
half_bounds (pos a) least most = (omega (arith, ints), omega (arith, ints))
half_bounds (negsuc a) least most = absurd (omega (arith, ints))

nearest : (w delta : ℤ) → pos 0 <ℤ delta → floor_div (pos 2 *ℤ w +ℤ delta) (2 * unsigned_abs delta) ≡ floor_div (w +ℤ floor_div delta 2) (unsigned_abs delta)
nearest w (pos d) some = floor_half_first (pos 2 *ℤ w +ℤ pos d) d (omega (arith, ints)) ∙ ap (λ z. floor_div z d) (half_of w (pos 2 *ℤ w +ℤ pos d) d refl)
nearest w (negsuc d) some = absurd (omega (arith, ints))

-- the code of a sample: `above` is the sample and half a delta more
pub code_to : (foretold sample delta above way same : ℤ) (code : ℕ) → code ≡ code_of_number (clamp (negsuc 7) (pos 7) (floor_div way (unsigned_abs same))) →
    pos 0 <ℤ delta → same ≡ delta → above ≡ sample +ℤ floor_div delta 2 → way ≡ above -ℤ foretold
    → code ≡ code_of_number (clamp (negsuc 7) (pos 7) (floor_div (pos 2 *ℤ (sample -ℤ foretold) +ℤ delta) (2 * unsigned_abs delta)))
code_to foretold sample delta above way same code is some same_is above_is way_is =
    let up : way ≡ (sample -ℤ foretold) +ℤ floor_div delta 2 = omega (arith, ints) in
    is ∙ ap (λ z. code_of_number (clamp (negsuc 7) (pos 7) (floor_div way (unsigned_abs z)))) same_is
    ∙ ap (λ z. code_of_number (clamp (negsuc 7) (pos 7) (floor_div z (unsigned_abs delta)))) up
    ∙ ap (λ z. code_of_number (clamp (negsuc 7) (pos 7) z)) (sym (nearest (sample -ℤ foretold) delta some))

-- and where the code leads
pub sample_to : (foretold delta above way same rest number : ℤ) → way -ℤ rest ≡ number *ℤ same → same ≡ delta → way ≡ above -ℤ foretold → above -ℤ rest ≡ foretold +ℤ number *ℤ delta
sample_to foretold delta above way same rest number is same_is way_is =
    let moved : way -ℤ rest ≡ number *ℤ delta = is ∙ ap (λ z. number *ℤ z) same_is in
    omega (arith, ints)

-- ---- the number that the four bits stand for

-- two that add up to one less than eight spans
complement : (w a s : ℕ) → 0 < s → w + (a + 1) ≡ 8 * s → w / s + a / s ≡ 7
complement w a s some sum =
    let q = a / s in
    let r = a % s in
    let few : q < 8 = div_below a s 8 some (omega arith) in
    let a_is : q * s + r ≡ a = div-add-mod' a s in
    let r_less : r < s = mod_below a s some in
    let both : (7 - q + q) * s ≡ (7 - q) * s + q * s = sum2 (7 - q) q s in
    let seven : 7 - q + q ≡ 7 = omega arith in
    let product : 7 * s ≡ (7 - q) * s + q * s = sym (ap (λ k. k * s) seven) ∙ both in
    let w_is : (7 - q) * s + (s - 1 - r) ≡ w = omega arith in
    let quotient : w / s ≡ 7 - q = sym (ap (λ n. n / s) w_is) ∙ div-mul-add (7 - q) s (s - 1 - r) (omega arith) in
    omega arith

-- eight spans up, the quotient is 8 more
eight_less : (z : ℤ) (w s : ℕ) → 0 < s → z +ℤ pos (8 * s) ≡ pos w → floor_div z s ≡ pos (w / s) -ℤ pos 8
eight_less (pos a) w s some is =
    let w_is : w ≡ a + 8 * s = omega (arith, ints) in
    let q : w / s ≡ a / s + 8 = ap (λ n. n / s) w_is ∙ add-mul-div_right a 8 some in
    omega (arith, ints)
eight_less (negsuc a) w s some is =
    let sum : w + (a + 1) ≡ 8 * s = omega (arith, ints) in
    let q : w / s + a / s ≡ 7 = complement w a s some sum in
    omega (arith, ints)

below : (z : ℤ) (s : ℕ) → 0 < s → (z +ℤ pos (8 * s)) ≤ℤ pos 0 → clamp (negsuc 7) (pos 7) (floor_div z s) ≡ negsuc 7
below (pos a) s some le = absurd (omega (arith, ints))
below (negsuc a) s some le =
    let many : 7 ≤ a / s = le-div 7 a s some (omega (arith, ints)) in
    grind (arith, ints)

above : (z : ℤ) (s : ℕ) → 0 < s → pos (15 * s) ≤ℤ (z +ℤ pos (8 * s)) → clamp (negsuc 7) (pos 7) (floor_div z s) ≡ pos 7
above (negsuc a) s some le = absurd (omega (arith, ints))
above (pos a) s some le =
    let many : 7 ≤ a / s = le-div 7 a s some (omega (arith, ints)) in
    grind (arith, ints)

between : (q : ℕ) → q ≤ 15 → clamp (negsuc 7) (pos 7) (pos q -ℤ pos 8) ≡ pos q -ℤ pos 8
between q le = grind (arith, ints)

-- what a step gives: the part is taken if it fits
pub data Took (way part rest : ℤ) (missed : ℕ) : Type 0 where
  fits : part ≤ℤ way → missed ≡ 0 → rest ≡ way -ℤ part → Took way part rest missed
  misses : way <ℤ part → missed ≡ 1 → rest ≡ way → Took way part rest missed

pub took : (way part rest x y : ℤ) (missed : ℕ) → x ≡ way → y ≡ part → (y ≤ℤ x → missed ≡ 0) → (y ≤ℤ x → rest ≡ x -ℤ y) → (x <ℤ y → missed ≡ 1) → (x <ℤ y → rest ≡ x) → Took way part rest missed
took way part rest x y missed x_is y_is one two three four =
    rw (sym x_is, sym y_is) (by_lt_z x y (λ lt. misses lt (three lt) (four lt)) (λ le. fits le (one le) (two le)))

less_itself : (k : ℕ) → k - k * 1 ≡ 0
less_itself k = omega arith

taken : (way part rest : ℤ) (s k d : ℕ) → part ≡ pos (k * d) → Took way part rest s → pos ((k - k * s) * d) +ℤ rest ≡ way
taken way part rest s k d part_is (fits le s_is rest_is) =
    let whole : (k - k * 0) * d ≡ k * d = ap (λ n. n * d) (omega arith) in
    rw (s_is, whole) (omega (arith, ints))
taken way part rest s k d part_is (misses lt s_is rest_is) =
    let none : (k - k * 1) * d ≡ 0 = ap (λ n. n * d) (less_itself k) ∙ omega arith in
    rw (s_is, none) (omega (arith, ints))

-- below 0 no part fits, and a part within the way does
no_part_fits : (way part rest : ℤ) (s : ℕ) → Took way part rest s → pos 0 ≤ℤ part → way <ℤ pos 0 → (s ≡ 1) × (rest ≡ way)
no_part_fits way part rest s (fits le s_is rest_is) least lt = absurd (omega (arith, ints))
no_part_fits way part rest s (misses _ s_is rest_is) least lt = (s_is, rest_is)

part_fits : (way part rest : ℤ) (s : ℕ) → Took way part rest s → part ≤ℤ way → (s ≡ 0) × (rest ≡ way -ℤ part)
part_fits way part rest s (fits _ s_is rest_is) le = (s_is, rest_is)
part_fits way part rest s (misses lt s_is rest_is) le = absurd (omega (arith, ints))

-- a way below two parts leaves less than one
less_than_part : (way part rest : ℤ) (s : ℕ) → Took way part rest s → pos 0 ≤ℤ way → way <ℤ (part +ℤ part) → (pos 0 ≤ℤ rest) × (rest <ℤ part)
less_than_part way part rest s (fits le s_is rest_is) least lt = (omega (arith, ints), omega (arith, ints))
less_than_part way part rest s (misses lt _ rest_is) least _ = (omega (arith, ints), omega (arith, ints))

-- the four steps: r8 to r1 are what each leaves, and s8 to s1 are 1 where its part does not fit
pub record Steps (way r8 r4 r2 r1 : ℤ) (d s8 s4 s2 s1 : ℕ) : Type 0 where
  pub eight : Took way (pos (8 * d)) r8 s8
  pub four : Took r8 (pos (4 * d)) r4 s4
  pub two : Took r4 (pos (2 * d)) r2 s2
  pub one : Took r2 (pos d) r1 s1

-- how many deltas they take
abbrev count : ℕ → ℕ → ℕ → ℕ → ℕ
count s8 s4 s2 s1 = (8 - 8 * s8) + (4 - 4 * s4) + (2 - 2 * s2) + (1 - 1 * s1)

add4 : (a b c e : ℕ) (way r8 r4 r2 r1 : ℤ) → pos a +ℤ r8 ≡ way → pos b +ℤ r4 ≡ r8 → pos c +ℤ r2 ≡ r4 → pos e +ℤ r1 ≡ r2 → pos (a + b + c + e) +ℤ r1 ≡ way
add4 a b c e way r8 r4 r2 r1 p q t u = omega (arith, ints)

total : (way r8 r4 r2 r1 : ℤ) (d s8 s4 s2 s1 : ℕ) → Steps way r8 r4 r2 r1 d s8 s4 s2 s1 → pos (count s8 s4 s2 s1 * d) +ℤ r1 ≡ way
total way r8 r4 r2 r1 d s8 s4 s2 s1 t =
    ap (λ n. pos n +ℤ r1) (sum4 (8 - 8 * s8) (4 - 4 * s4) (2 - 2 * s2) (1 - 1 * s1) d)
    ∙ add4 _ _ _ _ way r8 r4 r2 r1 (taken way _ r8 s8 8 d refl t.eight) (taken r8 _ r4 s4 4 d refl t.four) (taken r4 _ r2 s2 2 d refl t.two) (taken r2 (pos d) r1 s1 1 d (omega (arith, ints)) t.one)

all_miss : (way r8 r4 r2 r1 : ℤ) (d s8 s4 s2 s1 : ℕ) → Steps way r8 r4 r2 r1 d s8 s4 s2 s1 → way <ℤ pos 0 → count s8 s4 s2 s1 ≡ 0
all_miss way r8 r4 r2 r1 d s8 s4 s2 s1 t lt =
    let (e, r8_is) = no_part_fits way _ r8 s8 t.eight (omega (arith, ints)) lt in
    let (f, r4_is) = no_part_fits r8 _ r4 s4 t.four (omega (arith, ints)) (omega (arith, ints)) in
    let (g, r2_is) = no_part_fits r4 _ r2 s2 t.two (omega (arith, ints)) (omega (arith, ints)) in
    let (h, r1_is) = no_part_fits r2 _ r1 s1 t.one (omega (arith, ints)) (omega (arith, ints)) in
    omega arith

all_fit : (way r8 r4 r2 r1 : ℤ) (d s8 s4 s2 s1 : ℕ) → Steps way r8 r4 r2 r1 d s8 s4 s2 s1 → pos (16 * d) ≤ℤ way → count s8 s4 s2 s1 ≡ 15
all_fit way r8 r4 r2 r1 d s8 s4 s2 s1 t le =
    let (e, r8_is) = part_fits way _ r8 s8 t.eight (omega (arith, ints)) in
    let (f, r4_is) = part_fits r8 _ r4 s4 t.four (omega (arith, ints)) in
    let (g, r2_is) = part_fits r4 _ r2 s2 t.two (omega (arith, ints)) in
    let (h, r1_is) = part_fits r2 _ r1 s1 t.one (omega (arith, ints)) in
    omega arith

less_left : (way r8 r4 r2 r1 : ℤ) (d s8 s4 s2 s1 : ℕ) → Steps way r8 r4 r2 r1 d s8 s4 s2 s1 → pos 0 ≤ℤ way → way <ℤ pos (16 * d) → (pos 0 ≤ℤ r1) × (r1 <ℤ pos d)
less_left way r8 r4 r2 r1 d s8 s4 s2 s1 t least lt =
    let (e, r8_less) = less_than_part way _ r8 s8 t.eight least (omega (arith, ints)) in
    let (f, r4_less) = less_than_part r8 _ r4 s4 t.four e (omega (arith, ints)) in
    let (g, r2_less) = less_than_part r4 _ r2 s2 t.two f (omega (arith, ints)) in
    less_than_part r2 _ r1 s1 t.one g (omega (arith, ints))

-- the quotient from what is left
quotient : (w q d : ℕ) (r : ℤ) → pos (q * d) +ℤ r ≡ pos w → (pos 0 ≤ℤ r) × (r <ℤ pos d) → w / d ≡ q
quotient w q d (pos a) is (least, lt) =
    let w_is : w ≡ q * d + a = omega (arith, ints) in
    ap (λ n. n / d) w_is ∙ div-mul-add q d a (omega (arith, ints))
quotient w q d (negsuc a) is (least, lt) = absurd (omega (arith, ints))

-- `up` is the way, eight deltas up
number_at : (z up : ℤ) (r8 r4 r2 r1 : ℤ) (d s8 s4 s2 s1 : ℕ) → 0 < d → z +ℤ pos (8 * d) ≡ up → Steps up r8 r4 r2 r1 d s8 s4 s2 s1 → clamp (negsuc 7) (pos 7) (floor_div z d) ≡ pos (count s8 s4 s2 s1) -ℤ pos 8
number_at z (negsuc n) r8 r4 r2 r1 d s8 s4 s2 s1 some is t =
    let none : count s8 s4 s2 s1 ≡ 0 = all_miss _ r8 r4 r2 r1 d s8 s4 s2 s1 t (omega (arith, ints)) in
    below z d some (omega (arith, ints)) ∙ sym (ap (λ n. pos n -ℤ pos 8) none)
number_at z (pos w) r8 r4 r2 r1 d s8 s4 s2 s1 some is t = elim (cases_lt w (16 * d)) [
  | inl lt ↦
      let q : w / d ≡ count s8 s4 s2 s1 = quotient w (count s8 s4 s2 s1) d r1 (total _ r8 r4 r2 r1 d s8 s4 s2 s1 t) (less_left _ r8 r4 r2 r1 d s8 s4 s2 s1 t (omega (arith, ints)) (omega (arith, ints))) in
      ap (λ x. clamp (negsuc 7) (pos 7) x) (eight_less z w d some is ∙ ap (λ n. pos n -ℤ pos 8) q) ∙ between (count s8 s4 s2 s1) (omega arith)
  | inr le ↦
      let all : count s8 s4 s2 s1 ≡ 15 = all_fit _ r8 r4 r2 r1 d s8 s4 s2 s1 t (omega (arith, ints)) in
      above z d some (omega (arith, ints)) ∙ sym (ap (λ n. pos n -ℤ pos 8) all)
]

-- ---- the code of that number

code_is : (s8 s4 s2 s1 : ℕ) → s8 ≤ 1 → s4 ≤ 1 → s2 ≤ 1 → s1 ≤ 1 → code_of_number (pos (count s8 s4 s2 s1) -ℤ pos 8) ≡ 8 * s8 + (7 - (4 * s4 + 2 * s2 + s1))
code_is zero s4 s2 s1 a b c e =
    let n : pos (count 0 s4 s2 s1) -ℤ pos 8 ≡ pos (7 - (4 * s4 + 2 * s2 + s1)) = omega (arith, ints) in
    ap code_of_number n ∙ omega arith
code_is (suc s8) s4 s2 s1 a b c e =
    let one : s8 ≡ 0 = omega arith in
    let n : pos (count (suc s8) s4 s2 s1) -ℤ pos 8 ≡ negsuc (4 * s4 + 2 * s2 + s1) = omega (arith, ints) in
    ap code_of_number n ∙ omega arith

signed_back : (s8 s4 s2 s1 : ℕ) → s8 ≤ 1 → s4 ≤ 1 → s2 ≤ 1 → s1 ≤ 1 → signed_code (8 * s8 + (7 - (4 * s4 + 2 * s2 + s1))) ≡ pos (count s8 s4 s2 s1) -ℤ pos 8
signed_back s8 s4 s2 s1 a b c e = grind (arith, ints)

eight_products : (q d : ℕ) → (pos q -ℤ pos 8) *ℤ pos d ≡ pos (q * d) -ℤ pos (8 * d)
eight_products q d = elim (cases_lt q 8) [
  | inl lt ↦
      let n : pos q -ℤ pos 8 ≡ negsuc (7 - q) = omega (arith, ints) in
      let eight : 8 * d ≡ (7 - q + 1) * d + q * d = sym (ap (λ k. k * d) (omega arith)) ∙ sum2 (7 - q + 1) q d in
      ap (λ k. k *ℤ pos d) n ∙ omega (arith, ints)
  | inr le ↦
      let n : pos q -ℤ pos 8 ≡ pos (q - 8) = omega (arith, ints) in
      let sum : q * d ≡ (q - 8) * d + 8 * d = sym (ap (λ k. k * d) (omega arith)) ∙ sum2 (q - 8) 8 d in
      ap (λ k. k *ℤ pos d) n ∙ omega (arith, ints)
]

pub code_of_steps : (z r8 r4 r2 r1 : ℤ) (d s8 s4 s2 s1 : ℕ) → 0 < d → s8 ≤ 1 → s4 ≤ 1 → s2 ≤ 1 → s1 ≤ 1 → Steps (z +ℤ pos (8 * d)) r8 r4 r2 r1 d s8 s4 s2 s1 →
    8 * s8 + (7 - (4 * s4 + 2 * s2 + s1)) ≡ code_of_number (clamp (negsuc 7) (pos 7) (floor_div z d))
code_of_steps z r8 r4 r2 r1 d s8 s4 s2 s1 some a b c e t = sym (ap code_of_number (number_at z _ r8 r4 r2 r1 d s8 s4 s2 s1 some refl t) ∙ code_is s8 s4 s2 s1 a b c e)

pub rest_of_steps : (z r8 r4 r2 r1 : ℤ) (d s8 s4 s2 s1 : ℕ) → s8 ≤ 1 → s4 ≤ 1 → s2 ≤ 1 → s1 ≤ 1 → Steps (z +ℤ pos (8 * d)) r8 r4 r2 r1 d s8 s4 s2 s1 →
    z -ℤ r1 ≡ signed_code (8 * s8 + (7 - (4 * s4 + 2 * s2 + s1))) *ℤ pos d
rest_of_steps z r8 r4 r2 r1 d s8 s4 s2 s1 a b c e t =
    let all : pos (count s8 s4 s2 s1 * d) +ℤ r1 ≡ z +ℤ pos (8 * d) = total _ r8 r4 r2 r1 d s8 s4 s2 s1 t in
    let product : (pos (count s8 s4 s2 s1) -ℤ pos 8) *ℤ pos d ≡ z -ℤ r1 = eight_products (count s8 s4 s2 s1) d ∙ omega (arith, ints) in
    sym product ∙ sym (ap (λ k. k *ℤ pos d) (signed_back s8 s4 s2 s1 a b c e))
