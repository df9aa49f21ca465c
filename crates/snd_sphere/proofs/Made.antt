-- The head of a file that is made.
use Rattle.std.proofs.Common.{◌≡◌, ℕ, zero, suc, ◌+◌, ◌-◌, ◌^◌, ◌<◌, ◌≤◌, true, List, [], ◌∷◌, ◌++◌, All, Some, refl, ap, ◌∙◌, length, map, replicate, arith}
use Rattle.std.proofs.lemmas.Bool.{and_parts, le-leb, lt-ltb, ltb-true}
use Rattle.std.proofs.lemmas.Fmt.{decimal-digits_of, length-decimal-le}
use Rattle.std.proofs.lemmas.Int.Digits.{all_below_base_digits_of, number_digits_of, number_lt}
use Rattle.std.proofs.lemmas.List.{length-append, length-map, length-replicate}
use Rattle.std.proofs.lemmas.List.Elements.{All-append, All-cons, All-nil, All-replicate}
use Rattle.std.specs.Int.Digits.{AllBelowBase, digits_of, number_from_digits}
use Rattle.std.specs.List.{list_all}
use Rattle.std.specs.Prelude.{codes, decimal, nat_le, nat_lt}
use Rattle.snd_fields.specs.Decimal.{digits_number, is_digit}
use Rattle.snd_fields.specs.Laws.{IsByte}
use Rattle.snd_fields.specs.declared.field.Order.TheVariants.{Little, Big}
use Rattle.snd_layout.specs.Params.{AreParams, Parameters}
use Rattle.snd_layout.specs.declared.codec.Codec.{Codec}
use Rattle.snd_layout.specs.declared.codec.Codec.TheVariants.{U8, S8, S16, S24, S32, MuLaw, ALaw, Ima, Ms}
use Rattle.snd_sphere.specs.Lines.{number_text}
use Rattle.snd_sphere.specs.Written.{coding_lines, head_lines, sphere_head}

-- ---- decimal numbers

digits_are : (ds : List ℕ) → AllBelowBase 10 ds → list_all is_digit (map (λ d. 48 + d) ds) ≡ true
digits_are [] all = refl
digits_are (d ∷ ds) all =
    let least : nat_le 48 (48 + d) ≡ true = le-leb 48 (48 + d) (omega arith) in
    let most : nat_le (48 + d) 57 ≡ true = le-leb (48 + d) 57 (omega (arith, all.0)) in
    rw (least, most) (digits_are ds all.1)

map_back : (ds : List ℕ) → map (λ c. c - 48) (map (λ d. 48 + d) ds) ≡ ds
map_back [] = refl
map_back (d ∷ ds) = let e : 48 + d - 48 ≡ d = omega arith in ap (λ (k : ℕ). k ∷ map (λ c. c - 48) (map (λ d. 48 + d) ds)) e ∙ ap (λ (l : List ℕ). d ∷ l) (map_back ds)

some_digit : (n k : ℕ) → 1 ≤ n → n < 10 ^ k → 1 ≤ k
some_digit n zero some lt = absurd (omega (arith, some, lt))
some_digit n (suc k) some lt = omega arith

-- a number of 32 bits reads back
pub decimal_said : (n : ℕ) → 1 ≤ n → n < 2 ^ 32 → number_text (2 ^ 32 - 1) (decimal n) ≡ Some n
decimal_said n some few =
    let is : decimal n ≡ map (λ d. 48 + d) (digits_of 10 n) = decimal-digits_of n (omega (arith, some)) (omega (arith, few)) in
    let below = all_below_base_digits_of 10 n (omega arith) in
    let value = number_digits_of 10 n (omega arith) in
    let all : list_all is_digit (decimal n) ≡ true = ap (list_all is_digit) is ∙ digits_are (digits_of 10 n) below in
    let number : digits_number (decimal n) ≡ n = ap digits_number is ∙ ap (number_from_digits 10) (map_back (digits_of 10 n)) ∙ value in
    let size : length (decimal n) ≤ 10 = length-decimal-le 10 n (omega arith) (omega (arith, few)) (omega (arith, few)) in
    let same : length (decimal n) ≡ length (digits_of 10 n) = ap length is ∙ length-map (digits_of 10 n) (λ d. 48 + d) in
    let count : 1 ≤ length (digits_of 10 n) = some_digit n (length (digits_of 10 n)) some (rw value at (number_lt 10 (digits_of 10 n) below)) in
    let least : nat_le 1 (length (decimal n)) ≡ true = le-leb 1 (length (decimal n)) (omega (arith, same, count)) in
    let most : nat_le (length (decimal n)) 19 ≡ true = le-leb (length (decimal n)) 19 (omega (arith, size)) in
    let digits : nat_le (length (decimal n)) 18 ≡ true = le-leb (length (decimal n)) 18 (omega (arith, size)) in
    let small : nat_lt n (2 ^ 63) ≡ true = lt-ltb n (2 ^ 63) (omega (arith, few)) in
    let under : nat_le n (2 ^ 32 - 1) ≡ true = le-leb n (2 ^ 32 - 1) (omega (arith, few)) in
    rw (digits, least, most, all, number, small, under) refl

-- ---- the size of a head, and that it has bytes

bytes_from : (l : List ℕ) → list_all (λ c. nat_lt c 256) l ≡ true → All IsByte l
bytes_from [] all = All-nil IsByte
bytes_from (c ∷ l) all =
    let parts = and_parts (nat_lt c 256) (list_all (λ c. nat_lt c 256) l) all in
    All-cons IsByte c l (ltb-true c 256 parts.0) (bytes_from l parts.1)

digit_bytes : (ds : List ℕ) → AllBelowBase 10 ds → All IsByte (map (λ d. 48 + d) ds)
digit_bytes [] all = All-nil IsByte
digit_bytes (d ∷ ds) all = All-cons IsByte (48 + d) (map (λ d. 48 + d) ds) (omega (arith, all.0)) (digit_bytes ds all.1)

decimal_bytes : (n : ℕ) → 1 ≤ n → n < 2 ^ 32 → All IsByte (decimal n)
decimal_bytes n some few = rw (decimal-digits_of n (omega (arith, some)) (omega (arith, few))) (digit_bytes (digits_of 10 n) (all_below_base_digits_of 10 n (omega arith)))

coding_bytes : (codec : Codec) → All IsByte (coding_lines codec)
coding_bytes (S16 Little) = bytes_from (coding_lines (S16 Little)) refl
coding_bytes (S16 Big) = bytes_from (coding_lines (S16 Big)) refl
coding_bytes ALaw = bytes_from (coding_lines ALaw) refl
coding_bytes U8 = bytes_from (coding_lines U8) refl
coding_bytes S8 = bytes_from (coding_lines S8) refl
coding_bytes (S24 order) = bytes_from (coding_lines MuLaw) refl
coding_bytes (S32 order) = bytes_from (coding_lines MuLaw) refl
coding_bytes MuLaw = bytes_from (coding_lines MuLaw) refl
coding_bytes (Ima align per_block) = bytes_from (coding_lines MuLaw) refl
coding_bytes (Ms align per_block) = bytes_from (coding_lines MuLaw) refl

coding_size : (codec : Codec) → length (coding_lines codec) ≤ 128
coding_size (S16 Little) = omega arith
coding_size (S16 Big) = omega arith
coding_size ALaw = omega arith
coding_size U8 = omega arith
coding_size S8 = omega arith
coding_size (S24 order) = omega arith
coding_size (S32 order) = omega arith
coding_size MuLaw = omega arith
coding_size (Ima align per_block) = omega arith
coding_size (Ms align per_block) = omega arith

five_bytes : (x c y d z : List ℕ) → All IsByte x → All IsByte c → All IsByte y → All IsByte d → All IsByte z → All IsByte (x ++ c ++ y ++ d ++ z)
five_bytes x c y d z one two three four five =
    All-append IsByte (x ++ c ++ y ++ d) z (All-append IsByte (x ++ c ++ y) d (All-append IsByte (x ++ c) y (All-append IsByte x c one two) three) four) five

five_size : (x c y d z : List ℕ) → length (x ++ c ++ y ++ d ++ z) ≡ length x + length c + length y + length d + length z
five_size x c y d z = omega (arith, length-append (x ++ c ++ y ++ d) z, length-append (x ++ c ++ y) d, length-append (x ++ c) y, length-append x c)

pub head_bytes : (p : Parameters) → AreParams p → All IsByte (sphere_head p)
unfolding sphere_head
head_bytes p good =
    All-append IsByte (head_lines p) (replicate (1024 - length (head_lines p)) 32)
    (five_bytes (codes "NIST_1A\n   1024\nchannel_count -i ") (decimal p.channels) (codes "\nsample_count -i 0000000000\nsample_rate -i ") (decimal p.rate) (coding_lines p.codec) (bytes_from (codes "NIST_1A\n   1024\nchannel_count -i ") refl) (decimal_bytes p.channels good.some_channel (omega (arith, good.most_channels))) (bytes_from (codes "\nsample_count -i 0000000000\nsample_rate -i ") refl)
    (decimal_bytes p.rate good.some_rate good.most_rate) (coding_bytes p.codec))
    (All-replicate IsByte (1024 - length (head_lines p)) 32 (omega arith))

pub head_size : (p : Parameters) → AreParams p → length (sphere_head p) ≡ 1024
unfolding sphere_head
head_size p good =
    let whole = five_size (codes "NIST_1A\n   1024\nchannel_count -i ") (decimal p.channels) (codes "\nsample_count -i 0000000000\nsample_rate -i ") (decimal p.rate) (coding_lines p.codec) in
    let few : length (head_lines p) ≤ 1024 =
    omega (arith, whole, length-decimal-le 10 p.channels (omega arith) (omega (arith, good.most_channels)) (omega (arith, good.most_channels)), length-decimal-le 10 p.rate (omega arith) (omega (arith, good.most_rate)) (omega (arith, good.most_rate)), coding_size p.codec) in
    omega (arith, length-append (head_lines p) (replicate (1024 - length (head_lines p)) 32), length-replicate {A = ℕ} (1024 - length (head_lines p)) 32, few)
