-- The laws of numbers in fields.
use Rattle.std.proofs.Common.{◌≡◌, ◌⊎◌, inl, inr, ℕ, zero, suc, ◌+◌, ◌*◌, ◌/◌, ◌%◌, ◌<◌, ◌≤◌, ◌^◌, List, [], All, length, get_or, take, drop, refl, sym, ◌∙◌, ap, arith}
use Rattle.std.proofs.Math.Nat.{mod-lt}
use Rattle.std.proofs.lemmas.Nat.{div-mul-add, mod-mul-add}
use Rattle.std.proofs.lemmas.Bool.{cases_lt}
use Rattle.std.proofs.lemmas.List.{append-nil, get_or_default, get_or_past, length-drop, length-take, places, same_lists}
use Rattle.std.specs.Int.{byte_at, bytes_high_first, bytes_low_first}
use Rattle.byteorder.specs.Endian.{big_from, little_from}
use Rattle.byteorder.specs.Numbers.{big_from-lt, big_number-reads_back, length-bytes_high_first, length-bytes_low_first, little_from-lt, little_number-reads_back}
use Rattle.snd_fields.specs.declared.field.Order.{Order}
use Rattle.snd_fields.specs.declared.field.Order.TheVariants.{Little, Big}
use Rattle.snd_fields.specs.Field.{bytes_of, number, with_field}
use Rattle.snd_fields.specs.Laws.{IsByte, BytesAreBytes, BytesOfNumber, NumberFits, NumberIsLocal, NumberOfBytes, NumberOfField, NumberStays}

-- the k bytes of x from one place on are those of y from another place on
abbrev pub SameBytes : ℕ → ℕ → ℕ → List ℕ → List ℕ → Type 0
SameBytes k at at' x y = (i p q : ℕ) → i < k → p ≡ at + i → q ≡ at' + i → get_or x p 0 ≡ get_or y q 0

little_same : (k at at' : ℕ) (x y : List ℕ) → SameBytes k at at' x y → little_from at k x ≡ little_from at' k y
little_same zero at at' x y same = refl
little_same (suc k) at at' x y same =
    let head = same 0 at at' (omega arith) (omega arith) (omega arith) in
    let rest = little_same k (suc at) (suc at') x y (λ i p q lt pe qe. same (suc i) p q (omega arith) (omega arith) (omega arith)) in
    omega (arith, head, rest)

big_same : (k at at' : ℕ) (x y : List ℕ) → SameBytes k at at' x y → big_from at k x ≡ big_from at' k y
big_same zero at at' x y same = refl
big_same (suc k) at at' x y same =
    let head = same 0 at at' (omega arith) (omega arith) (omega arith) in
    let rest = big_same k (suc at) (suc at') x y (λ i p q lt pe qe. same (suc i) p q (omega arith) (omega arith) (omega arith)) in
    rw (head, rest) refl

-- the same bytes give the same number
pub number_same : (order : Order) (k at at' : ℕ) (x y : List ℕ) → SameBytes k at at' x y → number order x at k ≡ number order y at' k
number_same Little k at at' x y same = little_same k at at' x y same
number_same Big k at at' x y same = big_same k at at' x y same

abbrev pub AllBytes : List ℕ → Type 0
AllBytes x = (i : ℕ) → get_or x i 0 < 256

at_places : (x y : List ℕ) (p q at at' : ℕ) → p ≡ at → q ≡ at' → get_or x at 0 ≡ get_or y at' 0 → get_or x p 0 ≡ get_or y q 0
at_places x y p q at at' pe qe same = rw (pe, qe) same

little_fixes : (k at at' : ℕ) (x y : List ℕ) → AllBytes x → AllBytes y → little_from at k x ≡ little_from at' k y → SameBytes k at at' x y
little_fixes zero at at' x y bx by e i p q lt pe qe = absurd (omega arith)
little_fixes (suc k) at at' x y bx by e zero p q lt pe qe =
    at_places x y p q at at' (omega arith) (omega arith) (omega (arith, bx at, by at', e))
little_fixes (suc k) at at' x y bx by e (suc i) p q lt pe qe =
    little_fixes k (suc at) (suc at') x y bx by (omega (arith, bx at, by at', e)) i p q (omega arith) (omega arith) (omega arith)

big_head : (k a b r s : ℕ) → r < 256 ^ k → s < 256 ^ k → a * 256 ^ k + r ≡ b * 256 ^ k + s → a ≡ b
big_head k a b r s rl sl e = sym (div-mul-add a (256 ^ k) r rl) ∙ ap (λ n. n / 256 ^ k) e ∙ div-mul-add b (256 ^ k) s sl

big_rest : (k a b r s : ℕ) → r < 256 ^ k → s < 256 ^ k → a * 256 ^ k + r ≡ b * 256 ^ k + s → r ≡ s
big_rest k a b r s rl sl e = sym (mod-mul-add a (256 ^ k) r rl) ∙ ap (λ n. n % 256 ^ k) e ∙ mod-mul-add b (256 ^ k) s sl

big_fixes : (k at at' : ℕ) (x y : List ℕ) → AllBytes x → AllBytes y → big_from at k x ≡ big_from at' k y → SameBytes k at at' x y
big_fixes zero at at' x y bx by e i p q lt pe qe = absurd (omega arith)
big_fixes (suc k) at at' x y bx by e zero p q lt pe qe =
    at_places x y p q at at' (omega arith) (omega arith)
    (big_head k _ _ _ _ (big_from-lt (suc at) k x bx) (big_from-lt (suc at') k y by) e)
big_fixes (suc k) at at' x y bx by e (suc i) p q lt pe qe =
    big_fixes k (suc at) (suc at') x y bx by
    (big_rest k _ _ _ _ (big_from-lt (suc at) k x bx) (big_from-lt (suc at') k y by) e) i p q (omega arith) (omega arith) (omega arith)

-- one number stands for one list of bytes
pub number_fixes : (order : Order) (k at at' : ℕ) (x y : List ℕ) → AllBytes x → AllBytes y → number order x at k ≡ number order y at' k → SameBytes k at at' x y
number_fixes Little k at at' x y bx by e = little_fixes k at at' x y bx by e
number_fixes Big k at at' x y bx by e = big_fixes k at at' x y bx by e

pub length-bytes_of : (order : Order) (k n : ℕ) → length (bytes_of order k n) ≡ k
length-bytes_of Little k n = length-bytes_low_first 0 k n
length-bytes_of Big k n = length-bytes_high_first k n

byte_at-lt : (j n : ℕ) → byte_at j n < 256
byte_at-lt zero n = mod-lt n (omega arith)
byte_at-lt (suc j) n = mod-lt (n / 256 ^ suc j) (omega arith)

low_bytes-lt : (k j n i : ℕ) → get_or (bytes_low_first j k n) i 0 < 256
low_bytes-lt zero j n i = omega arith
low_bytes-lt (suc k) j n zero = byte_at-lt j n
low_bytes-lt (suc k) j n (suc i) = low_bytes-lt k (suc j) n i

high_bytes-lt : (k n i : ℕ) → get_or (bytes_high_first k n) i 0 < 256
high_bytes-lt zero n i = omega arith
high_bytes-lt (suc k) n zero = byte_at-lt k n
high_bytes-lt (suc k) n (suc i) = high_bytes-lt k n i

pub bytes_of-lt : (order : Order) (k n : ℕ) → AllBytes (bytes_of order k n)
bytes_of-lt Little k n i = low_bytes-lt k 0 n i
bytes_of-lt Big k n i = high_bytes-lt k n i

-- each byte, also past the end, where a list reads as 0
pub bytes_from_all : (b : List ℕ) → All IsByte b → AllBytes b
bytes_from_all b all i =
    elim (cases_lt i (length b)) [ inl lt ↦ all i 0 lt | inr le ↦ omega (arith, get_or_past b i 0 le) ]

pub all_from_bytes : (b : List ℕ) → AllBytes b → All IsByte b
all_from_bytes b bytes k d lt = omega (arith, get_or_default b k d 0 lt, bytes k)

pub bytes_are_bytes : BytesAreBytes
bytes_are_bytes order k n = (length-bytes_of order k n, all_from_bytes _ (bytes_of-lt order k n))

pub number_of_bytes : NumberOfBytes
number_of_bytes Little k n fits = ap (little_from 0 k) (sym (append-nil (bytes_low_first 0 k n))) ∙ little_number-reads_back k n [] fits
number_of_bytes Big k n fits = ap (big_from 0 k) (sym (append-nil (bytes_high_first k n))) ∙ big_number-reads_back k n [] fits

put_at : (b bytes : List ℕ) (at i p q : ℕ) → at + length bytes ≤ length b → i < length bytes → p ≡ at + i → q ≡ i → get_or (with_field b at bytes) p 0 ≡ get_or bytes q 0
put_at b bytes at i p q within lt pe qe = grind (arith, places)

pub number_of_field : NumberOfField
number_of_field order b at k n within fits =
    let len = length-bytes_of order k n in
    number_same order k at 0 (with_field b at (bytes_of order k n)) (bytes_of order k n)
    (λ i p q lt pe qe. put_at b (bytes_of order k n) at i p q (omega arith) (omega arith) pe (omega arith))
    ∙ number_of_bytes order k n fits

pub number_fits : NumberFits
number_fits Little b at k all = little_from-lt at k b (bytes_from_all b all)
number_fits Big b at k all = big_from-lt at k b (bytes_from_all b all)

in_field : (b : List ℕ) (at k i : ℕ) → i < k → at + k ≤ length b → get_or (take k (drop at b)) i 0 ≡ get_or b (at + i) 0
in_field b at k i lt within = grind (arith, places)

pub bytes_of_number : BytesOfNumber
bytes_of_number order b at k within all =
    let n = number order b at k in
    let len = length-bytes_of order k n in
    let long : length (take k (drop at b)) ≡ k = omega (arith, length-take k (drop at b), length-drop at b) in
    let same = number_fixes order k 0 at (bytes_of order k n) b (bytes_of-lt order k n) (bytes_from_all b all) (number_of_bytes order k n (number_fits order b at k all)) in
    same_lists _ _ (omega arith)
    (λ i d lt. get_or_default (bytes_of order k n) i d 0 lt ∙ same i i (at + i) (omega arith) (omega arith) refl
    ∙ sym (in_field b at k i (omega arith) within) ∙ get_or_default (take k (drop at b)) i 0 d (omega arith))

pub number_is_local : NumberIsLocal
number_is_local order x y at k same =
    number_same order k at at x y (λ i p q lt pe qe. at_places x y p q (at + i) (at + i) pe qe (same (at + i) (omega arith) (omega arith)))

beside : (b bytes : List ℕ) (put i : ℕ) → put + length bytes ≤ length b → (i < put) ⊎ (put + length bytes ≤ i) → get_or (with_field b put bytes) i 0 ≡ get_or b i 0
beside b bytes put i within (inl below) = grind (arith, places)
beside b bytes put i within (inr above) = grind (arith, places)

pub number_stays : NumberStays
number_stays order b bytes put at k within (inl below) =
    number_is_local order _ _ at k (λ i from to. beside b bytes put i within (inl (omega arith)))
number_stays order b bytes put at k within (inr above) =
    number_is_local order _ _ at k (λ i from to. beside b bytes put i within (inr (omega arith)))
