-- Places for samples: how many there are at most, and that those of a block lie within them.
use Rattle.std.proofs.Common.{◌≡◌, ◌∙◌, ℕ, ◌*◌, ◌≤◌, List, length, take, ap, arith}
use Rattle.std.proofs.lemmas.List.{length-take}
use Rattle.std.proofs.Math.Nat.{mul-le-mul_left}

-- of one channel, and of as many as a frame may have
pub most_places : (p m : ℕ) → p ≤ 2 → m ≤ 16384 → p * m ≤ 32768
most_places p m small few = let times : m * p ≤ m * 2 = mul-le-mul_left m small in omega (arith, times, few)

pub most_samples : (m n : ℕ) → m ≤ 16384 → n ≤ 256 → m * n ≤ 4194304
most_samples m n few channels = let times : n * m ≤ n * 16384 = mul-le-mul_left n few in omega (arith, times, channels)

pub most_in_block : (p m n : ℕ) → p ≤ 2 → m ≤ 16384 → n ≤ 256 → p * (m * n) ≤ 8388608
most_in_block p m n small few channels =
    let all = most_samples m n few channels in
    let times : m * n * p ≤ m * n * 2 = mul-le-mul_left (m * n) small in
    omega (arith, times, all)

-- fewer take no more
pub places_within : (p a b : ℕ) → a ≤ b → p * a ≤ p * b
places_within p a b le = mul-le-mul_left p le

pub block_within : (p a b n : ℕ) → a ≤ b → p * a * n ≤ p * (b * n)
block_within p a b n le = let times : n * (p * a) ≤ n * (p * b) = mul-le-mul_left n (mul-le-mul_left p le) in omega (arith, times)

-- so many at the front of those that are there
pub taken : {U : Type 0} (m : ℕ) (xs : List U) → m ≤ length xs → length (take m xs) ≡ m
taken m xs le = omega (arith, length-take m xs, le)

-- the places for some samples among those for the most, where the count of one sample is known by another name
pub some_places : (p q k m len : ℕ) → p ≡ q → k ≤ m → len ≡ q * m → p * k ≤ len
some_places p q k m len same few is = let alike : p * k ≡ q * k = ap (λ x. x * k) same in omega (arith, alike, places_within q k m few, is)

pub some_samples : (p q k m n c len : ℕ) → p ≡ q → k ≤ m → n ≡ c → len ≡ q * (m * c) → p * k * n ≤ len
some_samples p q k m n c len same few many is =
    let alike : p * k * n ≡ q * k * n = ap (λ x. x * k * n) same in
    let all : q * (m * n) ≡ q * (m * c) = ap (λ x. q * (m * x)) many in
    omega (arith, alike, block_within q k m n few, all, is)

pub same_samples : (p q k n c : ℕ) → p ≡ q → n ≡ c → p * k * n ≡ q * (k * c)
same_samples p q k n c same many =
    let regrouped : p * k * n ≡ p * (k * n) = omega arith in
    regrouped ∙ ap (λ x. x * (k * n)) same ∙ ap (λ x. q * (k * x)) many
