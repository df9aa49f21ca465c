-- The places of blocks.
use Rattle.std.proofs.Common.{◌≡◌, ◌∙◌, ap, ℕ, ◌+◌, ◌*◌, ◌-◌, ◌/◌, ◌%◌, ◌<◌, ◌≤◌, arith}
use Rattle.std.proofs.Math.Nat.{div-lt_iff_lt-mul, div-mul-le_self, le-div_iff_mul-le, le-mul_of_pos_right, lt-div-mul-add, mod-eq-sub-mul-div, mul-div-le, mul-le-mul_right}
use Rattle.std.specs.Int.{div_ceil}
use Rattle.snd_blocks.specs.Spans.{count_before}

-- a block with a counted frame is one of the counted blocks
pub block_is_counted : (number per_block frames : ℕ) → 1 ≤ per_block → number * per_block < frames → number + 1 ≤ (frames + per_block - 1) / per_block
block_is_counted number per_block frames some within =
    (le-div_iff_mul-le {x = number + 1} {y = frames + per_block - 1} (let e : 0 < per_block = omega arith in e)).1
    (let e : (number + 1) * per_block ≡ number * per_block + per_block = omega arith in omega (arith, e))

-- and ends with their bytes
pub block_fits : (number per_block frames align : ℕ) → 1 ≤ per_block → number * per_block < frames → number * align + align ≤ (frames + per_block - 1) / per_block * align
block_fits number per_block frames align some within =
    let sum : (number + 1) * align ≡ number * align + align = omega arith in
    omega (arith, sum, mul-le-mul_right align (block_is_counted number per_block frames some within))

pub part_of_product : (k n : ℕ) → 1 ≤ k → n ≤ k * n
part_of_product k n some = let e : n * k ≡ k * n = omega arith in omega (arith, e, le-mul_of_pos_right {m = k} n (let h : 0 < k = omega arith in h))

pub times_le : (k m n : ℕ) → m ≤ n → k * m ≤ k * n
times_le k m n le =
    let left : m * k ≡ k * m = omega arith in
    let right : n * k ≡ k * n = omega arith in
    omega (arith, left, right, mul-le-mul_right k le)

-- ---- the blocks of some frames: from that of the first frame on, and up to the one behind that of the last

pub none_before : (per_block place count : ℕ) → 1 ≤ per_block → count_before per_block place count (place / per_block) ≡ 0
none_before per_block place count some = omega (arith, div-mul-le_self place per_block)

pub all_before : (per_block place count number : ℕ) → 1 ≤ per_block → 1 ≤ count → (place + count - 1) / per_block + 1 ≤ number → count_before per_block place count number ≡ count
all_before per_block place count number some wanted last =
    let end : place + count - 1 < (place + count - 1) / per_block * per_block + per_block = lt-div-mul-add {a = place + count - 1} (let h : 0 < per_block = omega arith in h) in
    let sum : ((place + count - 1) / per_block + 1) * per_block ≡ (place + count - 1) / per_block * per_block + per_block = omega arith in
    omega (arith, end, sum, mul-le-mul_right per_block last)

pub blocks_between : (per_block place count number : ℕ) → 1 ≤ per_block → 1 ≤ count → number ≤ (place + count - 1) / per_block + 1 → number - place / per_block ≤ count / per_block + 2
blocks_between per_block place count number some wanted last =
    let positive : 0 < per_block = omega arith in
    let first = lt-div-mul-add {a = place} positive in
    let more = lt-div-mul-add {a = count} positive in
    let sum : (place / per_block + count / per_block + 2) * per_block ≡ place / per_block * per_block + count / per_block * per_block + per_block + per_block = omega arith in
    let least : (place + count - 1) / per_block < place / per_block + count / per_block + 2 =
    (div-lt_iff_lt-mul {x = place + count - 1} {y = place / per_block + count / per_block + 2} positive).1 (omega (arith, first, more, sum)) in
    omega (arith, least)

pub first_before_last : (per_block place count : ℕ) → 1 ≤ per_block → 1 ≤ count → place / per_block ≤ (place + count - 1) / per_block + 1
first_before_last per_block place count some wanted =
    let positive : 0 < per_block = omega arith in
    let end : place + count - 1 < (place + count - 1) / per_block * per_block + per_block = lt-div-mul-add {a = place + count - 1} positive in
    let sum : ((place + count - 1) / per_block + 2) * per_block ≡ (place + count - 1) / per_block * per_block + per_block + per_block = omega arith in
    let least : place / per_block < (place + count - 1) / per_block + 2 =
    (div-lt_iff_lt-mul {x = place} {y = (place + count - 1) / per_block + 2} positive).1 (omega (arith, end, sum)) in
    omega (arith, least)

-- one of these blocks begins before the end of the frames, and ends behind the first
pub begins_before : (per_block place count number : ℕ) → 1 ≤ count → number < (place + count - 1) / per_block + 1 → number * per_block < place + count
begins_before per_block place count number some last =
    omega (arith, some, mul-le-mul_right per_block (let e : number ≤ (place + count - 1) / per_block = omega (arith, last) in e), div-mul-le_self (place + count - 1) per_block)

pub ends_behind : (per_block place number : ℕ) → 1 ≤ per_block → place / per_block ≤ number → place < number * per_block + per_block
ends_behind per_block place number some first =
    omega (arith, lt-div-mul-add {a = place} (let e : 0 < per_block = omega arith in e), mul-le-mul_right per_block first)

pub one_more : (first number align : ℕ) → first ≤ number → (number + 1 - first) * align ≡ (number - first) * align + align
one_more first number align le =
    ap (λ (m : ℕ). m * align) (let e : number + 1 - first ≡ (number - first) + 1 = omega arith in e)
    ∙ (let e : ((number - first) + 1) * align ≡ (number - first) * align + align = omega arith in e)

pub whole_product : (n k : ℕ) → 1 ≤ k → n % k ≡ 0 → n ≡ k * (n / k)
whole_product n k some whole = omega (arith, mod-eq-sub-mul-div n k, mul-div-le n k)

-- one of the counted blocks has a counted frame
pub counted_block : (number per_block frames : ℕ) → 1 ≤ per_block → number < (frames + per_block - 1) / per_block → number * per_block < frames
counted_block number per_block frames some last =
    let least : (number + 1) * per_block ≤ frames + per_block - 1 =
    (le-div_iff_mul-le {x = number + 1} {y = frames + per_block - 1} (let e : 0 < per_block = omega arith in e)).0 (omega arith) in
    let sum : (number + 1) * per_block ≡ number * per_block + per_block = omega arith in
    omega (arith, least, sum)

pub rounded_up : (n d : ℕ) → 1 ≤ d → div_ceil n d ≡ (n + d - 1) / d
rounded_up n d some = grind arith
