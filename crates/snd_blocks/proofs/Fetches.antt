-- Blocks among bytes that were read with those of others.
use Rattle.std.proofs.Common.{◌≡◌, ◌∙◌, ap, sym, ℕ, ◌+◌, ◌-◌, ◌*◌, ◌<◌, ◌≤◌, List, take, drop, arith}
use Rattle.snd_layout.specs.Blocks.{block_align}
use Rattle.snd_layout.specs.Shape.{Shape}
use Rattle.snd_blocks.specs.Fetching.{HoldBlocks}
use Rattle.snd_blocks.proofs.BlockFrames.{bytes_of_block}

-- bytes that are read from the first one's place on
pub they_hold : (b bytes : List ℕ) (s : Shape) (first next : ℕ)
    → take ((next - first) * block_align s.params.channels s.params.codec) bytes
    ≡ take ((next - first) * block_align s.params.channels s.params.codec) (drop (s.start + first * block_align s.params.channels s.params.codec) b)
    → HoldBlocks b s first next bytes
they_hold b bytes s first next same = λ number begun left.
    let k = block_align s.params.channels s.params.codec in
    let n = next - first in
    let m = number - first in
    let lt : m < n = omega arith in
    let whole : number ≡ first + m = omega arith in
    let product : number * k ≡ first * k + m * k = ap (λ (i : ℕ). i * k) whole ∙ (let e : (first + m) * k ≡ first * k + m * k = omega arith in e) in
    let at : s.start + first * k + m * k ≡ s.start + number * k = omega (arith, product) in
    ap (λ (i : ℕ). take k (drop i bytes)) (let e : m * k ≡ 0 + m * k = omega arith in e)
    ∙ sym (bytes_of_block k n m 0 bytes lt)
    ∙ ap (λ l. take k (drop (m * k) l)) same
    ∙ bytes_of_block k n m (s.start + first * k) b lt
    ∙ ap (λ (i : ℕ). take k (drop i b)) at

-- the bytes before those of some blocks, and theirs
pub together : (k first next : ℕ) → first < next → (next - 1) * k + k ≡ first * k + (next - first) * k
together k first next some =
    let one : (next - 1 + 1) * k ≡ (next - 1) * k + k = omega arith in
    let two : (first + (next - first)) * k ≡ first * k + (next - first) * k = omega arith in
    let same : next - 1 + 1 ≡ first + (next - first) = omega arith in
    sym one ∙ ap (λ (i : ℕ). i * k) same ∙ two

-- what is asked for one block after another, on the way to the last
pub asked_then : (a b c k : ℕ) → a ≤ b → b ≤ c → (b - a) * k + (c - b) * k ≡ (c - a) * k
asked_then a b c k first second =
    let sum : c - a ≡ (b - a) + (c - b) = omega arith in
    let product : ((b - a) + (c - b)) * k ≡ (b - a) * k + (c - b) * k = omega arith in
    sym (ap (λ (i : ℕ). i * k) sum ∙ product)
