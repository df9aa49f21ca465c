-- A narrower number is in its range.
use Rattle.std.proofs.Common.{◌≡◌, ◌∙◌, ap, ℕ, ◌-◌, ◌*◌, ◌/◌, ◌<◌, ◌≤◌, ◌^◌, ℤ, pos, negsuc, arith}
use Rattle.std.proofs.Math.Nat.{div-lt_iff_lt-mul, one-le-pow}
use Rattle.std.proofs.lemmas.Nat.{pow-add}
use Rattle.std.proofs.lemmas.Int.{ints}
use Rattle.snd_pcm.specs.Width.{HasWidth, floor_div}

-- the quotient of a number below 2 ^ (from - 1)
below : (from to n : ℕ) → 1 ≤ to → to ≤ from → n < 2 ^ (from - 1) → n / 2 ^ (from - to) < 2 ^ (to - 1)
below from to n least le lt =
    let split : 2 ^ (from - 1) ≡ 2 ^ (to - 1) * 2 ^ (from - to) = ap (λ (k : ℕ). 2 ^ k) (omega arith) ∙ pow-add 2 (to - 1) (from - to) in
    let quotient = div-lt_iff_lt-mul {k = 2 ^ (from - to)} {x = n} {y = 2 ^ (to - 1)} (one-le-pow (from - to) 2 (omega arith)) in
    quotient.1 (omega arith)

pub narrowed : (from to : ℕ) (x : ℤ) → 1 ≤ to → to ≤ from → HasWidth from x → HasWidth to (floor_div x (2 ^ (from - to)))
narrowed from to (pos n) least le h =
    let lt = below from to n least le (omega (arith, ints, one-le-pow (from - 1) 2 (omega arith))) in
    (omega (arith, ints), omega (arith, ints))
narrowed from to (negsuc n) least le h =
    let lt = below from to n least le (omega (arith, ints)) in
    (omega (arith, ints), omega (arith, ints))
