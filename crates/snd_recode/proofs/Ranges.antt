-- The ranges of numbers whose width is changed.
use Rattle.std.proofs.Common.{◌≡◌, ◌∙◌, ap, sym, inl, inr, subst, ℕ, ◌+◌, ◌-◌, ◌*◌, ◌^◌, ◌≤◌, ℤ, pos, negsuc, Bool, cond, List, All, get_or, arith}
use Rattle.std.proofs.Math.Nat.{mul-le-mul_right, one-le-pow}
use Rattle.std.proofs.lemmas.Bool.{cases_lt, le-leb, lt-leb}
use Rattle.std.proofs.lemmas.Int.{ints}
use Rattle.std.proofs.lemmas.List.Elements.{All-get_or, All-map}
use Rattle.std.proofs.lemmas.Nat.{pow-add}
use Rattle.std.specs.Prelude.{◌*ℤ◌}
use Rattle.snd_container.specs.Fixed.{InRange, range_form}
use Rattle.snd_container.specs.declared.fixed.Fixed.{Fixed}
use Rattle.snd_pcm.specs.Pcm.{bit_count}
use Rattle.snd_pcm.specs.Width.{HasWidth, changed, floor_div}
use Rattle.snd_pcm.specs.declared.linear.Linear as linear
use Rattle.snd_pcm.specs.declared.linear.Linear.TheVariants.{U8, S8, S16, S24, S32}
use Rattle.snd_pcm.proofs.Narrowed.{narrowed}
use Rattle.snd_recode.specs.Recoded.{recoded, width_of}

-- a wider number
wider : (from to : ℕ) (x : ℤ) → 1 ≤ from → from ≤ to → HasWidth from x → HasWidth to (x *ℤ pos (2 ^ (to - from)))
wider from to x least le h =
    let k = 2 ^ (to - from) in
    let some : 1 ≤ k = one-le-pow (to - from) 2 (omega arith) in
    let split : 2 ^ (to - 1) ≡ 2 ^ (from - 1) * k = ap (λ (n : ℕ). 2 ^ n) (let e : to - 1 ≡ from - 1 + (to - from) = omega (arith, least, le) in e) ∙ pow-add 2 (from - 1) (to - from) in
    go x k some split h
  where
    go : (y : ℤ) (k : ℕ) → 1 ≤ k → 2 ^ (to - 1) ≡ 2 ^ (from - 1) * k → HasWidth from y → HasWidth to (y *ℤ pos k)
    go (pos n) k some split fit =
        let most : (n + 1) * k ≤ 2 ^ (from - 1) * k = mul-le-mul_right k (omega (arith, ints, fit.1, one-le-pow (from - 1) 2 (omega arith))) in
        let sum : (n + 1) * k ≡ n * k + k = omega arith in
        (omega (arith, ints), omega (arith, ints, most, sum, split, some))
    go (negsuc n) k some split fit =
        let most : (n + 1) * k ≤ 2 ^ (from - 1) * k = mul-le-mul_right k (omega (arith, ints, fit.0)) in
        (omega (arith, ints, most, split), omega (arith, ints, some))

changed_fits : (from to : ℕ) (x : ℤ) → 1 ≤ from → 1 ≤ to → HasWidth from x → HasWidth to (changed from to x)
changed_fits from to x first second h = elim (cases_lt to from) [
  | inl lt ↦ subst (λ (b : Bool). HasWidth to (cond b (x *ℤ pos (2 ^ (to - from))) (floor_div x (2 ^ (from - to))))) (sym (lt-leb from to lt)) (narrowed from to x second (omega (arith, lt)) h)
  | inr le ↦ subst (λ (b : Bool). HasWidth to (cond b (x *ℤ pos (2 ^ (to - from))) (floor_div x (2 ^ (from - to))))) (sym (le-leb from to le)) (wider from to x first le h)
]

some_bits : (form : linear.Linear) → 1 ≤ bit_count form
some_bits U8 = omega arith
some_bits S8 = omega arith
some_bits (S16 order) = omega arith
some_bits (S24 order) = omega arith
some_bits (S32 order) = omega arith

-- numbers of a codec, in the width of another
pub recoded_fit : (from to : Fixed) (xs : List ℤ) → All (InRange from) xs → All (InRange to) (recoded from to xs)
recoded_fit from to xs all =
    let old = width_of from in
    let new = width_of to in
    All-map (InRange to) (changed old new) xs
    (λ k d lt. changed_fits old new (get_or xs k d) (some_bits (range_form from)) (some_bits (range_form to)) (All-get_or (InRange from) xs k d lt all))
