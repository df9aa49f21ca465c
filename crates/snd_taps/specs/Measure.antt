-- What samples measure.
use Rattle.std.specs.Prelude.{ℕ, ◌*◌, max, ℤ, nat_abs, List, Bool, ◌||◌, fold, sum_by, count_by}
use Rattle.std.specs.Ordering.{int_eq}

abbrev pub is_clip : ℤ → ℤ → ℤ → Bool
is_clip low high x = int_eq x low || int_eq x high

abbrev pub square : ℤ → ℕ
square x = nat_abs x * nat_abs x

-- the greatest magnitude, or 0
abbrev pub peak_of : List ℤ → ℕ
peak_of samples = fold (λ most x. max most (nat_abs x)) 0 samples

-- how many equal an end of the range
abbrev pub clips_of : ℤ → ℤ → List ℤ → ℕ
clips_of low high samples = count_by (is_clip low high) samples

-- the sum of the squares
abbrev pub energy_of : List ℤ → ℕ
energy_of samples = sum_by square samples
