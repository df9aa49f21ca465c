-- A whole list of samples as blocks. A rule for one block gives its bytes from its samples and what is carried from the blocks before, and what is carried on.
use Rattle.std.specs.Prelude.{◌-◌, ◌/◌, ◌%◌, ℕ, zero, suc, ℤ, pos, List, [], ◌∷◌, ◌++◌, length, take, drop, replicate}

pub record Rule (State : Type 0) : Type 0 where
  pub bytes : State → List ℤ → List ℕ
  pub next : State → List ℤ → State

-- the samples, with zeros behind them up to whole blocks of n
abbrev pub filled : ℕ → List ℤ → List ℤ
filled n samples = samples ++ replicate ((n - length samples % n) % n) (pos 0)

-- the bytes of so many blocks of n samples
abbrev pub bytes_of_blocks : {State : Type 0} → Rule State → ℕ → ℕ → State → List ℤ → List ℕ
bytes_of_blocks rule n zero state samples = []
bytes_of_blocks rule n (suc count) state samples = rule.bytes state (take n samples) ++ bytes_of_blocks rule n count (rule.next state (take n samples)) (drop n samples)

-- the bytes of a whole list
abbrev pub bytes_of_list : {State : Type 0} → Rule State → ℕ → State → List ℤ → List ℕ
bytes_of_list rule n state samples = bytes_of_blocks rule n (length (filled n samples) / n) state (filled n samples)

-- the bytes that calls give one after another, each for its samples
abbrev pub bytes_of_calls : {State : Type 0} → Rule State → State → List (List ℤ) → List ℕ
bytes_of_calls rule state [] = []
bytes_of_calls rule state (samples ∷ calls) = rule.bytes state samples ++ bytes_of_calls rule (rule.next state samples) calls

-- the samples of calls, joined
abbrev pub joined : List (List ℤ) → List ℤ
joined [] = []
joined (samples ∷ calls) = samples ++ joined calls
