-- Texts in the bodies of metadata chunks. A byte is a number below 256.
use Rattle.std.specs.Prelude.{◌≡◌, ◌≤◌, ℕ, ◌-◌, ◌==◌, List, ◌++◌, length, replicate}
use Rattle.std.specs.List.{before_first, flat_map}

-- a text ends at its first 0, or with the bytes that it was given
abbrev pub text_of : List ℕ → List ℕ
text_of bytes = before_first (λ b. b == 0) bytes

-- a text in a field of n bytes: zeros follow it
abbrev pub padded : ℕ → List ℕ → List ℕ
padded n text = text ++ replicate (n - length text) 0

-- a text of at most n bytes, none of which is 0
pub record IsTextWithin (n : ℕ) (text : List ℕ) : Type 0 where
  pub no_zero : text_of text ≡ text
  pub short : length text ≤ n

-- some parts, one behind the other
abbrev pub joined : List (List ℕ) → List ℕ
joined parts = flat_map (λ part. part) parts
