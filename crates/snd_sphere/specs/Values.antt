-- What the field of a SPHERE file says of a number of frames, after "SPeech HEader REsources (SPHERE) 2.6" (National Institute
-- of Standards and Technology, 1995), header structure: `sample_count` counts the samples of a channel. That an update keeps the number of its
-- digits is this library's own rule.
use Rattle.std.specs.Prelude.{ℕ, zero, suc, ◌+◌, ◌/◌, ◌%◌, List, [], ◌∷◌, ◌++◌}
use Rattle.snd_layout.specs.Shape.{Shape}

-- the k lowest decimal digits of a number, the highest first
abbrev pub lowest_digits : ℕ → ℕ → List ℕ
lowest_digits zero n = []
lowest_digits (suc k) n = lowest_digits k (n / 10) ++ (48 + n % 10) ∷ []

-- the digits of the count, leading zeros among them
unfoldable pub inner_value : Shape → ℕ → List ℕ
inner_value h frames = lowest_digits h.inner.size frames

-- no further field, and nothing that closes data
abbrev pub outer_value : Shape → ℕ → List ℕ
outer_value h frames = []

abbrev pub side_value : Shape → ℕ → List ℕ
side_value h frames = []

abbrev pub closing : Shape → ℕ → List ℕ
closing h frames = []
