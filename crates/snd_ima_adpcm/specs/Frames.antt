-- How the samples of one or two channels stand in a block's list, and how a byte holds two codes.
use Rattle.std.specs.Prelude.{◌≡◌, ◌+◌, ◌*◌, ◌/◌, ◌%◌, ◌-◌, ◌≤◌, ◌≤ℤ◌, ℕ, ℤ, pos, negsuc, List, [], ◌∷◌, ◌++◌, Bool, IsTrue, ◌==◌, nat_lt, if◌then◌else◌}
use Rattle.std.specs.Int.{int_min, int_max}

-- the number of two bytes, the low one first, in two's complement
abbrev pub number_16 : ℕ → ℕ → ℤ
number_16 low high = if nat_lt high 128 then pos (low + 256 * high) else negsuc (65535 - (low + 256 * high))

-- an entry of each list in turn
abbrev pub alternating : {X : Type 0} → List X → List X → List X
alternating [] ys = []
alternating (x ∷ xs) [] = []
alternating (x ∷ xs) (y ∷ ys) = x ∷ y ∷ alternating xs ys

-- frame by frame, the channels in turn
abbrev pub in_frames : {X : Type 0} → ℕ → (ℕ → List X) → List X
in_frames channels list_of = if channels == 1 then list_of 0 else alternating (list_of 0) (list_of 1)

-- one channel's bytes, and then the other's
abbrev pub in_turn : ℕ → (ℕ → List ℕ) → List ℕ
in_turn channels bytes_of = if channels == 1 then bytes_of 0 else (bytes_of 0 ++ bytes_of 1)

-- the first of each two entries, and the second
abbrev pub firsts : {X : Type 0} → List X → List X
firsts [] = []
firsts (x ∷ []) = x ∷ []
firsts (x ∷ y ∷ xs) = x ∷ firsts xs

abbrev pub seconds : {X : Type 0} → List X → List X
seconds [] = []
seconds (x ∷ []) = []
seconds (x ∷ y ∷ xs) = y ∷ seconds xs

-- what belongs to one channel in a list where the channels stand in turn
abbrev pub of_channel : {X : Type 0} → ℕ → ℕ → List X → List X
of_channel channels channel xs = if channels == 1 then xs else if channel == 0 then firsts xs else seconds xs

-- the codes of a list of bytes, two in each
abbrev pub low_half_first : List ℕ → List ℕ
low_half_first [] = []
low_half_first (byte ∷ bytes) = byte % 16 ∷ byte / 16 ∷ low_half_first bytes

abbrev pub high_half_first : List ℕ → List ℕ
high_half_first [] = []
high_half_first (byte ∷ bytes) = byte / 16 ∷ byte % 16 ∷ high_half_first bytes

-- ---- numbers

-- the quotient, rounded toward minus infinity
abbrev pub floor_div : ℤ → ℕ → ℤ
floor_div (pos a) n = pos (a / n)
floor_div (negsuc a) n = negsuc (a / n)

abbrev pub clamp : ℤ → ℤ → ℤ → ℤ
clamp low high x = int_max low (int_min x high)

-- held within 16 bits
abbrev pub clamp_16 : ℤ → ℤ
clamp_16 x = clamp (negsuc 32767) (pos 32767) x

-- the two bytes of a number of 16 bits, the low one first, in two's complement
abbrev pub bytes_16 : ℤ → List ℕ
bytes_16 (pos n) = n % 256 ∷ n / 256 ∷ []
bytes_16 (negsuc n) = (65535 - n) % 256 ∷ (65535 - n) / 256 ∷ []

-- a number of 16 bits
pub record Is16Bit (x : ℤ) : Type 0 where
  pub least : negsuc 32767 ≤ℤ x
  pub most : x ≤ℤ pos 32767

-- the bytes of a list of codes, two in each
abbrev pub bytes_low_half_first : List ℕ → List ℕ
bytes_low_half_first [] = []
bytes_low_half_first (code ∷ []) = []
bytes_low_half_first (one ∷ two ∷ codes) = (one + 16 * two) ∷ bytes_low_half_first codes

abbrev pub bytes_high_half_first : List ℕ → List ℕ
bytes_high_half_first [] = []
bytes_high_half_first (code ∷ []) = []
bytes_high_half_first (one ∷ two ∷ codes) = (16 * one + two) ∷ bytes_high_half_first codes

-- 4 bytes of each list in turn
abbrev pub fours : List ℕ → List ℕ → List ℕ
fours (a ∷ b ∷ c ∷ d ∷ xs) (e ∷ f ∷ g ∷ h ∷ ys) = a ∷ b ∷ c ∷ d ∷ e ∷ f ∷ g ∷ h ∷ fours xs ys
fours xs ys = []

-- `count` numbers are one whole block, of a length that the format allows and that is at most 8192
pub record IsWholeBlock (is_align : ℕ → ℕ → Bool) (samples_per_block : ℕ → ℕ → ℕ) (channels count : ℕ) : Type 0 where
  pub align : ℕ
  pub accepted : IsTrue (is_align channels align)
  pub room : align ≤ 8192
  pub whole : count ≡ channels * samples_per_block channels align
