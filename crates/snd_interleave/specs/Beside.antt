-- Lists of numbers that stand side by side, as the channels of frames.
use Rattle.std.specs.Prelude.{◌≡◌, ◌≢◌, ℕ, ◌+◌, ◌*◌, ◌<◌, ℤ, pos, List, [], ◌∷◌, get_or, length, map, max}
use Rattle.std.specs.List.{flat_map, range_with_len}

-- one frame: the number at its place in each list, and zero where the list has ended
abbrev pub frame_at : List (List ℤ) → ℕ → List ℤ
frame_at channels i = map (λ xs. get_or xs i (pos 0)) channels

-- the numbers of so many frames, from one on
abbrev pub frames_from : List (List ℤ) → ℕ → ℕ → List ℤ
frames_from channels at count = flat_map (frame_at channels) (range_with_len at count)

-- the length of the longest list
abbrev pub longest : List (List ℤ) → ℕ
longest [] = 0
longest (xs ∷ rest) = max (length xs) (longest rest)

-- the numbers of all frames: as many as the longest list has
abbrev pub side_by_side : List (List ℤ) → List ℤ
side_by_side channels = frames_from channels 0 (longest channels)

-- ---- a block of so many frames of so many channels

-- one channel of its frames is this list
abbrev pub HasChannel : ℕ → ℕ → ℕ → List ℤ → List ℤ → Type 0
HasChannel channels which count xs block = (j : ℕ) → j < count → get_or block (j * channels + which) (pos 0) ≡ get_or xs j (pos 0)

-- the others stay
abbrev pub KeepsChannels : ℕ → ℕ → ℕ → List ℤ → List ℤ → Type 0
KeepsChannels channels which count old new =
    (j c : ℕ) → j < count → c < channels → c ≢ which → get_or new (j * channels + c) (pos 0) ≡ get_or old (j * channels + c) (pos 0)

-- each of so many numbers has a property
abbrev pub HaveEach : (ℤ → Type 0) → ℕ → List ℤ → Type 0
HaveEach P count xs = (j : ℕ) → j < count → P (get_or xs j (pos 0))
