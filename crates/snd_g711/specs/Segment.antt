-- What the two laws of ITU-T G.711 share: magnitudes in segments, each twice as long as the one before it.
use Rattle.std.specs.Prelude.{ℕ, ◌+◌, ◌*◌, ◌/◌, ◌%◌, ◌^◌, ◌∷◌, [], nat_le, count_by}

-- The segment of a magnitude below 2 ^ 15: how many of the ends 256, 512 .. 16384 it has reached.
-- From 128 on this is floor (log2 magnitude) - 7.
abbrev pub segment : ℕ → ℕ
segment magnitude = count_by (λ end. nat_le end magnitude) (256 ∷ 512 ∷ 1024 ∷ 2048 ∷ 4096 ∷ 8192 ∷ 16384 ∷ [])

-- The code of a magnitude from 128 on: its segment, and in which of the segment's sixteen steps it lies.
unfoldable pub segment_and_step : ℕ → ℕ
segment_and_step magnitude = segment magnitude * 16 + magnitude / 2 ^ (segment magnitude + 3) % 16
