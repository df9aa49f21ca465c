-- An 8SVX file that is made with pieces and frames, after "8SVX IFF 8-Bit Sampled Voice" (Steve Hayes and Jerry Morrison,
-- Electronic Arts, 1985). That its fields are brought up in place is this library's own way.
use Rattle.std.specs.Prelude.{◌≡◌, ℕ, ◌+◌, ◌-◌, ◌^◌, ◌≤◌, List, ◌++◌, Ok, drop, length, map, take}
use Rattle.snd_chunks.specs.Heads.{chunk_read}
use Rattle.snd_chunks.specs.Written.{NewChunk, pad}
use Rattle.snd_fields.specs.Field.{with_field}
use Rattle.snd_layout.specs.Params.{Parameters, data_bytes}
use Rattle.snd_layout.specs.Shape.{Shape}
use Rattle.snd_wave.specs.Sealed.{put_in}
use Rattle.snd_svx.specs.Layout.{svx_layout}
use Rattle.snd_svx.specs.Values.{inner_value, outer_value, side_value}
use Rattle.snd_svx.specs.Written.{MayBeMade, head_for, head_size, made_pieces, made_shape, svx_head}

-- a file with so many frames, which are coded as these data, and the pad behind them
unfoldable pub svx_made : Parameters → List NewChunk → ℕ → List ℕ → List ℕ
svx_made p pieces frames bytes = head_for p pieces frames ++ bytes ++ pad (data_bytes p frames)

-- these frames and data may be those of a file that is made with these pieces: the data have room in the head
pub record MayHold (p : Parameters) (pieces : List NewChunk) (frames : ℕ) (bytes : List ℕ) : Type 0 where
  pub made : MayBeMade p pieces
  pub in_room : data_bytes p frames ≤ 2 ^ 32 + 6 - head_size p pieces
  pub coded : length bytes ≡ data_bytes p frames

-- what is made reads back
abbrev pub MadeReadsBack : Type 0
MadeReadsBack = (p : Parameters) (pieces : List NewChunk) (frames : ℕ) (bytes : List ℕ) → MayHold p pieces frames bytes →
    svx_layout (svx_made p pieces frames bytes) ≡ Ok (made_shape p pieces frames)

-- it holds its pieces and its data
abbrev pub MadeHoldsAll : Type 0
MadeHoldsAll = (p : Parameters) (pieces : List NewChunk) (frames : ℕ) (bytes : List ℕ) → MayHold p pieces frames bytes →
    (map (chunk_read (svx_made p pieces frames bytes)) (made_pieces pieces) ≡ pieces)
    × (take (data_bytes p frames) (drop (head_size p pieces) (svx_made p pieces frames bytes)) ≡ bytes)

-- its data begin behind its head
abbrev pub HeadHasItsSize : Type 0
HeadHasItsSize = (p : Parameters) (pieces : List NewChunk) (frames : ℕ) → length (head_for p pieces frames) ≡ head_size p pieces

-- a file with the values for so many frames in the three fields of its layout
unfoldable pub with_values : List ℕ → Shape → ℕ → List ℕ
with_values b h frames = put_in h.side (side_value h frames) (put_in h.outer (outer_value h frames) (with_field b h.inner.at (inner_value h frames)))

-- A head into whose fields the values for so many frames were put is the head for so many frames, whatever stands behind it.
abbrev pub HeadIsCounted : Type 0
HeadIsCounted = (p : Parameters) (pieces : List NewChunk) (frames : ℕ) (behind : List ℕ) →
    with_values (svx_head p pieces ++ behind) (made_shape p pieces 0) frames ≡ head_for p pieces frames ++ behind
