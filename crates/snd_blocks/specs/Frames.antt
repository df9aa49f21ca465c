-- The frames of ADPCM data, which stand in blocks. A block whose head is bad has no samples. Its frames are bad: they are lists of
-- no numbers, where a good frame has one for each channel.
use Rattle.std.specs.Prelude.{◌≡◌, ℕ, ℤ, ◌/◌, Bool, true, false, List, [], ◌∷◌, length, take, drop, replicate, if◌then◌else◌}
use Rattle.std.specs.List.{flat_map, list_any}
use Rattle.snd_ima_adpcm.specs.Ima.{ima_block, is_bad_ima_block}
use Rattle.snd_ms_adpcm.specs.Microsoft.{is_bad_ms_block, ms_block}
use Rattle.snd_layout.specs.declared.codec.Codec.{Codec}
use Rattle.snd_layout.specs.declared.codec.Codec.TheVariants.{Ima, Ms}
use Rattle.snd_layout.specs.Blocks.{block_align, block_frames}
use Rattle.snd_layout.specs.Params.{Parameters, data_bytes}
use Rattle.snd_layout.specs.Shape.{Shape}
use Rattle.snd_pcm.specs.Groups.{first_groups, groups}

-- ---- one block

-- whether the head of a block is bad; a codec that has no blocks has no good ones
unfoldable pub is_bad_block : ℕ → Codec → List ℕ → Bool
is_bad_block channels (Ima align per_block) block = is_bad_ima_block channels block
is_bad_block channels (Ms align per_block) block = is_bad_ms_block channels block
is_bad_block channels codec block = true

-- the samples of a good block, frame by frame
unfoldable pub block_samples : ℕ → Codec → List ℕ → List ℤ
block_samples channels (Ima align per_block) block = ima_block channels block
block_samples channels (Ms align per_block) block = ms_block channels block
block_samples channels codec block = []

-- the frames of a block
abbrev pub frames_of : Parameters → List ℕ → List (List ℤ)
frames_of p block =
    if is_bad_block p.channels p.codec block
    then replicate (block_frames p.codec) []
    else first_groups p.channels (block_frames p.codec) (block_samples p.channels p.codec block)

abbrev pub is_bad_frame : List ℤ → Bool
is_bad_frame [] = true
is_bad_frame (x ∷ xs) = false

-- whether one of some frames is bad
abbrev pub has_bad : List (List ℤ) → Bool
has_bad frames = list_any is_bad_frame frames

-- ---- all blocks

-- the frames of all whole blocks of some bytes
abbrev pub blocks_decoded : Parameters → List ℕ → List (List ℤ)
blocks_decoded p bytes = flat_map (frames_of p) (groups (block_align p.channels p.codec) bytes)

-- the frames that the layout of an ADPCM file counts
unfoldable pub frames_in_blocks : List ℕ → Shape → List (List ℤ)
frames_in_blocks b s = take s.frames (blocks_decoded s.params (take (data_bytes s.params s.frames) (drop s.start b)))

-- so many of these, from a place on
abbrev pub wanted_frames : List ℕ → Shape → ℕ → ℕ → List (List ℤ)
wanted_frames b s place count = take count (drop place (frames_in_blocks b s))

-- a slice has the frames from a place on, and none of them is bad
pub record HasFrames (b : List ℕ) (s : Shape) (place : ℕ) (xs : List ℤ) : Type 0 where
  pub good : has_bad (wanted_frames b s place (length xs / s.params.channels)) ≡ false
  pub frames : groups s.params.channels xs ≡ wanted_frames b s place (length xs / s.params.channels)

-- one of the frames that so many numbers are wanted of is bad
abbrev pub HasBadFrame : List ℕ → Shape → ℕ → ℕ → Type 0
HasBadFrame b s place numbers = has_bad (wanted_frames b s place (numbers / s.params.channels)) ≡ true
