-- Which of some wanted frames stand in which block.
use Rattle.std.specs.Prelude.{◌≡◌, ℕ, ℤ, ◌+◌, ◌-◌, ◌*◌, List, All, min, max, take}
use Rattle.snd_ima_adpcm.specs.Frames.{Is16Bit}
use Rattle.snd_layout.specs.Blocks.{block_frames}
use Rattle.snd_layout.specs.Shape.{Shape}
use Rattle.snd_pcm.specs.Groups.{first_groups}
use Rattle.snd_blocks.specs.Frames.{wanted_frames}

-- how many of `count` frames from a place on stand before a block
abbrev pub count_before : ℕ → ℕ → ℕ → ℕ → ℕ
count_before per_block place count number = min (place + count) (max place (number * per_block)) - place

-- a slice has the wanted frames that stand before a block
abbrev pub HasSpan : List ℕ → Shape → ℕ → ℕ → ℕ → List ℤ → Type 0
HasSpan b s place count number xs =
    first_groups s.params.channels (count_before (block_frames s.params.codec) place count number) xs
    ≡ take (count_before (block_frames s.params.codec) place count number) (wanted_frames b s place count)

-- where a slice had those before a block, it has those before the next one now
abbrev pub ReadsSpan : List ℕ → Shape → ℕ → ℕ → ℕ → List ℤ → List ℤ → Type 0
ReadsSpan b s place count number old new = HasSpan b s place count number old → HasSpan b s place count (number + 1) new

-- the numbers of these are in the range of 16 bits, where those before were
abbrev pub RangesSpan : Shape → ℕ → ℕ → ℕ → List ℤ → List ℤ → Type 0
RangesSpan s place count number old new =
    All Is16Bit (take (s.params.channels * count_before (block_frames s.params.codec) place count number) old)
    → All Is16Bit (take (s.params.channels * count_before (block_frames s.params.codec) place count (number + 1)) new)
