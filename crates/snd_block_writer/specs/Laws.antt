-- The laws of blocks that are written.
use Rattle.std.specs.Prelude.{◌≡◌, ℕ, ℤ, ◌*◌, ◌/◌, ◌%◌, false, List, All, ◌++◌, length, take}
use Rattle.snd_ima_adpcm.specs.Frames.{Is16Bit}
use Rattle.snd_disk.specs.Bytes.{over}
use Rattle.snd_fields.specs.Laws.{IsByte}
use Rattle.snd_layout.specs.Blocks.{block_frames}
use Rattle.snd_layout.specs.Params.{Parameters}
use Rattle.snd_layout.specs.Shape.{Shape}
use Rattle.snd_blocks.specs.Calls.{AreBlocks}
use Rattle.snd_blocks.specs.Frames.{blocks_decoded, frames_in_blocks, has_bad}
use Rattle.snd_block_writer.specs.Coded.{coded, kept, whole}

-- the frames that are read from them: none is bad
abbrev pub NoneIsBad : Type 0
NoneIsBad = (p : Parameters) (xs : List ℤ) → AreBlocks p → has_bad (blocks_decoded p (coded p xs)) ≡ false

-- .. and there are as many as the numbers have
abbrev pub AllAreKept : Type 0
AllAreKept = (p : Parameters) (xs : List ℤ) → AreBlocks p → length (kept p xs) ≡ length xs / p.channels

-- the whole blocks stay the front when more is written
abbrev pub WholeIsFront : Type 0
WholeIsFront = (p : Parameters) (xs ys : List ℤ) → AreBlocks p → (l : List ℕ) × (coded p (xs ++ ys) ≡ coded p (whole p xs) ++ l)

-- .. and so do the frames that are read from them
abbrev pub KeptStays : Type 0
KeptStays = (p : Parameters) (xs ys : List ℤ) → AreBlocks p → kept p (whole p xs) ≡ take (length (whole p xs) / p.channels) (kept p (xs ++ ys))

-- whole blocks keep the greatest multiple of a block's frames that the numbers reach
abbrev pub WholeFramesAreKept : Type 0
WholeFramesAreKept = (p : Parameters) (xs : List ℤ) → AreBlocks p
    → length (kept p (whole p xs)) ≡ length xs / p.channels / block_frames p.codec * block_frames p.codec

-- where a file has the blocks for its data, a reader finds the frames that are kept
abbrev pub KeptIsRead : Type 0
KeptIsRead = (b : List ℕ) (s : Shape) (xs : List ℤ) → AreBlocks s.params → length xs % s.params.channels ≡ 0 → s.frames ≡ length xs / s.params.channels
    → frames_in_blocks (over b s.start (coded s.params xs)) s ≡ kept s.params xs

-- the blocks of numbers of 16 bits are bytes
abbrev pub CodedAreBytes : Type 0
CodedAreBytes = (p : Parameters) (xs : List ℤ) → All Is16Bit xs → All IsByte (coded p xs)
