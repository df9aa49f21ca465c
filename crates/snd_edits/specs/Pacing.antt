-- What a handle keeps of a file of ADPCM that is made.
use Rattle.std.specs.Prelude.{◌≡◌, ℕ, ℤ, ◌*◌, ◌/◌, List, All, Option, Some, length, ◌+◌, ◌^◌, ◌<◌, ◌≤◌, true, false, []}
use Rattle.std.specs.Global.{Box}
use Rattle.snd_ima_adpcm.specs.Frames.{Is16Bit}
use Rattle.snd_disk.specs.Runs.{HasAt}
use Rattle.snd_layout.specs.Shape.{Shape, room}
use Rattle.snd_blocks.specs.Calls.{AreBlocks}
use Rattle.snd_block_writer.specs.Coded as blocks
use Rattle.snd_block_writer.specs.Writing.{StandsFor, Writing, block_size}
use Rattle.snd_block_writer.specs.Coded.{block_numbers}
use Rattle.snd_layout.specs.Blocks.{block_align, block_frames, is_adpcm}
use Rattle.snd_layout.specs.Params.{data_bytes}
use Rattle.snd_layout.specs.declared.kind.Kind.TheVariants.{Wave}

-- the frames of the blocks that a writer has put are those of a layout, and the rest of those before a place wait
pub record KeepsPace (h : Shape) (place : ℕ) (w : Writing) : Type 0 where
  pub numbers : block_numbers w.params ≡ block_numbers h.params
  pub size : block_size w ≡ block_align h.params.channels h.params.codec
  pub blocks : h.frames ≡ w.blocks * block_frames h.params.codec
  pub waiting : place * h.params.channels ≡ h.frames * h.params.channels + length w.waiting

abbrev pub PacesIn : Shape → ℕ → Option (Box Writing) → Type 0
PacesIn h place writer = (w : Box Writing) → writer ≡ Some w → KeepsPace h place w.value

-- the head has room for so many frames, and the count of a WAVE file for their number
pub record HasRoomToEncode (h : Shape) (frames : ℕ) : Type 0 where
  pub in_room : data_bytes h.params frames ≤ room h
  pub few : h.kind ≡ Wave → frames < 2 ^ 32

-- .. for all frames before a place, and nothing stands behind them
pub record HasPlaceFor (h : Shape) (place : ℕ) : Type 0 where
  pub blocks : is_adpcm h.params.codec ≡ true
  pub free : h.trailing ≡ false
  pub fits : HasRoomToEncode h place

-- a writer begins a file without frames
pub record BeginsIn (h : Shape) (writer : Option (Box Writing)) : Type 0 where
  pub place : HasPlaceFor h 0
  pub empty : h.frames ≡ 0
  pub stands : (w : Box Writing) → writer ≡ Some w → StandsFor w.value h.params []

-- Bytes have the blocks for their data that numbers of whole frames fill, the last of which stands before a place; the layout counts
-- the frames of these blocks.
pub record HoldsBlocks (ys : List ℤ) (b : List ℕ) (h : Shape) (place : ℕ) : Type 0 where
  pub form : AreBlocks h.params
  pub range : All Is16Bit ys
  pub whole : length ys ≡ place * h.params.channels
  pub frames : h.frames ≡ length (blocks.whole h.params ys) / h.params.channels
  pub held : HasAt b h.start (blocks.coded h.params (blocks.whole h.params ys))

-- .. and these are the numbers that were given to what makes the blocks
pub record IsGiven (writer : Option (Box Writing)) (ys : List ℤ) (b : List ℕ) (h : Shape) (place : ℕ) : Type 0 where
  pub holds : HoldsBlocks ys b h place
  pub stands : (w : Box Writing) → writer ≡ Some w → StandsFor w.value h.params ys
