-- How frames are put through a rack behind those of a file.
use Rattle.std.specs.Prelude.{◌≡◌, ℕ, ◌*◌, ◌/◌, ◌%◌, ◌≤◌, false, None, ℤ, List, length}
use Rattle.snd_layout.specs.Blocks.{block_align, block_frames}
use Rattle.snd_layout.specs.Params.{Parameters}
use Rattle.snd_layout.specs.declared.codec.Codec.{Codec}
use Rattle.snd_edits.specs.Bytes.{numbers_in}
use Rattle.snd_edits.specs.Editing.{Editing, frames_read}
use Rattle.snd_edits.specs.Known.{Known}
use Rattle.snd_edits.specs.Reading.{FitCodec}
use Rattle.snd_output.specs.Appended.{HasRoom, IsAtEnd, coded_in, left_in}
use Rattle.snd_output.specs.Widths.{change_numbers, joined}
use Rattle.snd_pcm.specs.Groups.{groups}
use Rattle.snd_rack.specs.Held.{Held}
use Rattle.snd_rack.specs.Passing.{ArePassable, all_held, channels_through, each_passed}
use Rattle.snd_rack.specs.Rack.{bad_place, channels_after}
use Rattle.snd_rack.specs.Stage.{Stated}
use Rattle.snd_racking.specs.Racked.{high_of, low_of}

-- the frames that are left in one file may be put through a rack behind those of another: the rack takes no sample that they do not
-- have, and leaves them as many as those of the other
pub record MayRack (items : List Stated) (from to : Known) : Type 0 where
  pub working : from.broken ≡ None
  pub at_end : IsAtEnd to
  pub good : bad_place items from.shape.params.channels ≡ false
  pub fits : channels_after items from.shape.params.channels ≡ to.shape.params.channels
  pub in_room : HasRoom (left_in from) to

-- stages that frames of so many numbers of a codec may pass, which then have so many
pub record ArePlaced (codec : Codec) (channels after : ℕ) (hs : List Held) : Type 0 where
  pub passable : ArePassable (low_of codec) (high_of codec) channels hs
  pub fits : channels_through hs channels ≡ after

-- whole frames of numbers of a codec may be given to a file through stages
pub record MayGiveRacked (codec : Codec) (channels : ℕ) (hs : List Held) (xs : List ℤ) (to : Known) : Type 0 where
  pub some : 1 ≤ channels
  pub most : channels ≤ 256
  pub placed : ArePlaced codec channels to.shape.params.channels hs
  pub whole : length xs % channels ≡ 0
  pub in_range : FitCodec codec xs
  pub at_end : IsAtEnd to
  pub together : 1 ≤ block_frames to.shape.params.codec
  pub in_room : HasRoom (length xs / channels) to

-- so many numbers are whole frames, one at least, which become no more numbers than are given at a time
pub record IsPiece (channels after most : ℕ) : Type 0 where
  pub some : 1 ≤ most
  pub whole : most % channels ≡ 0
  pub fits : most / channels * after ≤ 16384

-- the frames that are left in one file may be put through stages behind those of another
pub record MayAppendRacked (hs : List Held) (from to : Known) : Type 0 where
  pub working : from.broken ≡ None
  pub at_end : IsAtEnd to
  pub placed : ArePlaced from.shape.params.codec from.shape.params.channels to.shape.params.channels hs
  pub together : 1 ≤ block_frames to.shape.params.codec
  pub in_room : HasRoom (left_in from) to

-- the numbers of frames behind stages
abbrev pub passed_of : List Held → List (List ℤ) → List ℤ
passed_of hs frames = joined (each_passed hs frames)

-- .. of numbers
abbrev pub passed_groups : ℕ → List Held → List ℤ → List ℤ
passed_groups channels hs xs = passed_of hs (groups channels xs)

-- .. of the next n frames of a state
abbrev pub next_passed : List Held → ℕ → Editing → List ℤ
next_passed hs n e = passed_of hs (frames_read e n)

-- the stages of a rack for a codec when so many frames have passed
abbrev pub rack_at : ℕ → Codec → List Stated → List Held
rack_at k codec items = all_held (low_of codec) (high_of codec) k items

-- the bytes that those of whole frames become behind stages, in the codec of other parameters
abbrev pub passed_bytes : Parameters → Parameters → List Held → List ℕ → List ℕ
passed_bytes from to hs bytes = coded_in to.codec (change_numbers from.codec to.codec (passed_groups from.channels hs (numbers_in from.codec bytes)))

-- how many frames so many bytes are, where each sample has bytes of its own
abbrev pub frames_of_bytes : Parameters → ℕ → ℕ
frames_of_bytes p n = n / block_align p.channels p.codec
