-- The frames that are read into a slice, and the bytes that they take.
use Rattle.std.specs.Prelude.{◌≡◌, ℕ, ℤ, ◌+◌, ◌*◌, ◌/◌, false, List, Option, Some, All, take, drop, if◌then◌else◌}
use Rattle.snd_fields.specs.declared.field.Order.TheVariants.{Little}
use Rattle.snd_layout.specs.Blocks.{block_align, block_frames, is_adpcm}
use Rattle.snd_layout.specs.Params.{Parameters}
use Rattle.snd_layout.specs.Shape.{Shape}
use Rattle.snd_layout.specs.declared.codec.Codec.{Codec}
use Rattle.snd_layout.specs.declared.codec.Codec.TheVariants.{Ima, Ms}
use Rattle.snd_pcm.specs.Groups.{first_groups}
use Rattle.snd_container.specs.Fixed.{InRange}
use Rattle.snd_container.specs.declared.fixed.Fixed.{Fixed}
use Rattle.snd_container.specs.declared.fixed.Fixed.TheVariants.{Linear}
use Rattle.snd_pcm.specs.declared.linear.Linear.TheVariants.{S16}
use Rattle.snd_container.specs.Sound.{fixed_of}
use Rattle.snd_blocks.specs.Frames.{has_bad}
use Rattle.snd_blocks.specs.Sound.{frames_in}
use Rattle.snd_edits.specs.Editing.{Editing, frames_read}

-- the samples whose range a codec's have: ADPCM has that of 16 bits
abbrev pub range_of : Codec → Option Fixed
range_of (Ima align per_block) = Some (Linear (S16 Little))
range_of (Ms align per_block) = Some (Linear (S16 Little))
range_of codec = fixed_of codec

-- samples are in the range of a codec
abbrev pub FitCodec : Codec → List ℤ → Type 0
FitCodec codec xs = (form : Fixed) → range_of codec ≡ Some form → All (InRange form) xs

-- a slice has so many frames of a sound, from a frame on
abbrev pub HasFrames : List ℕ → Shape → ℕ → ℕ → List ℤ → Type 0
HasFrames b s place count xs = first_groups s.params.channels count xs ≡ take count (drop place (frames_in b s))

-- the bytes of so many frames of a codec with a fixed number of bytes for each
abbrev pub bytes_of_frames : Parameters → ℕ → ℕ
bytes_of_frames p count = count * block_align p.channels p.codec

-- the bytes of the blocks that so many frames may stand in
abbrev pub bytes_to_read : Parameters → ℕ → ℕ
bytes_to_read p count =
    if is_adpcm p.codec then (count / block_frames p.codec + 2) * block_align p.channels p.codec else bytes_of_frames p count

-- a slice has so many of the frames that are next, and none of these is bad
pub record GivesFrames (channels : ℕ) (xs : List ℤ) (e : Editing) (count : ℕ) : Type 0 where
  pub frames : first_groups channels count xs ≡ frames_read e count
  pub good : has_bad (frames_read e count) ≡ false
