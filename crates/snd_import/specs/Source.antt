-- A source that a disk holds. It is said for the proofs alone.
use Rattle.std.specs.Prelude.{◌≡◌, ℕ, ◌+◌, ◌%◌, ◌≤◌, false}
use Rattle.snd_fields.specs.declared.field.Order.TheVariants.{Little}
use Rattle.snd_layout.specs.Blocks.{is_adpcm}
use Rattle.snd_layout.specs.Params.{AreParams}
use Rattle.snd_layout.specs.declared.codec.Codec.TheVariants.{S16}
use Rattle.snd_import.specs.Import.{bytes_in}
use Rattle.snd_import.specs.declared.source.Coding.TheVariants.{Codes}
use Rattle.snd_import.specs.declared.source.Source.{Source}

-- codes are of one channel, in 16 bits
pub record AreCodes (s : Source) : Type 0 where
  pub mono : s.params.channels ≡ 1
  pub codec : s.params.codec ≡ S16 Little
  pub even : s.frames % 2 ≡ 0

-- its samples have bytes of their own
pub record IsSource (s : Source) : Type 0 where
  pub fixed : is_adpcm s.params.codec ≡ false
  pub good : AreParams s.params
  pub codes : s.coding ≡ Codes → AreCodes s

-- .. and its frames lie within so many bytes
pub record IsHeld (size : ℕ) (s : Source) : Type 0 where
  pub source : IsSource s
  pub within : s.start + bytes_in s.coding s.params s.frames ≤ size
