-- How a call leaves what an open file knows, by what was done: read, sought, refused or broken. Each cause is exact.
use Rattle.std.specs.Prelude.{◌≡◌, ◌≢◌, ℕ, ◌+◌, ◌-◌, ◌/◌, ◌%◌, ◌<◌, ◌≤◌, true, None, Some, min, Result, Ok, Err}
use Rattle.snd_layout.specs.Blocks.{is_adpcm}
use Rattle.snd_edits.specs.declared.error.ReadError.{ReadError}
use Rattle.snd_edits.specs.declared.error.ReadError.TheVariants as read
use Rattle.snd_edits.specs.declared.error.SeekError.{SeekError}
use Rattle.snd_edits.specs.declared.error.SeekError.TheVariants as seek
use Rattle.snd_edits.specs.Known.{Known}

-- frames can be read into a slice of so many places: no disk call has failed, and the places are for whole frames
pub record IsReady (places : ℕ) (known : Known) : Type 0 where
  pub working : known.broken ≡ None
  pub whole : places % known.shape.params.channels ≡ 0

-- how many frames are read: as many as there are places for, fewer only at the end
abbrev pub count_read : ℕ → Known → ℕ
count_read places known = min (places / known.shape.params.channels) (known.shape.frames - known.place)

-- A read moves the place by the frames that were read. A disk call that fails breaks the file. A refused read changes nothing. Blocks
-- are bad in ADPCM alone.
abbrev pub ReadLeaves : ℕ → Known → Known → Result ℕ ReadError → Type 0
ReadLeaves places old new (Ok count) =
    IsReady places old × (count ≡ count_read places old) × (new ≡ record old { place = old.place + count })
ReadLeaves places old new (Err (read.Broken step)) = (old.broken ≡ Some step) × (new ≡ old)
ReadLeaves places old new (Err read.PartFrame) = (old.broken ≡ None) × (places % old.shape.params.channels ≢ 0) × (new ≡ old)
ReadLeaves places old new (Err read.BadBlock) = IsReady places old × (is_adpcm old.shape.params.codec ≡ true) × (new ≡ old)
ReadLeaves places old new (Err (read.DiskFault step)) = IsReady places old × (new ≡ record old { broken = Some step })

-- All blocks are read, and nothing changes, but that a disk call that fails breaks the file.
abbrev pub CheckLeaves : {T : Type 0} → Known → Known → Result T ReadError → Type 0
CheckLeaves old new (Ok done) = (old.broken ≡ None) × (new ≡ old)
CheckLeaves old new (Err (read.Broken step)) = (old.broken ≡ Some step) × (new ≡ old)
CheckLeaves old new (Err read.PartFrame) = ⊥
CheckLeaves old new (Err read.BadBlock) = (old.broken ≡ None) × (is_adpcm old.shape.params.codec ≡ true) × (new ≡ old)
CheckLeaves old new (Err (read.DiskFault step)) = (old.broken ≡ None) × (new ≡ record old { broken = Some step })

-- A place that is sought is the one to read next. A refused one changes nothing.
abbrev pub SeekLeaves : {T : Type 0} → ℕ → Known → Known → Result T SeekError → Type 0
SeekLeaves to old new (Ok done) = (old.broken ≡ None) × (to ≤ old.shape.frames) × (new ≡ record old { place = to })
SeekLeaves to old new (Err (seek.Broken step)) = (old.broken ≡ Some step) × (new ≡ old)
SeekLeaves to old new (Err seek.AdpcmSeek) = ⊥
SeekLeaves to old new (Err seek.SeekRange) = (old.broken ≡ None) × (old.shape.frames < to) × (new ≡ old)
