-- How a call that writes leaves what an open file knows. Each cause is exact.
use Rattle.std.specs.Prelude.{◌≡◌, ◌≢◌, ◌⊎◌, ℕ, ℤ, ◌+◌, ◌/◌, ◌%◌, ◌<◌, ◌≤◌, Bool, true, false, ◌||◌, List, None, Some, Result, Ok, Err, length, min, nat_lt}
use Rattle.snd_layout.specs.Params.{data_bytes}
use Rattle.snd_layout.specs.Sector.{is_in_one_sector}
use Rattle.snd_layout.specs.Shape.{Shape, room}
use Rattle.snd_layout.specs.declared.kind.Kind.TheVariants.{Voc}
use Rattle.snd_patch.specs.Sealed.{counted}
use Rattle.snd_edits.specs.declared.error.AutoError.{AutoError}
use Rattle.snd_edits.specs.declared.error.AutoError.TheVariants as auto_error
use Rattle.snd_edits.specs.declared.error.SeekError.{SeekError}
use Rattle.snd_edits.specs.declared.error.SeekError.TheVariants as seek
use Rattle.snd_edits.specs.declared.error.ShrinkError.{ShrinkError}
use Rattle.snd_edits.specs.declared.error.ShrinkError.TheVariants as shrink
use Rattle.snd_edits.specs.declared.error.UpdateError.{UpdateError}
use Rattle.snd_edits.specs.declared.error.UpdateError.TheVariants as update
use Rattle.snd_edits.specs.declared.error.WriteError.{WriteError}
use Rattle.snd_edits.specs.declared.error.WriteError.TheVariants as write
use Rattle.snd_edits.specs.Edits.{count_written, trimmed_shape, written_shape}
use Rattle.snd_edits.specs.Known.{Known}
use Rattle.snd_edits.specs.Reading.{FitCodec}

-- ---- frames that are written

-- the frame behind the numbers of frames that are written from a frame on
abbrev pub end_written : List ℤ → Shape → ℕ → ℕ
end_written xs h place = place + length xs / h.params.channels

-- the numbers are whole frames, each number in the range of the codec
pub record AreFrames (xs : List ℤ) (h : Shape) : Type 0 where
  pub whole : length xs % h.params.channels ≡ 0
  pub in_range : FitCodec h.params.codec xs

-- frames may be written: where the end moves, the file does not go on behind its data, and the head has room for them
pub record MayWrite (xs : List ℤ) (h : Shape) (place : ℕ) : Type 0 where
  pub frames : AreFrames xs h
  pub free : h.frames < end_written xs h place → h.trailing ≡ false
  pub in_room : h.frames < end_written xs h place → data_bytes h.params (end_written xs h place) ≤ room h

-- why there may not be so many frames, more than there are
abbrev pub IsGrowthRefusal : Shape → ℕ → WriteError → Type 0
IsGrowthRefusal h to write.TrailingData = h.trailing ≡ true
IsGrowthRefusal h to write.ContainerFull = (h.trailing ≡ false) × (room h < data_bytes h.params to)
IsGrowthRefusal h to other = ⊥

-- why frames may not be written
abbrev pub IsWriteRefusal : List ℤ → Shape → ℕ → WriteError → Type 0
IsWriteRefusal xs h place write.PartFrame = length xs % h.params.channels ≢ 0
IsWriteRefusal xs h place write.SampleRange = (length xs % h.params.channels ≡ 0) × (FitCodec h.params.codec xs → ⊥)
IsWriteRefusal xs h place write.TrailingData = AreFrames xs h × (h.frames < end_written xs h place) × (h.trailing ≡ true)
IsWriteRefusal xs h place write.ContainerFull =
    AreFrames xs h × (h.frames < end_written xs h place) × (h.trailing ≡ false) × (room h < data_bytes h.params (end_written xs h place))
IsWriteRefusal xs h place other = ⊥

abbrev pub known_written : List ℤ → Known → Known
known_written xs k =
    let count = length xs / k.shape.params.channels in
    record k {
      shape = written_shape k.automatic k.shape (count_written k.shape k.write_place count);
      write_place = k.write_place + count;
      written = k.written || nat_lt 0 count;
    }

abbrev pub WriteLeaves : {T : Type 0} → List ℤ → Known → Known → Result T WriteError → Type 0
WriteLeaves xs old new (Ok done) = (old.broken ≡ None) × MayWrite xs old.shape old.write_place × (new ≡ known_written xs old)
WriteLeaves xs old new (Err (write.Broken step)) = (old.broken ≡ Some step) × (new ≡ old)
WriteLeaves xs old new (Err (write.DiskFault step)) = (old.broken ≡ None) × MayWrite xs old.shape old.write_place × (new ≡ record old { broken = Some step })
WriteLeaves xs old new (Err refusal) = (old.broken ≡ None) × IsWriteRefusal xs old.shape old.write_place refusal × (new ≡ old)

-- the frame to write next is sought
abbrev pub SeekWriteLeaves : {T : Type 0} → ℕ → Known → Known → Result T SeekError → Type 0
SeekWriteLeaves to old new (Ok done) = (old.broken ≡ None) × (to ≤ old.shape.frames) × (new ≡ record old { write_place = to })
SeekWriteLeaves to old new (Err (seek.Broken step)) = (old.broken ≡ Some step) × (new ≡ old)
SeekWriteLeaves to old new (Err seek.AdpcmSeek) = ⊥
SeekWriteLeaves to old new (Err seek.SeekRange) = (old.broken ≡ None) × (old.shape.frames < to) × (new ≡ old)

-- ---- the head brought up to date

abbrev pub known_sealed : Known → Known
known_sealed k = record k { shape = counted k.shape k.shape.frames }

-- the answer is how many frames the head then says
abbrev pub UpdateLeaves : Known → Known → Result ℕ UpdateError → Type 0
UpdateLeaves old new (Ok count) = (old.broken ≡ None) × (count ≡ old.shape.frames) × (new ≡ known_sealed old)
UpdateLeaves old new (Err (update.Broken step)) = (old.broken ≡ Some step) × (new ≡ old)
UpdateLeaves old new (Err (update.DiskFault step)) = (old.broken ≡ None) × (new ≡ record old { broken = Some step })

-- whether the field that decides the count lies in one sector
abbrev pub is_whole_field : Shape → Bool
is_whole_field h = is_in_one_sector h.inner.at h.inner.size

abbrev pub AutoLeaves : Bool → Known → Known → Result ℕ AutoError → Type 0
AutoLeaves on old new (Ok count) =
    (old.broken ≡ None) × (on ≡ true → is_whole_field old.shape ≡ true) × (count ≡ old.shape.frames) × (new ≡ record (known_sealed old) { automatic = on })
AutoLeaves on old new (Err (auto_error.Broken step)) = (old.broken ≡ Some step) × (new ≡ old)
AutoLeaves on old new (Err auto_error.Straddle) = (old.broken ≡ None) × (on ≡ true) × (is_whole_field old.shape ≡ false) × (new ≡ old)
AutoLeaves on old new (Err (auto_error.DiskFault step)) =
    (old.broken ≡ None) × (on ≡ true → is_whole_field old.shape ≡ true) × (new ≡ record old { broken = Some step })

-- ---- files that are cut

abbrev pub known_cut : ℕ → Known → Known
known_cut to k = record k { shape = counted k.shape to; place = min k.place to; write_place = min k.write_place to }

-- a file may be cut to so many frames
pub record MayCut (to : ℕ) (k : Known) : Type 0 where
  pub working : k.broken ≡ None
  pub within : to ≤ k.shape.frames
  pub free : to < k.shape.frames → k.shape.trailing ≡ false

abbrev pub TruncateLeaves : {T : Type 0} → ℕ → Known → Known → Result T ShrinkError → Type 0
TruncateLeaves to old new (Ok done) = MayCut to old × (new ≡ known_cut to old)
TruncateLeaves to old new (Err (shrink.Broken step)) = (old.broken ≡ Some step) × (new ≡ old)
TruncateLeaves to old new (Err shrink.AdpcmUpdate) = ⊥
TruncateLeaves to old new (Err shrink.SeekRange) = (old.broken ≡ None) × (old.shape.frames < to) × (new ≡ old)
TruncateLeaves to old new (Err shrink.TrailingData) = (old.broken ≡ None) × (to < old.shape.frames) × (old.shape.trailing ≡ true) × (new ≡ old)
TruncateLeaves to old new (Err (shrink.DiskFault step)) = MayCut to old × (new ≡ record old { broken = Some step })

-- all behind the data may be cut off: in Creative Voice always, else where the file does not go on there
pub record MayTrim (k : Known) : Type 0 where
  pub working : k.broken ≡ None
  pub free : k.shape.trailing ≡ true → k.shape.kind ≡ Voc

abbrev pub known_without_tail : Known → Known
known_without_tail k = record k { shape = record k.shape { trailing = false } }

abbrev pub known_trimmed : Known → Known
known_trimmed k = record k { shape = trimmed_shape k.shape k.shape.frames }

abbrev pub TrimLeaves : {T : Type 0} → Known → Known → Result T ShrinkError → Type 0
TrimLeaves old new (Ok done) = MayTrim old × (new ≡ known_trimmed old)
TrimLeaves old new (Err (shrink.Broken step)) = (old.broken ≡ Some step) × (new ≡ old)
TrimLeaves old new (Err shrink.TrailingData) = (old.broken ≡ None) × (old.shape.trailing ≡ true) × (old.shape.kind ≢ Voc) × (new ≡ old)
TrimLeaves old new (Err (shrink.DiskFault step)) = MayTrim old × ((new ≡ record old { broken = Some step }) ⊎ (new ≡ record (known_sealed old) { broken = Some step }))
TrimLeaves old new (Err other) = ⊥
