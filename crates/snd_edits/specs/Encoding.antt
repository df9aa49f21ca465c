-- How frames of ADPCM are written, from front to back: they wait until their block is whole, and the blocks that are whole are on the
-- disk. Their frames are acknowledged; those that wait are when the file is closed.
use Rattle.std.specs.Prelude.{◌≡◌, ◌≢◌, ℕ, ℤ, ◌+◌, ◌*◌, ◌/◌, ◌%◌, ◌<◌, Bool, true, List, ◌++◌, None, Some, Result, Ok, Err, length, if◌then◌else◌}
use Rattle.snd_block_writer.specs.Coded.{coded, kept, whole}
use Rattle.snd_disk.specs.Bytes.{over}
use Rattle.snd_layout.specs.Blocks.{block_align, block_frames}
use Rattle.snd_layout.specs.Params.{Parameters}
use Rattle.snd_layout.specs.Shape.{Shape}
use Rattle.snd_patch.specs.Sealed.{counted, sealed}
use Rattle.snd_edits.specs.declared.error.WriteError.{WriteError}
use Rattle.snd_edits.specs.declared.error.WriteError.TheVariants as write
use Rattle.snd_edits.specs.Editing.{Editing}
use Rattle.snd_edits.specs.Edits.{sealed_where, written_shape}
use Rattle.snd_edits.specs.Known.{Known}
use Rattle.snd_edits.specs.Pacing.{HasRoomToEncode}
use Rattle.snd_edits.specs.Reading.{FitCodec}
use Rattle.snd_edits.specs.WriteCalls.{AreFrames, end_written}

-- ---- steps of the editing state

-- b with the blocks of numbers for its data; and a layout that counts their frames, of which the head does not say
abbrev pub over_blocks : List ℕ → Shape → List ℤ → List ℕ
over_blocks b h ys = over b h.start (coded h.params ys)

abbrev pub counting : Shape → List ℤ → Shape
counting h ys = record h { frames = length ys / h.params.channels }

-- the numbers of more frames are given, be they none: from then on frames count as written
abbrev pub encoded_to : List ℤ → Editing → Editing
encoded_to xs e =
    let all = e.given ++ xs in
    let ys = whole e.shape.params all in
    let h = counting e.shape ys in
    record {
      bytes = sealed_where e.automatic (over_blocks e.bytes h ys) h h.frames;
      shape = written_shape e.automatic h h.frames;
      frames = kept h.params ys;
      place = e.place;
      write_place = end_written xs e.shape e.write_place;
      automatic = e.automatic;
      written = true;
      given = all;
    }

-- zeros fill the last block, and the file is sealed with all frames
abbrev pub encoded_whole : Editing → Editing
encoded_whole e =
    let h = counting e.shape e.given in
    record e {
      bytes = sealed (over_blocks e.bytes h e.given) h h.frames;
      shape = counted h h.frames;
      frames = kept h.params e.given;
    }

-- ---- what a handle knows

-- frames may be given behind so many
pub record MayEncode (xs : List ℤ) (h : Shape) (place : ℕ) : Type 0 where
  pub frames : AreFrames xs h
  pub fits : place < end_written xs h place → HasRoomToEncode h (end_written xs h place)

-- why they may not
abbrev pub IsEncodeRefusal : List ℤ → Shape → ℕ → WriteError → Type 0
IsEncodeRefusal xs h place write.PartFrame = length xs % h.params.channels ≢ 0
IsEncodeRefusal xs h place write.SampleRange = (length xs % h.params.channels ≡ 0) × (FitCodec h.params.codec xs → ⊥)
IsEncodeRefusal xs h place write.ContainerFull = AreFrames xs h × (place < end_written xs h place) × (HasRoomToEncode h (end_written xs h place) → ⊥)
IsEncodeRefusal xs h place other = ⊥

-- how many frames stand in whole blocks
abbrev pub whole_frames : Parameters → ℕ → ℕ
whole_frames p place = place / block_frames p.codec * block_frames p.codec

abbrev pub counting_whole : Shape → ℕ → Shape
counting_whole h place = record h { frames = whole_frames h.params place }

abbrev pub encoded_shape : Bool → Shape → ℕ → Shape
encoded_shape automatic h place = written_shape automatic (counting_whole h place) (whole_frames h.params place)

abbrev pub known_encoded : List ℤ → Known → Known
known_encoded xs k =
    let to = end_written xs k.shape k.write_place in
    record k {
      shape = encoded_shape k.automatic k.shape to;
      write_place = to;
      written = true;
    }

abbrev pub EncodeLeaves : {T : Type 0} → List ℤ → Known → Known → Result T WriteError → Type 0
EncodeLeaves xs old new (Ok done) = (old.broken ≡ None) × MayEncode xs old.shape old.write_place × (new ≡ known_encoded xs old)
EncodeLeaves xs old new (Err (write.Broken step)) = (old.broken ≡ Some step) × (new ≡ old)
EncodeLeaves xs old new (Err (write.DiskFault step)) =
    (old.broken ≡ None) × MayEncode xs old.shape old.write_place × (new ≡ record old { broken = Some step })
EncodeLeaves xs old new (Err refusal) = (old.broken ≡ None) × IsEncodeRefusal xs old.shape old.write_place refusal × (new ≡ old)

-- the blocks that so many numbers' frames fill are written, one more, and 64 bytes more where updates are automatic
abbrev pub most_encoded : Bool → Shape → ℕ → ℕ
most_encoded automatic h numbers =
    (numbers / h.params.channels / block_frames h.params.codec + 1) * block_align h.params.channels h.params.codec + (if automatic then 64 else 0)
