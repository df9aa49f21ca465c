-- What an editing state owes the file that was opened or made, and what this file says once it is sealed. Nothing is claimed of
-- a file in the midst of a call or after one that failed, nor of what stands in it behind all that its head says it has.
use Rattle.std.specs.Prelude.{◌≡◌, ◌⊎◌, ℕ, ℤ, ◌+◌, ◌<◌, ◌≤◌, Bool, true, false, List, [], All, Ok, get_or, is_none, length}
use Rattle.snd_container.specs.Made.{new_file}
use Rattle.snd_container.specs.Laws.{FileSays}
use Rattle.snd_block_writer.specs.Coded as blocks
use Rattle.snd_blocks.specs.Sound.{frames_in, sound_of}
use Rattle.snd_container.specs.Sound.{Sound, layout_of, fixed_of}
use Rattle.snd_fields.specs.Laws.{IsByte}
use Rattle.snd_layout.specs.Params.{AreParams, Parameters}
use Rattle.snd_layout.specs.Shape.{KeepsRule, Shape, end}
use Rattle.snd_layout.specs.declared.kind.Kind.{Kind}
use Rattle.snd_layout.specs.declared.kind.Kind.TheVariants.{Voc}
use Rattle.snd_layout.specs.Blocks.{is_adpcm}
use Rattle.snd_layout.specs.Container.{HasRoomFor, KeepsHead}
use Rattle.snd_edits.specs.Calls.{ReadLeaves, SeekLeaves}
use Rattle.snd_edits.specs.Editing.{Editing, moved_by, moved_to, opening_of}
use Rattle.snd_edits.specs.Edits.{automatic_to, moved_write_to, sealed_to, trimmed_to, truncated_to, written_to}
use Rattle.snd_edits.specs.Encoding.{MayEncode, encoded_to, encoded_whole}
use Rattle.snd_edits.specs.Pacing.{HasPlaceFor, HoldsBlocks}
use Rattle.snd_edits.specs.Known.{Known}
use Rattle.snd_edits.specs.Making.{making_of}
use Rattle.snd_edits.specs.Updating.{updating_of}
use Rattle.snd_edits.specs.WriteCalls.{MayWrite, SeekWriteLeaves, TrimLeaves, TruncateLeaves, WriteLeaves}

-- The frames are those that the bytes give; these are all there, and as many as the layout says; the place is among them.
pub record HoldsFrames (e : Editing) : Type 0 where
  pub sound : e.frames ≡ frames_in e.bytes e.shape
  pub count : e.shape.frames ≡ length e.frames
  pub held : end e.shape e.shape.frames ≤ length e.bytes
  pub placed : e.place ≤ e.shape.frames

-- the layout is that of a file, and so are the length and every byte behind the data
pub record KeepsTail (file : List ℕ) (head : Shape) (e : Editing) : Type 0 where
  pub opened : layout_of file ≡ Ok head
  pub shape : e.shape ≡ head
  pub size : length e.bytes ≡ length file
  pub behind : (i : ℕ) → end head head.frames ≤ i → get_or e.bytes i 0 ≡ get_or file i 0

-- A state to which a file came that was opened, or made, and says a layout. The state's layout is that, but for the frames and
-- the declared length, and its bytes before the data are the file's, but for the fields. The fields have room for the frames.
-- Where the file goes on behind its data, all but these is as it was. Where updates are automatic, and there, the bytes say
-- already what the state does. In ADPCM the count and the data size are one field.
pub record KeepsFile (file : List ℕ) (e : Editing) : Type 0 where
  pub head : Shape
  pub bytes : All IsByte file
  pub opened : FileSays file head
  pub known : head.unknown_length ≡ false
  pub joined : is_adpcm head.params.codec ≡ true → 12 ≤ head.inner.size
  pub shape : e.shape ≡ record head { frames = e.shape.frames; declared = e.shape.declared }
  pub rule : KeepsRule e.shape
  pub kept : KeepsHead e.shape file e.bytes
  pub stays : e.shape.trailing ≡ true → KeepsTail file head e
  pub holds : HoldsFrames e
  pub room : HasRoomFor head e.shape.frames
  pub told : (e.automatic ≡ true) ⊎ (e.shape.trailing ≡ true) → FileSays e.bytes e.shape

-- An editing state: its samples have bytes of their own, so that frames are written at places.
pub record IsEdited (file : List ℕ) (e : Editing) : Type 0 where
  pub keeps : KeepsFile file e
  pub linear : is_none (fixed_of e.shape.params.codec) ≡ false
  pub write_placed : e.write_place ≤ e.shape.frames

-- A state of a file of ADPCM that is made: its data are the blocks that the numbers fill that were given.
pub record IsEncoded (file : List ℕ) (e : Editing) : Type 0 where
  pub keeps : KeepsFile file e
  pub given : HoldsBlocks e.given e.bytes e.shape e.write_place
  pub place : HasPlaceFor e.shape e.write_place

-- the one or the other; the first argument is whether frames are written by blocks
abbrev pub IsStateOf : Bool → List ℕ → Editing → Type 0
IsStateOf true file e = IsEncoded file e
IsStateOf false file e = IsEdited file e

-- ---- where editing begins

abbrev pub OpenedHoldsFrames : Type 0
OpenedHoldsFrames = (b : List ℕ) (e : Editing) → All IsByte b → opening_of b ≡ Ok e → HoldsFrames e

abbrev pub UpdatedIsEdited : Type 0
UpdatedIsEdited = (b : List ℕ) (e : Editing) → All IsByte b → updating_of b ≡ Ok e → IsEdited b e

-- a file that is made is one that is opened to be updated, but for ADPCM
abbrev pub MadeIsUpdated : Type 0
MadeIsUpdated = (kind : Kind) (p : Parameters) (e : Editing) → AreParams p → is_none (fixed_of p.codec) ≡ false → making_of kind p ≡ Ok e → All IsByte (new_file kind p) × (updating_of (new_file kind p) ≡ Ok e)

abbrev pub MadeIsEdited : Type 0
MadeIsEdited = (kind : Kind) (p : Parameters) (e : Editing) → AreParams p → is_none (fixed_of p.codec) ≡ false → making_of kind p ≡ Ok e → IsEdited (new_file kind p) e

-- ---- the steps of calls that are carried out

-- where a file may be cut to so many frames
pub record MayTruncate (to : ℕ) (h : Shape) : Type 0 where
  pub within : to ≤ h.frames
  pub free : to < h.frames → h.trailing ≡ false

-- a call leads from one editing state to another
pub data Leads (e : Editing) : Editing → Type 0 where
  writes : (xs : List ℤ) → MayWrite xs e.shape e.write_place → Leads e (written_to xs e)
  seals : Leads e (sealed_to e)
  sets_automatic : (on : Bool) → Leads e (automatic_to on e)
  truncates : (to : ℕ) → MayTruncate to e.shape → Leads e (truncated_to to e)
  trims : (e.shape.trailing ≡ true → e.shape.kind ≡ Voc) → Leads e (trimmed_to e)
  reads : (n : ℕ) → e.place + n ≤ e.shape.frames → Leads e (moved_by n e)
  seeks : (to : ℕ) → to ≤ e.shape.frames → Leads e (moved_to to e)
  seeks_to_write : (to : ℕ) → to ≤ e.shape.frames → Leads e (moved_write_to to e)

-- what a handle knows is so in an editing state
pub record Knows (k : Known) (e : Editing) : Type 0 where
  pub shape : k.shape ≡ e.shape
  pub place : k.place ≡ e.place
  pub write_place : k.write_place ≡ e.write_place

-- Each call leads on where it is carried out. To seal, or to say how updates are made, has no condition.
abbrev pub WriteLeads : Type 0
WriteLeads = (k k' : Known) (e : Editing) (xs : List ℤ) (done : Unit) → Knows k e → WriteLeaves xs k k' (Ok done) → Leads e (written_to xs e)

abbrev pub CutLeads : Type 0
CutLeads = (k k' : Known) (e : Editing) (to : ℕ) (done : Unit) → Knows k e → TruncateLeaves to k k' (Ok done) → Leads e (truncated_to to e)

abbrev pub TrimLeads : Type 0
TrimLeads = (k k' : Known) (e : Editing) (done : Unit) → Knows k e → TrimLeaves k k' (Ok done) → Leads e (trimmed_to e)

abbrev pub ReadLeads : Type 0
ReadLeads = (k k' : Known) (e : Editing) (places count : ℕ) → Knows k e → HoldsFrames e → ReadLeaves places k k' (Ok count) → Leads e (moved_by count e)

abbrev pub SeekLeads : Type 0
SeekLeads = (k k' : Known) (e : Editing) (to : ℕ) (done : Unit) → Knows k e → SeekLeaves to k k' (Ok done) → Leads e (moved_to to e)

abbrev pub SeekWriteLeads : Type 0
SeekWriteLeads = (k k' : Known) (e : Editing) (to : ℕ) (done : Unit) → Knows k e → SeekWriteLeaves to k k' (Ok done) → Leads e (moved_write_to to e)

-- and an edited file stays one
abbrev pub LeadsToEdited : Type 0
LeadsToEdited = (file : List ℕ) (e e' : Editing) → IsEdited file e → Leads e e' → IsEdited file e'

-- an editing state to which calls lead from the opening of a file to be updated
pub data Reached (file : List ℕ) : Editing → Type 0 where
  begins : (e : Editing) → updating_of file ≡ Ok e → Reached file e
  goes_on : (e e' : Editing) → Reached file e → Leads e e' → Reached file e'

abbrev pub ReachedIsEdited : Type 0
ReachedIsEdited = (file : List ℕ) (e : Editing) → All IsByte file → Reached file e → IsEdited file e

-- ---- the file sealed

-- an editing state at its first frame, as a file that is opened
abbrev pub as_opened : Editing → Editing
as_opened e = record e { place = 0; write_place = 0; automatic = false; written = false; given = [] }

abbrev pub going_on : Bool → Editing → Editing
going_on t e = record e { shape = record e.shape { trailing = t } }

-- Opened, to be read or updated, the bytes of a state give its layout and exactly its frames; a Creative Voice file may go on
-- behind its data where an odd tail was closed.
pub record OpensAgain (e : Editing) : Type 0 where
  pub goes_on : Bool
  pub opens : opening_of e.bytes ≡ Ok (as_opened (going_on goes_on e))
  pub updates : updating_of e.bytes ≡ Ok (as_opened (going_on goes_on e))
  pub same : (e.shape.kind ≡ Voc) ⊎ (goes_on ≡ e.shape.trailing)

-- So do those of the sealed file.
abbrev pub SealedReadsBack : Type 0
SealedReadsBack = (file : List ℕ) (e : Editing) → IsEdited file e → OpensAgain (sealed_to e)

-- Where updates are automatic, the file does so as it is.
abbrev pub AutomaticReadsBack : Type 0
AutomaticReadsBack = (file : List ℕ) (e : Editing) → IsEdited file e → e.automatic ≡ true → OpensAgain e

-- A file has the sound of another, further chunks and all, but for its frames.
abbrev pub HasSoundOf : List ℕ → List (List ℤ) → List ℕ → Type 0
HasSoundOf file frames x = (sound : Sound) × (sound_of file ≡ Ok sound) × (sound_of x ≡ Ok (record sound { frames = frames }))

-- The sealed file has the sound of the file that was opened or made, but that its frames are the state's.
abbrev pub KeepsSound : List ℕ → Editing → Type 0
KeepsSound file e = HasSoundOf file e.frames (sealed_to e).bytes

abbrev pub SealedSound : Type 0
SealedSound = (file : List ℕ) (e : Editing) → KeepsFile file e → KeepsSound file e

-- So it is wherever calls lead.
abbrev pub ReachedSound : Type 0
ReachedSound = (file : List ℕ) (e : Editing) → All IsByte file → Reached file e → KeepsSound file e

-- ---- files of ADPCM that are made

-- each begins as one, and stays one while more numbers are given, while it is sealed, and as updates are made automatic or not
abbrev pub MadeIsEncoded : Type 0
MadeIsEncoded = (kind : Kind) (p : Parameters) (e : Editing) → AreParams p → is_adpcm p.codec ≡ true → making_of kind p ≡ Ok e → IsEncoded (new_file kind p) e

abbrev pub EncodedStays : Type 0
EncodedStays = (file : List ℕ) (e : Editing) (xs : List ℤ) → IsEncoded file e → MayEncode xs e.shape e.write_place → IsEncoded file (encoded_to xs e)

abbrev pub AutomaticStays : Type 0
AutomaticStays = (file : List ℕ) (e : Editing) (on : Bool) → IsEncoded file e → IsEncoded file (automatic_to on e)

-- Its frames are those that are kept of the numbers in whole blocks; closed, it has those that are kept of all.
abbrev pub EncodedFrames : Type 0
EncodedFrames = (file : List ℕ) (e : Editing) → IsEncoded file e → e.frames ≡ blocks.kept e.shape.params (blocks.whole e.shape.params e.given)

abbrev pub EncodedSound : Type 0
EncodedSound = (file : List ℕ) (e : Editing) → IsEncoded file e → HasSoundOf file (blocks.kept e.shape.params e.given) (encoded_whole e).bytes
