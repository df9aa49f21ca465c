-- How the frames of one file are put behind those of another.
use Rattle.std.specs.Prelude.{◌≡◌, ◌⊎◌, ℕ, ◌+◌, ◌-◌, ◌*◌, ◌/◌, ◌%◌, ◌^◌, ◌<◌, ◌≤◌, Bool, false, List, ℤ, ◌++◌, None, Result, Ok, Err, drop, length, take, is_some, true, if◌then◌else◌}
use Rattle.snd_blocks.specs.Frames.{has_bad}
use Rattle.snd_chunks.specs.Written.{NewChunk}
use Rattle.snd_container.specs.Sound.{fixed_of}
use Rattle.snd_disk.specs.declared.disk.Disk.{Ghosts}
use Rattle.snd_disk.specs.Device.{AsksAtMost, OnlyReadsOn}
use Rattle.snd_disk.specs.State.{Rises, State}
use Rattle.snd_layout.specs.Blocks.{block_align, block_frames, is_adpcm}
use Rattle.snd_layout.specs.Params.{Parameters, data_bytes}
use Rattle.snd_layout.specs.Shape.{room}
use Rattle.snd_layout.specs.declared.codec.Codec.{Codec}
use Rattle.snd_layout.specs.declared.codec.Codec.TheVariants.{MuLaw}
use Rattle.snd_layout.specs.declared.kind.Kind.{Kind}
use Rattle.snd_layout.specs.declared.kind.Kind.TheVariants.{Wave}
use Rattle.snd_file.specs.declared.handle.File.{File}
use Rattle.snd_edits.specs.declared.mode.Mode.{Ghosts as ModeGhosts}
use Rattle.snd_edits.specs.Bytes.{AreWhole, sources_in}
use Rattle.snd_file.specs.Bytes.{numbers_of}
use Rattle.snd_edits.specs.Calls.{count_read}
use Rattle.snd_edits.specs.Editing.{Editing, frames_read}
use Rattle.snd_edits.specs.Edits.{coded_as}
use Rattle.snd_edits.specs.Known.{Known}
use Rattle.snd_file.specs.Handle.{Stands, channels_of, codec_of, disk_of, known_of}
use Rattle.snd_edits.specs.Reading.{FitCodec, GivesFrames, bytes_of_frames}
use Rattle.snd_output.specs.declared.stop.Stop.{Stop}
use Rattle.snd_output.specs.declared.stop.Stop.TheVariants.{Changed, Fault, Memory}
use Rattle.snd_output.specs.Ends.{IfChanged}
use Rattle.snd_output.specs.Made.{IsMaking}
use Rattle.snd_output.specs.Widths.{change_numbers, joined}

-- ---- what handles know

-- how many frames are left to be read
abbrev pub left_in : Known → ℕ
left_in k = k.shape.frames - k.place

-- a file that is read, so many frames on
abbrev pub read_on : ℕ → Known → Known
read_on n k = record k { place = k.place + n }

-- where each number has a fixed size, the frame to write next is behind the last; in ADPCM it is behind those that wait
abbrev pub IsBehind : Known → Type 0
IsBehind k = is_adpcm k.shape.params.codec ≡ false → k.write_place ≡ k.shape.frames

-- a file that is made was given so many frames more
pub record IsLonger (n : ℕ) (old new : Known) : Type 0 where
  pub working : new.broken ≡ old.broken
  pub by_hand : new.automatic ≡ old.automatic
  pub shape : new.shape ≡ record old.shape { frames = new.shape.frames }
  pub place : new.write_place ≡ old.write_place + n
  pub behind : IsBehind old → IsBehind new

-- Frames may be put behind those of a file: no call of its disk has failed; it is not sealed with each write; it does not go on
-- behind its data; and the next frame comes behind all others.
pub record IsAtEnd (k : Known) : Type 0 where
  pub working : k.broken ≡ None
  pub by_hand : k.automatic ≡ false
  pub free : k.shape.trailing ≡ false
  pub behind : IsBehind k

-- its head has room for so many frames more, and the count of an ADPCM WAVE file for their number
pub record HasRoom (n : ℕ) (k : Known) : Type 0 where
  pub in_room : data_bytes k.shape.params (k.write_place + n) ≤ room k.shape
  pub few : is_adpcm k.shape.params.codec ≡ true → k.shape.kind ≡ Wave → k.write_place + n < 2 ^ 32

-- numbers of whole frames may be given to it
pub record MayGive (xs : List ℤ) (k : Known) : Type 0 where
  pub at_end : IsAtEnd k
  pub whole : length xs % k.shape.params.channels ≡ 0
  pub in_range : FitCodec k.shape.params.codec xs
  pub roomy : HasRoom (length xs / k.shape.params.channels) k

-- Bytes may: whole frames, whatever they stand for. In ADPCM bytes alone stand for no numbers, and none are given.
pub record MayPass (bytes : List ℕ) (k : Known) : Type 0 where
  pub at_end : IsAtEnd k
  pub whole : AreWhole k.shape.params (length bytes)
  pub roomy : HasRoom (length (sources_in k.shape.params.codec bytes) / k.shape.params.channels) k

-- and they were; or a call of the disk failed, and the file is broken
abbrev pub GiveLeaves : {T : Type 0} → ℕ → Known → Known → Result T Stop → Type 0
GiveLeaves n old new (Ok done) = IsLonger n old new
GiveLeaves n old new (Err stop) = is_some new.broken ≡ true

-- the frames that are left in one file may be put behind those of another
pub record MayAppend (from to : Known) : Type 0 where
  pub working : from.broken ≡ None
  pub at_end : IsAtEnd to
  pub alike : from.shape.params.channels ≡ to.shape.params.channels
  pub in_room : HasRoom (left_in from) to

-- Frames were read; or a call of the disk failed, and the file is broken; or a block is bad, which is so in ADPCM alone.
abbrev pub SomeLeave : Known → Known → Result ℕ Stop → Type 0
SomeLeave old new (Ok count) = new ≡ read_on count old
SomeLeave old new (Err Changed) = (is_adpcm old.shape.params.codec ≡ true) × (new ≡ old)
SomeLeave old new (Err stop) = is_some new.broken ≡ true

-- So many frames more were read and written; or a call of one of the disks failed, and its file is broken; or a block of the file
-- that is read is bad.
abbrev pub AppendLeaves : {T : Type 0} → ℕ → Known → Known → Known → Known → Result T Stop → Type 0
AppendLeaves n from from' to to' (Ok done) = (from' ≡ read_on n from) × IsLonger n to to'
AppendLeaves n from from' to to' (Err Changed) = (is_adpcm from.shape.params.codec ≡ true) × (from'.broken ≡ None) × (to'.broken ≡ None)
AppendLeaves n from from' to to' (Err stop) = (is_some from'.broken ≡ true) ⊎ (is_some to'.broken ≡ true)

-- The count of faults rises where the answer is a fault, and there alone. There is never no memory.
abbrev pub CountsFault : {T : Type 0} → ℕ → ℕ → Result T Stop → Type 0
CountsFault old new (Ok done) = new ≡ old
CountsFault old new (Err Fault) = (old ≤ new) × Rises old new
CountsFault old new (Err Memory) = ⊥
CountsFault old new (Err Changed) = ⊥

-- .. where a file is read, which may have changed
abbrev pub CountsRead : {T : Type 0} → ℕ → ℕ → Result T Stop → Type 0
CountsRead old new (Ok done) = new ≡ old
CountsRead old new (Err Fault) = (old ≤ new) × Rises old new
CountsRead old new (Err Memory) = ⊥
CountsRead old new (Err Changed) = new ≡ old

-- That of one of two disks rises so.
abbrev pub CountsEither : {T : Type 0} → ℕ → ℕ → ℕ → ℕ → Result T Stop → Type 0
CountsEither old new old' new' (Ok done) = (new ≡ old) × (new' ≡ old')
CountsEither old new old' new' (Err Fault) = (old ≤ new) × (old' ≤ new') × (Rises old new ⊎ Rises old' new')
CountsEither old new old' new' (Err Memory) = ⊥
CountsEither old new old' new' (Err Changed) = (new ≡ old) × (new' ≡ old')

-- The bytes that are read for frames, so many in each call: those of the frames. In ADPCM they are those of the blocks, where each
-- call may read two more, and one more call has fewer frames, and the last has none.
abbrev pub bytes_by_calls : Parameters → ℕ → ℕ → ℕ
bytes_by_calls p each count =
    if is_adpcm p.codec then (count / block_frames p.codec + 2 * (count / each + 2)) * block_align p.channels p.codec else bytes_of_frames p count

-- no more are asked of the disk for the frames that are left, read into so many places
abbrev pub AsksForLeft : {D M : Type 0} {ghosts : Ghosts D} {mode : ModeGhosts M} → (D → State) → ℕ → File D M ghosts mode → File D M ghosts mode → Type 0
AsksForLeft state places old new =
    let known = known_of old in
    let p = known.shape.params in
    AsksAtMost state (bytes_by_calls p (places / p.channels) (left_in known)) (disk_of old) (disk_of new)

-- ---- the same of two files

-- a file that is made, and one that is read into it, are left so
abbrev pub LeavesFile : {E N T : Type 0} {t : Ghosts E} {n : ModeGhosts N} → ℕ → File E N t n → File E N t n → Result T Stop → Type 0
LeavesFile count old new result = GiveLeaves count (known_of old) (known_of new) result

abbrev pub LeavesFiles : {D E M N T : Type 0} {d : Ghosts D} {m : ModeGhosts M} {t : Ghosts E} {n : ModeGhosts N} → ℕ → File D M d m → File D M d m → File E N t n → File E N t n → Result T Stop → Type 0
LeavesFiles count from from' to to' result = AppendLeaves count (known_of from) (known_of from') (known_of to) (known_of to') result

-- the faults of their disks are counted so
abbrev pub CountsFile : {E N T : Type 0} {t : Ghosts E} {n : ModeGhosts N} → (E → State) → File E N t n → File E N t n → Result T Stop → Type 0
CountsFile state old new result = CountsFault (state (disk_of old)).faults (state (disk_of new)).faults result

abbrev pub CountsReadOf : {D M T : Type 0} {d : Ghosts D} {m : ModeGhosts M} → (D → State) → File D M d m → File D M d m → Result T Stop → Type 0
CountsReadOf state old new result = CountsRead (state (disk_of old)).faults (state (disk_of new)).faults result

abbrev pub CountsFiles : {D E M N T : Type 0} {d : Ghosts D} {m : ModeGhosts M} {t : Ghosts E} {n : ModeGhosts N}
    → (D → State) → (E → State) → File D M d m → File D M d m → File E N t n → File E N t n → Result T Stop → Type 0
CountsFiles state state' from from' to to' result =
    CountsEither (state (disk_of from)).faults (state (disk_of from')).faults (state' (disk_of to)).faults (state' (disk_of to')).faults result

-- the disk of the one that is read is only read
abbrev pub OnlyReadsIn : {D M : Type 0} {m : ModeGhosts M} (d : Ghosts D) → File D M d m → File D M d m → Type 0
OnlyReadsIn d old new = OnlyReadsOn d.state d.may_leave d.left_between (disk_of old) (disk_of new)

-- how many frames are read of a file into so many places, and which
abbrev pub next_count : {D M : Type 0} {d : Ghosts D} {m : ModeGhosts M} → ℕ → File D M d m → ℕ
next_count places file = count_read places (known_of file)

abbrev pub next_frames : {D M : Type 0} {d : Ghosts D} {m : ModeGhosts M} → ℕ → File D M d m → Editing → List (List ℤ)
next_frames places file e = frames_read e (next_count places file)

-- samples of a codec pass as those of another by their bytes alone: each has bytes of its own in both
abbrev pub Pass : Codec → Codec → Type 0
Pass from to = (is_adpcm from ≡ false) × (is_adpcm to ≡ false)

-- whether two samples of a codec stand for 0, of which only one is written of it
abbrev pub has_two_zeros : Codec → Bool
has_two_zeros MuLaw = true
has_two_zeros codec = false

-- the bytes of the samples that are written of numbers
abbrev pub coded_in : Codec → List ℤ → List ℕ
coded_in codec xs = coded_as (fixed_of codec) xs

-- the bytes of so many samples
abbrev pub bytes_in : Codec → ℕ → ℕ
bytes_in codec n = n * block_align 1 codec

-- how many numbers bytes are in a file's codec
abbrev pub count_in : {D M : Type 0} {ghosts : Ghosts D} {mode : ModeGhosts M} → File D M ghosts mode → List ℕ → ℕ
count_in file bytes = length (numbers_of file bytes)

-- the bytes of as many of its frames as so many places are for
abbrev pub bytes_for : {D M : Type 0} {ghosts : Ghosts D} {mode : ModeGhosts M} → File D M ghosts mode → ℕ → ℕ
bytes_for file places = bytes_of_frames (known_of file).shape.params (places / channels_of file)

-- the frames that are read into them
abbrev pub frames_for : {D M : Type 0} {d : Ghosts D} {m : ModeGhosts M} → File D M d m → List ℕ → Editing → List (List ℤ)
frames_for file bytes e = next_frames (count_in file bytes) file e

-- bytes have so many of the frames that are next
abbrev pub GivesBytes : {D M : Type 0} {ghosts : Ghosts D} {mode : ModeGhosts M} → File D M ghosts mode → List ℕ → Editing → ℕ → Type 0
GivesBytes file bytes e count = GivesFrames (channels_of file) (numbers_of file bytes) e count

-- ---- what files hold

-- the numbers of the next n frames of a state
abbrev pub next_numbers : ℕ → Editing → List ℤ
next_numbers n e = joined (take n (drop e.place e.frames))

-- and all that are left
abbrev pub numbers_left : Editing → List ℤ
numbers_left e = joined (drop e.place e.frames)

-- the frames that are left of a state
abbrev pub frames_ahead : Editing → List (List ℤ)
frames_ahead e = drop e.place e.frames

-- A file is said to have changed only where one of some frames of the state for which it stands is bad.
abbrev pub FindsChanged : {D M T : Type 0} {ghosts : Ghosts D} {mode : ModeGhosts M} → (D → State) → (Editing → List (List ℤ)) → File D M ghosts mode → Result T Stop → Type 0
FindsChanged state wanted file result = IfChanged ((e : Editing) → Stands state file e → has_bad (wanted e) ≡ true) result

-- Where the disk tells what it holds, a file that was being made was given so many numbers more.
abbrev pub Gains : {E N : Type 0} {t : Ghosts E} {n : ModeGhosts N} → (E → State) → List ℤ → File E N t n → File E N t n → Type 0
Gains state numbers to to' =
    (kind : Kind) (p : Parameters) (pieces : List NewChunk) (xs : List ℤ) (e : Editing) → Stands state to e → IsMaking kind p pieces xs e
    → (e' : Editing) × Stands state to' e' × IsMaking kind p pieces (xs ++ numbers) e'

-- Where both disks tell what they hold, a file that was being made then holds more numbers: those that a state of the other file
-- gives, in the width of its own codec.
abbrev pub Lengthens : {D E M N : Type 0} {d : Ghosts D} {m : ModeGhosts M} {t : Ghosts E} {n : ModeGhosts N}
    → (D → State) → (E → State) → (Editing → List ℤ) → File D M d m → File E N t n → File E N t n → Type 0
Lengthens state state' numbers from to to' =
    (kind : Kind) (p : Parameters) (pieces : List NewChunk) (xs : List ℤ) (r e : Editing)
    → Stands state from r → Stands state' to e → IsMaking kind p pieces xs e
    → (e' : Editing) × Stands state' to' e' × IsMaking kind p pieces (xs ++ change_numbers (codec_of from) (codec_of to) (numbers r)) e'
