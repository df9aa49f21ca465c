-- How a file that is being made is given the frames of a source, piece by piece. It is said for the proofs alone.
use Rattle.std.specs.Prelude.{◌≡◌, ℕ, ◌*◌, ℤ, List, Result, drop, false, take}
use Rattle.snd_disk.specs.declared.disk.Disk.{Ghosts}
use Rattle.snd_disk.specs.Device.{AsksAtMost, GoesOnFrom, OnlyReadsOn, Tells}
use Rattle.snd_disk.specs.State.{State}
use Rattle.snd_ima_adpcm.specs.Frames.{high_half_first}
use Rattle.snd_vox.specs.Vox.{VoxState, vox_samples, vox_start, vox_state_read}
use Rattle.snd_layout.specs.declared.codec.Codec.{Codec}
use Rattle.snd_edits.specs.Bytes.{numbers_in}
use Rattle.snd_edits.specs.Known.{Known}
use Rattle.snd_edits.specs.declared.mode.Mode.{Ghosts as ModeGhosts}
use Rattle.snd_file.specs.Handle.{codec_of, disk_of, known_of, loan_of}
use Rattle.snd_file.specs.Outcomes.{AsksNothing, TellsOn}
use Rattle.snd_file.specs.declared.handle.File.{File}
use Rattle.snd_layout.specs.Blocks.{is_adpcm}
use Rattle.snd_output.specs.Appended.{Gains, HasRoom, IsAtEnd, bytes_in as samples_size}
use Rattle.snd_output.specs.Ends.{BreaksByFault, CountsOneOf, IsUnchanged}
use Rattle.snd_output.specs.Widths.{change_numbers}
use Rattle.snd_output.specs.declared.stop.Stop.{Stop}
use Rattle.snd_import.specs.Import.{bytes_in, numbers_of}
use Rattle.snd_import.specs.declared.source.Coding.{Coding}
use Rattle.snd_import.specs.declared.source.Coding.TheVariants.{Samples, Codes}
use Rattle.snd_import.specs.declared.source.Source.{Source}

-- the numbers of bytes behind others, which left a reader of codes in a state; and the state behind them
abbrev pub sound_behind : Coding → Codec → VoxState → List ℕ → List ℤ
sound_behind Samples codec state bytes = numbers_in codec bytes
sound_behind Codes codec state bytes = vox_samples state (high_half_first bytes)

abbrev pub state_behind : Coding → VoxState → List ℕ → VoxState
state_behind Samples state bytes = state
state_behind Codes state bytes = vox_state_read state (high_half_first bytes)

-- so many frames of a source may be given to a file that is made
pub record MayTake (n : ℕ) (s : Source) (to : Known) : Type 0 where
  pub at_end : IsAtEnd to
  pub room : HasRoom n to
  pub alike : s.params.channels ≡ to.shape.params.channels
  pub fixed : is_adpcm to.shape.params.codec ≡ false

-- so many bytes of a source are so many numbers
abbrev pub AreNumbersOf : Coding → Codec → ℕ → ℕ → Type 0
AreNumbersOf Samples codec numbers bytes = bytes ≡ samples_size codec numbers
AreNumbersOf Codes codec numbers bytes = numbers ≡ 2 * bytes

abbrev pub IsPiece : Source → ℕ → ℕ → Type 0
IsPiece s numbers bytes = AreNumbersOf s.coding s.params.codec numbers bytes

-- What a call leaves that reads a disk and puts something into a file that is made: the file is open still, and by its loan, and
-- is broken by a fault alone; the disk was only read, of which no more was asked than so many bytes; and time has gone on for that of
-- the file, which tells what it told.
pub record Carries {D E N T : Type 0} {n : ModeGhosts N} (d : Ghosts D) (t : Ghosts E) (bytes : ℕ) (from from' : D) (to to' : File E N t n) (result : Result T Stop) : Type 0 where
  pub loan : loan_of to' ≡ loan_of to
  pub works : BreaksByFault (known_of to') result
  pub faults : CountsOneOf (d.state from).faults (d.state from').faults (t.state (disk_of to)).faults (t.state (disk_of to')).faults result
  pub unchanged : IsUnchanged result
  pub reads : OnlyReadsOn d.state d.may_leave d.left_between from from'
  pub tells : TellsOn t.state to to'
  pub time : GoesOnFrom t.state t.left_between (disk_of to) (disk_of to')
  pub asked : AsksAtMost d.state bytes from from'
  pub unasked : AsksNothing t.state to to'

-- Where the disk tells what it holds, a piece of it was put there, and the reader of codes is behind it.
abbrev pub Passes : {D E N : Type 0} {t : Ghosts E} {n : ModeGhosts N} → (D → State) → (E → State) → Source → ℕ → ℕ → D → VoxState → VoxState → File E N t n → File E N t n → Type 0
Passes state state' s at count disk reader reader' to to' =
    (b : List ℕ) → Tells state disk b →
    let piece = take count (drop at b) in
    (reader' ≡ state_behind s.coding reader piece) × Gains state' (change_numbers s.params.codec (codec_of to) (sound_behind s.coding s.params.codec reader piece)) to to'

-- .. or so many of the frames of a file of these bytes were
abbrev pub HasGiven : {E N : Type 0} {t : Ghosts E} {n : ModeGhosts N} → (E → State) → Source → List ℕ → ℕ → VoxState → File E N t n → File E N t n → Type 0
HasGiven state s b given reader to to' =
    let front = take (bytes_in s.coding s.params given) (drop s.start b) in
    (reader ≡ state_behind s.coding vox_start front) × Gains state (change_numbers s.params.codec (codec_of to) (sound_behind s.coding s.params.codec vox_start front)) to to'

-- Where the disk tells what it holds, a file that was being made holds more numbers.
abbrev pub GainsAll : {D E N : Type 0} {t : Ghosts E} {n : ModeGhosts N} → (D → State) → (E → State) → Source → D → File E N t n → File E N t n → Type 0
GainsAll state state' s disk to to' = (b : List ℕ) → Tells state disk b → Gains state' (change_numbers s.params.codec (codec_of to) (numbers_of s b)) to to'
