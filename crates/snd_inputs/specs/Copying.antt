-- What holds of two things of which one call reads the one and changes the other: files that are open, disks and shelves.
use Rattle.std.specs.Prelude.{◌≡◌, ℕ, ◌+◌, ◌/◌, Result, if◌then◌else◌}
use Rattle.snd_disk.specs.declared.disk.Disk.{Ghosts}
use Rattle.snd_disk.specs.Device.{AsksAtMost, GoesOnFrom, OnlyReadsOn}
use Rattle.snd_disk.specs.Shelf.{ShelfState}
use Rattle.snd_disk.specs.State.{State}
use Rattle.snd_layout.specs.Blocks.{is_adpcm}
use Rattle.snd_layout.specs.Params.{Parameters, data_bytes}
use Rattle.snd_layout.specs.Shape.{Shape}
use Rattle.snd_file.specs.declared.handle.File.{File}
use Rattle.snd_edits.specs.declared.mode.Mode.{Ghosts as ModeGhosts}
use Rattle.snd_file.specs.Handle.{disk_of, known_of, loan_of}
use Rattle.snd_file.specs.Outcomes.{TellsOn}
use Rattle.snd_output.specs.declared.stop.Stop.{Stop}
use Rattle.snd_output.specs.Appended.{bytes_by_calls}
use Rattle.snd_output.specs.Ends.{BreaksByFault, CountsOneOf, CountsStop}

-- the disk of an open file was only read
abbrev pub OnlyReadsFile : {D M : Type 0} {mode : ModeGhosts M} (d : Ghosts D) → File D M d mode → File D M d mode → Type 0
OnlyReadsFile d old new = OnlyReadsOn d.state d.may_leave d.left_between (disk_of old) (disk_of new)

-- the count of faults of an open file
abbrev pub faults_of_file : {D M : Type 0} {d : Ghosts D} {m : ModeGhosts M} → (D → State) → File D M d m → ℕ
faults_of_file state file = (state (disk_of file)).faults

-- .. rises where the answer is a fault, and there alone
abbrev pub CountsFile : {D M T : Type 0} {d : Ghosts D} {m : ModeGhosts M} → (D → State) → File D M d m → File D M d m → Result T Stop → Type 0
CountsFile state old new result = CountsStop (faults_of_file state old) (faults_of_file state new) result

-- .. or of two such counts one does
abbrev pub CountsFiles : {D E M N T : Type 0} {d : Ghosts D} {t : Ghosts E} {m : ModeGhosts M} {n : ModeGhosts N}
    → (D → State) → (E → State) → File D M d m → File D M d m → File E N t n → File E N t n → Result T Stop → Type 0
CountsFiles state state' from from' to to' result =
    CountsOneOf (faults_of_file state from) (faults_of_file state from') (faults_of_file state' to) (faults_of_file state' to') result

abbrev pub CountsFileAndDisk : {D E M T : Type 0} {d : Ghosts D} {m : ModeGhosts M} → (D → State) → (E → State) → File D M d m → File D M d m → E → E → Result T Stop → Type 0
CountsFileAndDisk state state' file file' disk disk' result =
    CountsOneOf (faults_of_file state file) (faults_of_file state file') (state' disk).faults (state' disk').faults result

abbrev pub CountsFileAndShelf : {D M S T : Type 0} {d : Ghosts D} {m : ModeGhosts M}
    → (D → State) → (S → ShelfState) → File D M d m → File D M d m → S → S → Result T Stop → Type 0
CountsFileAndShelf state shelf_state file file' shelf shelf' result =
    CountsOneOf (faults_of_file state file) (faults_of_file state file') (shelf_state shelf).faults (shelf_state shelf').faults result

abbrev pub CountsDiskAndShelf : {E S T : Type 0} → (E → State) → (S → ShelfState) → E → E → S → S → Result T Stop → Type 0
CountsDiskAndShelf state shelf_state disk disk' shelf shelf' result =
    CountsOneOf (state disk).faults (state disk').faults (shelf_state shelf).faults (shelf_state shelf').faults result

-- What a call leaves that reads one file and puts something into another: both are open still, and by their loans; what puts it
-- there has broken no file but by a fault; the one was only read, and time has gone on for the other, which tells what it told.
pub record CopiesInto {D E M N T : Type 0} {m : ModeGhosts M} {n : ModeGhosts N} (d : Ghosts D) (t : Ghosts E) (from from' : File D M d m) (to to' : File E N t n) (result : Result T Stop) : Type 0 where
  pub loan : loan_of from' ≡ loan_of from
  pub to_loan : loan_of to' ≡ loan_of to
  pub works : BreaksByFault (known_of to') result
  pub faults : CountsFiles d.state t.state from from' to to' result
  pub reads : OnlyReadsFile d from from'
  pub tells : TellsOn t.state to to'
  pub time : GoesOnFrom t.state t.left_between (disk_of to) (disk_of to')

-- so many bytes are asked of a file to copy its frames, 16384 numbers in each call
abbrev pub bytes_to_copy : Parameters → ℕ → ℕ
bytes_to_copy p frames = bytes_by_calls p (16384 / p.channels) frames

-- no more are, beside so many of chunks
abbrev pub AsksToCopy : {D M : Type 0} {d : Ghosts D} {m : ModeGhosts M} → (D → State) → ℕ → File D M d m → File D M d m → Type 0
AsksToCopy state chunks old new =
    let known = known_of old in
    AsksAtMost state (chunks + bytes_to_copy known.shape.params known.shape.frames) (disk_of old) (disk_of new)

-- its blocks are read to see whether one is bad, if it has some
abbrev pub bytes_checked : Shape → ℕ
bytes_checked h = if is_adpcm h.params.codec then data_bytes h.params h.frames else 0

abbrev pub AsksToCheck : {D M : Type 0} {d : Ghosts D} {m : ModeGhosts M} → (D → State) → File D M d m → File D M d m → Type 0
AsksToCheck state old new = AsksAtMost state (bytes_checked (known_of old).shape) (disk_of old) (disk_of new)
