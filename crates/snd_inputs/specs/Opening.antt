-- A file that is taken out to be read, or to be made. The first arguments are the whole meanings of a shelf and of its disks.
use Rattle.std.specs.Prelude.{◌≡◌, ℕ, ◌≤◌, Bool, true, false, List, None, Some, Result, Ok, Err, length}
use Rattle.snd_disk.specs.declared.disk.Disk.{Ghosts}
use Rattle.snd_disk.specs.declared.shelf.Shelf.{Ghosts as ShelfMeaning}
use Rattle.snd_disk.specs.Device.{OnlyReadsOn, Tells}
use Rattle.snd_disk.specs.Shelf.{Files, KeepsBytes, Takes}
use Rattle.snd_disk.specs.Shelves.{HandsOut, KeepsOthers, TellsFiles}
use Rattle.snd_disk.specs.State.{State}
use Rattle.snd_lines.specs.declared.refusal.Refusal.{Refusal}
use Rattle.snd_edits.specs.Editing.{Editing, first_editing, opening_of}
use Rattle.snd_edits.specs.Known.{Known}
use Rattle.snd_output.specs.declared.stop.Stop.{Stop}
use Rattle.snd_inputs.specs.Inputs.{input_in}
use Rattle.snd_inputs.specs.Looking.{AsksToLook, ReadsFiles}
use Rattle.snd_inputs.specs.declared.input.Input.{Input}

-- the disk of a name was handed out, so it may be given back, and nothing else has changed
pub record IsHandedOut {S D : Type 0} (s : ShelfMeaning S D) (d : Ghosts D) (name : List ℕ) (make : Bool) (old new : S) (disk : D) : Type 0 where
  pub takes : Takes (s.state old) (s.state new) name make (d.state disk)
  pub taken : (s.state new).out name ≡ true
  pub images : HandsOut s.state s.may_leave s.left_between d.state d.may_leave d.left_between name old disk
  pub others : KeepsOthers s.state s.may_leave s.left_between name old new
  pub bytes : KeepsBytes (s.state old) (s.state new)

-- an input whose disk tells what it holds is a file that was opened
pub record Holds {D : Type 0} {ghosts : Ghosts D} (state : D → State) (input : Input D ghosts) (e : Editing) : Type 0 where
  pub bytes : Tells state input.disk e.bytes
  pub opened : e ≡ first_editing e.bytes input.layout
  pub count : e.shape.frames ≡ length e.frames

-- The file of a name is open: its disk was handed out and has only been read since. Where the shelf told its files, the input
-- holds what this one is opened as.
pub record IsOpen {S D : Type 0} (s : ShelfMeaning S D) (d : Ghosts D) (name : List ℕ) (old new : S) (input : Input D d) : Type 0 where
  pub handed : D
  pub out : IsHandedOut s d name false old new handed
  pub reads : OnlyReadsOn d.state d.may_leave d.left_between handed input.disk
  pub named : (d.state input.disk).name ≡ Some name
  pub calm : (d.state input.disk).faults ≡ 0
  pub asked : (d.state input.disk).asked ≤ 16384
  pub opened : (files : Files) → TellsFiles s.state old files
      → (b : List ℕ) × (files name ≡ Some b) × (opening_of b ≡ Ok (first_editing b input.layout)) × Holds d.state input (first_editing b input.layout)

-- an open file may be read from its first frame on
pub record IsUnread (k : Known) : Type 0 where
  pub working : k.broken ≡ None
  pub first : k.place ≡ 0

-- the file of a name was looked at, where it is there, and is back
pub record OnlyLooks {S D : Type 0} (s : ShelfMeaning S D) (old new : S) : Type 0 where
  pub reads : ReadsFiles s old new
  pub asked : AsksToLook 1 (s.state old) (s.state new)

-- it is open, or is refused as the files say, or something has stopped that
abbrev pub OpensInput : {S D : Type 0} (s : ShelfMeaning S D) (d : Ghosts D) → List ℕ → S → S → Result (Result (Input D d) Refusal) Stop → Type 0
OpensInput s d name old new (Ok (Ok input)) = IsOpen s d name old new input
OpensInput s d name old new (Ok (Err why)) = OnlyLooks s old new × ((files : Files) → TellsFiles s.state old files → input_in (files name) ≡ Err why)
OpensInput s d name old new (Err stop) = OnlyLooks s old new
