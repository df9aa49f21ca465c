-- How the frames of files are put behind those of one that is being made. It is said for the proofs alone.
use Rattle.std.specs.Prelude.{◌≡◌, ℕ, ◌+◌, List, All, None, Result, Ok, Err, IfOk, IsOk, false, true}
use Rattle.snd_disk.specs.declared.disk.Disk.{Ghosts}
use Rattle.snd_disk.specs.Device.{Tells}
use Rattle.snd_disk.specs.Shelf.{Files, ShelfState}
use Rattle.snd_disk.specs.Shelves.{TellsFiles}
use Rattle.snd_disk.specs.State.{State}
use Rattle.snd_inputs.specs.Inputs.{input_in, inputs_in, is_bad}
use Rattle.snd_inputs.specs.Rooms.{exceeds}
use Rattle.snd_layout.specs.Shape.{Shape, room}
use Rattle.snd_lines.specs.declared.refusal.Refusal.{Refusal}
use Rattle.snd_file.specs.declared.handle.File.{File}
use Rattle.snd_edits.specs.declared.mode.Mode.{Ghosts as ModeGhosts}
use Rattle.snd_edits.specs.Editing.{Editing, first_editing}
use Rattle.snd_edits.specs.Known.{Known}
use Rattle.snd_file.specs.Handle.{Stands, codec_of, known_of}
use Rattle.snd_output.specs.declared.stop.Stop.{Stop}
use Rattle.snd_output.specs.declared.stop.Stop.TheVariants.{Changed, Fault, Memory}
use Rattle.snd_output.specs.Appended.{Gains, IsAtEnd}
use Rattle.snd_output.specs.Ends.{IfChanged}
use Rattle.snd_tools.specs.Done.{Said, said_by}
use Rattle.snd_tools.specs.declared.answer.Answer.{Answer}
use Rattle.snd_concat.specs.Concat.{all_frames, all_numbers, is_alike, numbers_for, shapes_of}

-- a file that is made has room for so many frames more
abbrev pub HasRoomFor : ℕ → Known → Type 0
HasRoomFor n to = exceeds to.shape.kind to.shape.params (room to.shape) (to.write_place + n) ≡ false

-- the frames of a file with this layout may stand behind those that it was given
pub record Follows (h : Shape) (to : Known) : Type 0 where
  pub alike : is_alike to.shape.params h.params ≡ true
  pub in_room : HasRoomFor h.frames to

-- those of several, all together
pub record AllFollow (hs : List Shape) (to : Known) : Type 0 where
  pub alike : All (λ h. is_alike to.shape.params h.params ≡ true) hs
  pub in_room : HasRoomFor (all_frames hs) to

-- A file that is being made is still so, but where a call has failed. All that its layout says stays, but for the frames.
abbrev pub StillMade : Known → Known → Type 0
StillMade old new = IsAtEnd new × (new.shape ≡ record old.shape { frames = new.shape.frames })

abbrev pub MadeUnlessFault : {T : Type 0} → Known → Known → Result T Stop → Type 0
MadeUnlessFault old new (Ok done) = StillMade old new
MadeUnlessFault old new (Err Memory) = StillMade old new
MadeUnlessFault old new (Err Changed) = new.broken ≡ None
MadeUnlessFault old new (Err Fault) = Unit {0}

-- a file on a disk, or one under a name, is said to have changed only where it has a bad block
abbrev pub LaidChanged : {D T : Type 0} → (D → State) → D → Shape → Result T Stop → Type 0
LaidChanged state disk layout result = IfChanged ((b : List ℕ) → Tells state disk b → is_bad (first_editing b layout) ≡ true) result

abbrev pub InputChanged : {S T : Type 0} → (S → ShelfState) → List ℕ → S → Result T Stop → Type 0
InputChanged state name shelf result =
    IfChanged ((files : Files) (e : Editing) → TellsFiles state shelf files → input_in (files name) ≡ Ok e → is_bad e ≡ true) result

-- The frames of an open file, or of one under a name, were put there. Where the disk, or the shelf, tells what it holds, and the
-- frames may follow, nothing is refused.
abbrev pub AppendsFile : {D M E N T R : Type 0} {d : Ghosts D} {m : ModeGhosts M} {t : Ghosts E} {n : ModeGhosts N}
    → (D → State) → (E → State) → File D M d m → File E N t n → File E N t n → Result (Result T Refusal) R → Type 0
AppendsFile state state' from to to' result =
    IfOk result (λ done. (e : Editing) → Stands state from e → e.place ≡ 0 → Follows e.shape (known_of to)
    → IsOk done × ((known_of to').write_place ≡ (known_of to).write_place + e.shape.frames) × Gains state' (numbers_for (codec_of to) e) to to')

-- .. of the file on a disk, by its layout
abbrev pub AppendsLaid : {D E N T R : Type 0} {t : Ghosts E} {n : ModeGhosts N} → (D → State) → (E → State) → D → Shape → File E N t n → File E N t n → Result (Result T Refusal) R → Type 0
AppendsLaid state state' disk layout to to' result =
    IfOk result (λ done. (b : List ℕ) → Tells state disk b → Follows layout (known_of to)
    → IsOk done × ((known_of to').write_place ≡ (known_of to).write_place + layout.frames) × Gains state' (numbers_for (codec_of to) (first_editing b layout)) to to')

abbrev pub AppendsInput : {S E N T R : Type 0} {t : Ghosts E} {n : ModeGhosts N} → (S → ShelfState) → (E → State) → List ℕ → S → File E N t n → File E N t n → Result (Result T Refusal) R → Type 0
AppendsInput state state' name shelf to to' result =
    IfOk result (λ done. (files : Files) (e : Editing) → TellsFiles state shelf files → input_in (files name) ≡ Ok e → Follows e.shape (known_of to)
    → IsOk done × ((known_of to').write_place ≡ (known_of to).write_place + e.shape.frames) × Gains state' (numbers_for (codec_of to) e) to to')

-- those of the files of all names
abbrev pub AppendsAll : {S E N R : Type 0} {t : Ghosts E} {n : ModeGhosts N} → (S → ShelfState) → (E → State) → List (List ℕ) → S → File E N t n → File E N t n → Result Answer R → Type 0
AppendsAll state state' names shelf to to' result =
    IfOk result (λ answer. (files : Files) (es : List Editing) → TellsFiles state shelf files → inputs_in files names ≡ Ok es → AllFollow (shapes_of es) (known_of to)
    → (said_by answer ≡ Said.made ((known_of to).write_place + all_frames (shapes_of es))) × Gains state' (all_numbers (codec_of to) es) to to')
