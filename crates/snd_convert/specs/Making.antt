-- A file that is made of an open one, as the code does it: what is asked of the two, and what comes of it.
use Rattle.std.specs.Prelude.{◌≡◌, ℕ, ℤ, ◌+◌, Bool, List, [], Some, Result, Ok, IfOk, OnOk, false, map, if◌then◌else◌}
use Rattle.snd_carry.specs.Carried.{body_bytes, carried_pieces}
use Rattle.snd_inputs.specs.Rooms.{exceeds}
use Rattle.snd_inputs.specs.Copying.{AsksToCopy, bytes_checked, bytes_to_copy}
use Rattle.snd_chunks.specs.Written.{NewChunk}
use Rattle.snd_disk.specs.declared.disk.Disk.{Ghosts}
use Rattle.snd_disk.specs.Device.{AsksAtMost, Tells}
use Rattle.snd_disk.specs.Shelf.{Files, ShelfState, put}
use Rattle.snd_disk.specs.Shelves.{TellsFiles}
use Rattle.snd_disk.specs.State.{State}
use Rattle.snd_layout.specs.Shape.{Shape, room}
use Rattle.snd_layout.specs.declared.kind.Kind.{Kind}
use Rattle.snd_file.specs.declared.handle.File.{File}
use Rattle.snd_edits.specs.declared.mode.Mode.{Ghosts as ModeGhosts}
use Rattle.snd_edits.specs.Editing.{Editing, first_editing}
use Rattle.snd_edits.specs.Known.{Known}
use Rattle.snd_file.specs.Handle.{Stands, disk_of, known_of}
use Rattle.snd_layout.specs.Kinds.{holds_meta}
use Rattle.snd_edits.specs.Making.{making_of}
use Rattle.snd_edits.specs.Relaid.{shape_with}
use Rattle.snd_chunks.specs.Heads.{outline}
use Rattle.snd_output.specs.Ends.{IfChanged}
use Rattle.snd_output.specs.Made.{IsMaking}
use Rattle.snd_output.specs.declared.stop.Stop.{Stop}
use Rattle.snd_tools.specs.Shelves.{HasFiles, IsDone}
use Rattle.snd_tools.specs.declared.answer.Answer.{Answer}
use Rattle.snd_container.specs.Room.{Take}
use Rattle.snd_rack.specs.Rack.{bad_place, channels_after}
use Rattle.snd_rack.specs.Stage.{Stated, kind_of}
use Rattle.snd_rack.specs.declared.setting.StageKind.{StageKind}
use Rattle.snd_words.specs.declared.convert.Conversion.{Conversion}
use Rattle.snd_convert.specs.Convert.{behind_rack, carries, chunks_for, done_behind, file_made, is_full, made_if_good, made_of, numbers_for}
use Rattle.snd_convert.specs.Plan.{Planned}
use Rattle.snd_convert.specs.Planning.{asked_of, planned_by}
use Rattle.snd_convert.specs.declared.plan.Plan.{Plan}

-- Frames with so many channels may pass a rack behind which they have others: there are boxes of the kinds of its items, in their
-- order, and none of these picks a sample that a frame does not have.
pub record FitsRack (items : List Stated) (boxes : List StageKind) (from to : ℕ) : Type 0 where
  pub boxes_are : boxes ≡ map kind_of items
  pub places : bad_place items from ≡ false
  pub channels : to ≡ channels_after items from

-- the chunks that go with the frames, by their outlines; and whether the head with these has no room for the frames
abbrev pub outlines_for : Planned → Shape → List NewChunk
outlines_for plan h = if carries plan.kind h.kind then map outline (carried_pieces h.pieces) else []

abbrev pub is_full_by : Planned → Shape → Bool
is_full_by plan h = exceeds plan.kind plan.params (room (shape_with plan.kind plan.params (outlines_for plan h))) h.frames

-- so many bytes are those of these outlines in a head, or, where the disk tells what it holds, of the chunks
abbrev pub OutlinesTake : Plan → Shape → ℕ → Type 0
OutlinesTake plan h bytes = Take plan.kind bytes (outlines_for (planned_by plan) h)

abbrev pub ChunksTake : {D M : Type 0} {d : Ghosts D} {m : ModeGhosts M} → (D → State) → Plan → File D M d m → ℕ → Type 0
ChunksTake state plan file bytes = (e : Editing) → Stands state file e → Take plan.kind bytes (chunks_for (planned_by plan) e)

-- .. and so it is said whether the head with these has no room for the data
abbrev pub TellsFull : {D M : Type 0} {d : Ghosts D} {m : ModeGhosts M} → (D → State) → Plan → File D M d m → Bool → Type 0
TellsFull state plan file full = (e : Editing) → Stands state file e → full ≡ is_full (planned_by plan) e

-- what is known, over every disk, of a file that was begun once the chunks of a layout were put into it
abbrev pub known_filled : Planned → Shape → Known → Known
known_filled plan h k = record k { shape = shape_with plan.kind plan.params (outlines_for plan h) }

abbrev pub IsFilled : {D E M N : Type 0} {d : Ghosts D} {t : Ghosts E} {m : ModeGhosts M} {n : ModeGhosts N} → Plan → File D M d m → File E N t n → File E N t n → Type 0
IsFilled plan from old new = known_of new ≡ known_filled (planned_by plan) (known_of from).shape (known_of old)

-- Where both disks tell what they hold, a file that was begun is then one that is being made with the chunks that go with the
-- frames of the other; or with these frames, too.
abbrev pub MakesWith : {D E M N : Type 0} {d : Ghosts D} {t : Ghosts E} {m : ModeGhosts M} {n : ModeGhosts N}
    → (D → State) → (E → State) → Planned → (Editing → List ℤ) → File D M d m → File E N t n → File E N t n → Type 0
MakesWith state state' plan numbers from old new =
    (r e : Editing) → Stands state from r → making_of plan.kind plan.params ≡ Ok e → Stands state' old e
    → (e' : Editing) × Stands state' new e' × IsMaking plan.kind plan.params (chunks_for plan r) (numbers r) e'

abbrev pub TakesChunks : {D E M N : Type 0} {d : Ghosts D} {t : Ghosts E} {m : ModeGhosts M} {n : ModeGhosts N}
    → (D → State) → (E → State) → Plan → File D M d m → File E N t n → File E N t n → Type 0
TakesChunks state state' plan from old new = MakesWith state state' (planned_by plan) (λ r. []) from old new

abbrev pub Fills : {D E M N : Type 0} {d : Ghosts D} {t : Ghosts E} {m : ModeGhosts M} {n : ModeGhosts N}
    → (D → State) → (E → State) → List Stated → Plan → File D M d m → File E N t n → File E N t n → Type 0
Fills state state' items plan from old new = MakesWith state state' (planned_by plan) (numbers_for items (planned_by plan)) from old new

-- Where both disks tell what they hold, one becomes what is made of the file on the other. Or a file of a shelf does.
abbrev pub Makes : {D M E : Type 0} {d : Ghosts D} {m : ModeGhosts M} → (D → State) → (E → State) → List Stated → Plan → File D M d m → E → E → Type 0
Makes state state' items plan file old new =
    (b : List ℕ) (e : Editing) → Tells state' old b → Stands state file e → Tells state' new (file_made items (planned_by plan) e)

abbrev pub MakesUnder : {D M S T E : Type 0} {d : Ghosts D} {m : ModeGhosts M}
    → (D → State) → (S → ShelfState) → Conversion → Plan → File D M d m → S → S → Result T E → Type 0
MakesUnder state shelf_state conversion plan file old new result =
    let c = asked_of conversion in
    OnOk result ((files : Files) (e : Editing) → TellsFiles shelf_state old files → Stands state file e
    → HasFiles shelf_state new (put files c.output (Some (file_made c.rack (planned_by plan) e))))

-- What is answered is what is to be done with an open file by a plan, where the head has room for its data; and that is done.
abbrev pub DoesGood : {D M S E : Type 0} {d : Ghosts D} {m : ModeGhosts M}
    → (D → State) → (S → ShelfState) → Conversion → Plan → File D M d m → S → S → Result Answer E → Type 0
DoesGood state shelf_state conversion plan file old new result =
    IfOk result (λ answer. (files : Files) (e : Editing) → TellsFiles shelf_state old files → Stands state file e
    → IsDone shelf_state new answer (made_if_good (asked_of conversion) (planned_by plan) e) files)

-- .. whether it has or not; or what is to be done in a file of a kind
abbrev pub DoesBy : {D M S E : Type 0} {d : Ghosts D} {m : ModeGhosts M}
    → (D → State) → (S → ShelfState) → Conversion → Plan → File D M d m → S → S → Result Answer E → Type 0
DoesBy state shelf_state conversion plan file old new result =
    IfOk result (λ answer. (files : Files) (e : Editing) → TellsFiles shelf_state old files → Stands state file e
    → IsDone shelf_state new answer (made_of (asked_of conversion) (planned_by plan) e) files)

abbrev pub Converts : {D M S E : Type 0} {d : Ghosts D} {m : ModeGhosts M}
    → (D → State) → (S → ShelfState) → List StageKind → Conversion → Kind → File D M d m → S → S → Result Answer E → Type 0
Converts state shelf_state kinds conversion kind file old new result =
    let c = asked_of conversion in
    IfOk result (λ answer. (files : Files) (e : Editing) → TellsFiles shelf_state old files → Stands state file e
    → IsDone shelf_state new answer (done_behind c kind e (behind_rack kinds c.rack e.shape.params.channels)) files)

-- .. in that of a disk, by its layout
abbrev pub ConvertsLaid : {D S E : Type 0} → (D → State) → (S → ShelfState) → List StageKind → Conversion → Kind → D → Shape → S → S → Result Answer E → Type 0
ConvertsLaid state shelf_state kinds conversion kind disk layout old new result =
    let c = asked_of conversion in
    IfOk result (λ answer. (files : Files) (b : List ℕ) → TellsFiles shelf_state old files → Tells state disk b
    → IsDone shelf_state new answer (done_behind c kind (first_editing b layout) (behind_rack kinds c.rack layout.params.channels)) files)

-- the bodies of the chunks that may go with the frames of a file: none of a kind that has no such chunks
abbrev pub bodies_in : Shape → ℕ
bodies_in h = if holds_meta h.kind then body_bytes (carried_pieces h.pieces) else 0

abbrev pub AsksToCarry : {D M : Type 0} {d : Ghosts D} {m : ModeGhosts M} → (D → State) → File D M d m → File D M d m → Type 0
AsksToCarry state old new = AsksAtMost state (bodies_in (known_of old).shape) (disk_of old) (disk_of new)

-- so many bytes are asked at most of a file that is copied, with its chunks
abbrev pub AsksToFill : {D M : Type 0} {d : Ghosts D} {m : ModeGhosts M} → (D → State) → File D M d m → File D M d m → Type 0
AsksToFill state old new = AsksToCopy state (bodies_in (known_of old).shape) old new

-- .. and so many beside its blocks are checked; or of the disk of one, by its layout
abbrev pub AsksToConvertLaid : {D : Type 0} → (D → State) → Shape → D → D → Type 0
AsksToConvertLaid state layout old new =
    AsksAtMost state (bytes_checked layout + (bodies_in layout + bytes_to_copy layout.params layout.frames)) old new

abbrev pub AsksToConvert : {D M : Type 0} {d : Ghosts D} {m : ModeGhosts M} → (D → State) → File D M d m → File D M d m → Type 0
AsksToConvert state old new = AsksToConvertLaid state (known_of old).shape (disk_of old) (disk_of new)

-- the file is not said to have changed where its disk tells what it holds
abbrev pub StaysTold : {D M T : Type 0} {d : Ghosts D} {m : ModeGhosts M} → (D → State) → File D M d m → Result T Stop → Type 0
StaysTold state file result = IfChanged ((e : Editing) → Stands state file e → ⊥) result

abbrev pub StaysToldOn : {D T : Type 0} → (D → State) → D → Result T Stop → Type 0
StaysToldOn state disk result = IfChanged ((b : List ℕ) → Tells state disk b → ⊥) result
