-- How the output is made of an open file by a plan of its chunks, and what is answered.
use Rattle.std.specs.Prelude.{◌≡◌, ℕ, ℤ, Bool, true, List, [], ◌∷◌, ◌++◌, None, Some, Result, Ok, Err, IfOk, OnOk, Vec, length, map}
use Rattle.std.specs.declared.alloc.Global.{Global}
use Rattle.snd_chunks.specs.Written.{NewChunk}
use Rattle.snd_disk.specs.declared.disk.Disk.{Ghosts}
use Rattle.snd_disk.specs.Device.{Tells}
use Rattle.snd_disk.specs.Shelf.{Files, ShelfState, put}
use Rattle.snd_disk.specs.Shelves.{TellsFiles}
use Rattle.snd_disk.specs.State.{State}
use Rattle.snd_layout.specs.Params.{Parameters}
use Rattle.snd_layout.specs.declared.kind.Kind.{Kind}
use Rattle.snd_layout.specs.Shape.{Shape}
use Rattle.snd_file.specs.declared.handle.File.{File}
use Rattle.snd_edits.specs.declared.mode.Mode.{Ghosts as ModeGhosts}
use Rattle.snd_edits.specs.Editing.{Editing, first_editing}
use Rattle.snd_edits.specs.Known.{Known}
use Rattle.snd_file.specs.Handle.{Stands, known_of}
use Rattle.snd_layout.specs.Kinds.{holds_meta}
use Rattle.snd_edits.specs.Making.{making_of}
use Rattle.snd_edits.specs.PieceCalls.{known_put}
use Rattle.snd_edits.specs.Relaid.{pieces_held, shape_with}
use Rattle.snd_output.specs.Made.{IsChunk, IsMaking, made_file, made_with}
use Rattle.snd_output.specs.Widths.{joined}
use Rattle.snd_output.specs.declared.stop.Stop.{Stop}
use Rattle.snd_tools.specs.Done.{Done, Said, said_by}
use Rattle.snd_tools.specs.Shelves.{HasFiles, IsDone}
use Rattle.snd_tools.specs.declared.answer.Answer.{Answer}
use Rattle.snd_words.specs.Stated.{Stated}
use Rattle.snd_words.specs.declared.metadata.MetadataChange.{MetadataChange}
use Rattle.snd_metadata.specs.declared.chunks.PlannedChunk.{PlannedChunk}
use Rattle.snd_metadata.specs.declared.halt.Halt.{Halt}
use Rattle.snd_metadata.specs.declared.halt.Halt.TheVariants as halt
use Rattle.snd_metadata.specs.Planned.{chunk_planned, outline_planned}
use Rattle.snd_metadata.specs.Judged.{HasRoom}
use Rattle.snd_metadata.specs.Retagged.{chunks_made, first_of, is_full_with, refusals, retagged_file}

-- ---- the plan

-- its chunks
abbrev pub chunks_planned : Editing → List PlannedChunk → List NewChunk
chunks_planned e plan = map (chunk_planned e.bytes) plan

-- The plan has the chunks that are to be made, and nothing is refused; or the first case that is.
abbrev pub Plans : List Stated → List ℕ → List ℕ → Editing → Result (Vec PlannedChunk Global) Halt → Type 0
Plans settings input output e (Ok plan) = (first_of (refusals settings input output e) ≡ None) × (chunks_planned e plan.items ≡ chunks_made settings e)
Plans settings input output e (Err (halt.Input why)) = first_of (refusals settings input output e) ≡ Some (Done.refuses input why)
Plans settings input output e (Err (halt.Output why)) = first_of (refusals settings input output e) ≡ Some (Done.refuses output why)
Plans settings input output e (Err (halt.Stop stop)) = Unit {0}

-- .. whatever the names
abbrev pub PlansFrom : {D M : Type 0} {d : Ghosts D} {m : ModeGhosts M} → (D → State) → List Stated → File D M d m → Result (Vec PlannedChunk Global) Halt → Type 0
PlansFrom state settings file result =
    (e : Editing) → Stands state file e → (input output : List ℕ) → Plans settings input output e result

-- the head of the output has no room for the data of an open file with these, or whether it may be made
abbrev pub TellsFull : {D M : Type 0} {d : Ghosts D} {m : ModeGhosts M} → (D → State) → List PlannedChunk → File D M d m → Bool → Type 0
TellsFull state plan file full = (e : Editing) → Stands state file e → full ≡ is_full_with e.shape (chunks_planned e plan)

abbrev pub TellsRoom : {D M T : Type 0} {d : Ghosts D} {m : ModeGhosts M} → (D → State) → List PlannedChunk → File D M d m → Result T Halt → Type 0
TellsRoom state plan file result = (e : Editing) → Stands state file e → HasRoom e.shape (chunks_planned e plan) result

-- ---- the file

-- its bytes: the kind, the parameters and the frames are those of the input
abbrev pub file_planned : Editing → List PlannedChunk → List ℕ
file_planned e plan = made_file e.shape.kind e.shape.params (chunks_planned e plan) (joined e.frames)

-- what is known, over every disk, of a file that was begun with a kind and parameters once chunks of a plan were put into it
abbrev pub known_filled : Shape → List PlannedChunk → Known → Known
known_filled h plan k = record k { shape = shape_with h.kind h.params (map outline_planned plan) }

abbrev pub IsFilled : {D E M N : Type 0} {d : Ghosts D} {t : Ghosts E} {m : ModeGhosts M} {n : ModeGhosts N}
    → List PlannedChunk → File D M d m → File E N t n → File E N t n → Type 0
IsFilled plan from old new = known_of new ≡ known_filled (known_of from).shape plan (known_of old)

-- it was begun with the kind and the parameters of another; and of one with some chunks, once it has one more
abbrev pub IsBegunLike : {D E M N : Type 0} {d : Ghosts D} {t : Ghosts E} {m : ModeGhosts M} {n : ModeGhosts N} → File D M d m → File E N t n → Type 0
IsBegunLike from to = let h = (known_of from).shape in (known_of to).shape ≡ shape_with h.kind h.params []

abbrev pub HasOneMore : {E N : Type 0} {t : Ghosts E} {n : ModeGhosts N} → PlannedChunk → File E N t n → File E N t n → Type 0
HasOneMore chunk old new = known_of new ≡ known_put (length (known_of old).shape.pieces) (outline_planned chunk) (known_of old)

-- Where both disks tell what they hold, a handle that stood for a file that was made with some chunks, and held them, stands for
-- one with one more, which such a file may have.
pub record HasPut {E N : Type 0} {t : Ghosts E} {n : ModeGhosts N} (state : E → State) (kind : Kind) (p : Parameters) (chunks : List NewChunk) (to : File E N t n) : Type 0 where
  pub stands : Stands state to (made_with kind p chunks)
  pub held : pieces_held (made_with kind p chunks) ≡ chunks

abbrev pub PutsPlanned : {D E M N : Type 0} {d : Ghosts D} {t : Ghosts E} {m : ModeGhosts M} {n : ModeGhosts N}
    → (D → State) → (E → State) → PlannedChunk → File D M d m → File E N t n → File E N t n → Type 0
PutsPlanned state state' chunk from old new =
    (r : Editing) (kind : Kind) (p : Parameters) (chunks : List NewChunk) → Stands state from r → holds_meta kind ≡ true → HasPut state' kind p chunks old
    → HasPut state' kind p (chunks ++ chunk_planned r.bytes chunk ∷ []) new × IsChunk (chunk_planned r.bytes chunk)

-- Where both disks tell what they hold, a file that was begun is then one that is being made with these chunks; or with all
-- frames of the other, too.
abbrev pub MakesWith : {D E M N : Type 0} {d : Ghosts D} {t : Ghosts E} {m : ModeGhosts M} {n : ModeGhosts N}
    → (D → State) → (E → State) → List PlannedChunk → (Editing → List ℤ) → File D M d m → File E N t n → File E N t n → Type 0
MakesWith state state' plan numbers from old new =
    let h = (known_of from).shape in
    (r e : Editing) → Stands state from r → making_of h.kind h.params ≡ Ok e → Stands state' old e
    → (e' : Editing) × Stands state' new e' × IsMaking h.kind h.params (chunks_planned r plan) (numbers r) e'

abbrev pub Carries : {D E M N : Type 0} {d : Ghosts D} {t : Ghosts E} {m : ModeGhosts M} {n : ModeGhosts N}
    → (D → State) → (E → State) → List PlannedChunk → File D M d m → File E N t n → File E N t n → Type 0
Carries state state' plan from old new = MakesWith state state' plan (λ r. []) from old new

abbrev pub Fills : {D E M N : Type 0} {d : Ghosts D} {t : Ghosts E} {m : ModeGhosts M} {n : ModeGhosts N}
    → (D → State) → (E → State) → List PlannedChunk → File D M d m → File E N t n → File E N t n → Type 0
Fills state state' plan from old new = MakesWith state state' plan (λ r. joined r.frames) from old new

-- Where both disks tell what they hold, one becomes what is made of the file on the other. Or a file of a shelf does.
abbrev pub Makes : {D M E : Type 0} {d : Ghosts D} {m : ModeGhosts M} → (D → State) → (E → State) → List PlannedChunk → File D M d m → E → E → Type 0
Makes state state' plan file old new = (b : List ℕ) (e : Editing) → Tells state' old b → Stands state file e → Tells state' new (file_planned e plan)

abbrev pub MakesUnder : {D M S T E : Type 0} {d : Ghosts D} {m : ModeGhosts M}
    → (D → State) → (S → ShelfState) → List ℕ → List PlannedChunk → File D M d m → S → S → Result T E → Type 0
MakesUnder state shelf_state name plan file old new result =
    OnOk result ((files : Files) (e : Editing) → TellsFiles shelf_state old files → Stands state file e
    → HasFiles shelf_state new (put files name (Some (file_planned e plan))))

-- the answer where nothing is made: one of the two was refused, or what stopped it
abbrev pub AnswersHalt : List ℕ → List ℕ → Halt → Result Answer Stop → Type 0
AnswersHalt input output (halt.Input why) (Ok answer) = said_by answer ≡ Said.refused input why
AnswersHalt input output (halt.Output why) (Ok answer) = said_by answer ≡ Said.refused output why
AnswersHalt input output (halt.Stop stop) (Err error) = error ≡ stop
AnswersHalt input output halt result = ⊥

-- what is answered is what is to be done with an open file, and that is done
abbrev pub Retags : {D M S E : Type 0} {d : Ghosts D} {m : ModeGhosts M}
    → (D → State) → (S → ShelfState) → MetadataChange → File D M d m → S → S → Result Answer E → Type 0
Retags state shelf_state change file old new result =
    IfOk result (λ answer. (files : Files) (e : Editing) → TellsFiles shelf_state old files → Stands state file e
    → IsDone shelf_state new answer (retagged_file change.settings change.input.now change.output.now e) files)

-- .. of the file of a disk, by its layout
abbrev pub RetagsLaid : {D S E : Type 0} → (D → State) → (S → ShelfState) → MetadataChange → D → Shape → S → S → Result Answer E → Type 0
RetagsLaid state shelf_state change disk layout old new result =
    IfOk result (λ answer. (files : Files) (b : List ℕ) → TellsFiles shelf_state old files → Tells state disk b
    → IsDone shelf_state new answer (retagged_file change.settings change.input.now change.output.now (first_editing b layout)) files)
