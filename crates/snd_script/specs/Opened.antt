-- A file on a disk that is opened, in whichever mode.
use Rattle.std.specs.Prelude.{◌≡◌, ◌≤◌, ℕ, List, Bool, true, false, Result, Ok, Err}
use Rattle.std.specs.Borrow.{GName, MutBor}
use Rattle.snd_disk.specs.Device.{IsStable, OnlyReadsOn, Tells}
use Rattle.snd_disk.specs.State.{Rises, State}
use Rattle.snd_disk.specs.declared.disk.Disk.{Ghosts}
use Rattle.snd_layout.specs.Params.{Parameters}
use Rattle.snd_layout.specs.declared.kind.Kind.{Kind}
use Rattle.snd_layout.specs.declared.params.Params.{Params}
use Rattle.snd_layout.specs.declared.refusal.OpenRefusal.{OpenRefusal}
use Rattle.snd_layout.specs.declared.error.OpenError.{OpenError}
use Rattle.snd_layout.specs.declared.error.OpenError.TheVariants.{DiskFault, Memory}
use Rattle.snd_edits.specs.Editing.{Editing}
use Rattle.snd_edits.specs.Making.{making_of}
use Rattle.snd_rules.specs.Desk.{Store, closed_desk}
use Rattle.snd_rules.specs.Edit.{Edited, Opening, make_edit, open_edit, open_edit_of, opened_as, refused}
use Rattle.snd_edits.specs.Safe.{IsFit}
use Rattle.snd_edits.specs.Updating.{updating_of}
use Rattle.snd_session.specs.Handled.{HandleAtRest, HandleStands, handle_disk, handle_loan}
use Rattle.snd_rules.specs.SmallBlocks.{HasSmallBlocks}
use Rattle.snd_session.specs.declared.handle.Handle.{Handle}
use Rattle.snd_script.specs.declared.open.OpenAs.{OpenAs}
use Rattle.snd_script.specs.declared.open.OpenAs.TheVariants.{Read, Update, Make}
use Rattle.snd_lines.specs.declared.refusal.Refusal.TheVariants.{Open}

abbrev pub opening_by : OpenAs → Opening
opening_by Read = Opening.for_reading
opening_by Update = Opening.for_updating
opening_by (Make kind params) = Opening.for_making kind params

abbrev pub is_making : OpenAs → Bool
is_making (Make kind params) = true
is_making how = false

-- what is to be made can be, with small blocks
abbrev pub IsMakeable : OpenAs → Type 0
IsMakeable (Make kind params) = (e : Editing) × (making_of kind params ≡ Ok e) × HasSmallBlocks params.channels params.codec
IsMakeable how = Unit {0}

-- a head that is made has at most 2048 bytes
abbrev pub most_made : OpenAs → ℕ
most_made (Make kind params) = 2048
most_made how = 0

abbrev pub disk_of_open : {D E : Type 0} {ghosts : Ghosts D} → Result (Handle D ghosts) (E × MutBor D) → D
disk_of_open (Ok handle) = handle_disk handle
disk_of_open (Err error) = error.1.now

abbrev pub loan_of_open : {D E : Type 0} {ghosts : Ghosts D} → Result (Handle D ghosts) (E × MutBor D) → GName
loan_of_open (Ok handle) = handle_loan handle
loan_of_open (Err error) = error.1.ghost_name

-- What is answered is what the contents give, where the disk tells them: a handle that stands for the editing state, or the
-- refusal. A fault and want of memory do not come of contents.
abbrev pub RefusesOpen : {D : Type 0} → (D → State) → Opening → D → OpenError → Type 0
RefusesOpen state opening disk (DiskFault step) = Unit {0}
RefusesOpen state opening disk Memory = Unit {0}
RefusesOpen state opening disk why = (b : List ℕ) → Tells state disk b → opened_as opening b ≡ Err why

abbrev pub OpensHandle : {D : Type 0} {ghosts : Ghosts D} → (D → State) → Opening → D → Result (Handle D ghosts) OpenError → Type 0
OpensHandle state opening disk (Ok handle) = (b : List ℕ) → Tells state disk b → (e : Editing) × (opened_as opening b ≡ Ok e) × HandleStands state handle e
OpensHandle state opening disk (Err why) = RefusesOpen state opening disk why

-- the count of faults rises where the answer is a fault of the disk, and there alone
abbrev pub CountsOpen : {D T : Type 0} → (D → State) → D → D → Result T OpenError → Type 0
CountsOpen state old new (Err (DiskFault step)) = ((state old).faults ≤ (state new).faults) × Rises (state old).faults (state new).faults
CountsOpen state old new result = (state new).faults ≡ (state old).faults

-- a file that is not made is only read
abbrev pub OnlyOpens : {D : Type 0} (d : Ghosts D) → OpenAs → D → D → Type 0
OnlyOpens d (Make kind params) old new = Unit {0}
OnlyOpens d how old new = OnlyReadsOn d.state d.may_leave d.left_between old new

-- A file that is opened to be updated is at rest where a crash leaves its bytes alone and these are fit.
abbrev pub OpensToRest : {D : Type 0} (d : Ghosts D) → OpenAs → D → Handle D d → Type 0
OpensToRest d Update disk handle = (b : List ℕ) (e : Editing) → Tells d.state disk b → IsStable d.state d.may_leave disk → updating_of b ≡ Ok e → IsFit e → HandleAtRest d handle e
OpensToRest d how disk handle = Unit {0}

-- .. and served: one that is read is only read
abbrev pub OnlyServes : {D : Type 0} (d : Ghosts D) → OpenAs → D → D → Type 0
OnlyServes d Read old new = OnlyReadsOn d.state d.may_leave d.left_between old new
OnlyServes d how old new = Unit {0}

-- ---- under a name

-- these bytes of the file of a name are opened so
abbrev pub opens_bytes : OpenAs → List ℕ → Store → List ℕ → Edited
opens_bytes how name store b = open_edit_of store name (opening_by how) (opened_as (opening_by how) b)

-- the file of a name is opened so, from these files
abbrev pub opens_edit : Store → List ℕ → OpenAs → Edited
opens_edit store name Read = open_edit store name Opening.for_reading (store.files name)
opens_edit store name Update = open_edit store name Opening.for_updating (store.files name)
opens_edit store name (Make kind p) = make_edit store name kind (Ok p)

-- parameters with which a file can be made; or why not, whatever there is
abbrev pub MakesOf : Kind → Result Parameters OpenRefusal → Result Params OpenRefusal → Type 0
MakesOf kind asked (Ok params) = (asked ≡ Ok params) × IsMakeable (Make kind params)
MakesOf kind asked (Err refusal) = (store : Store) (name : List ℕ) → make_edit store name kind asked ≡ refused (Open refusal) (closed_desk store)
