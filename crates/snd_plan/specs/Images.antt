-- What a crash may leave of a file while a list of operations is carried out on it.
use Rattle.std.specs.Prelude.{◌≡◌, ℕ, List, [], ◌∷◌, option_map, take}
use Rattle.snd_disk.specs.Bytes.{Mix, over}
use Rattle.snd_disk.specs.Device.{Tells}
use Rattle.snd_disk.specs.State.{State}
use Rattle.snd_plan.specs.Operations.{Operation, carried_out, length_after}
use Rattle.snd_plan.specs.Disks.{shown}
use Rattle.snd_plan.specs.declared.disk.PlanDisk.{PlanDisk}

-- The images after one operation, from the contents and the images before it: a sync leaves the contents alone; a write or
-- a cut leaves the mixes of an earlier image and of what was meant.
abbrev pub left_after : Operation → List ℕ → (List ℕ → Type 0) → List ℕ → Type 0
left_after (Operation.write at bytes) b before x = (y : List ℕ) × before y × Mix y (over b at bytes) x
left_after (Operation.cut len) b before x = (y : List ℕ) × before y × Mix y (take len b) x
left_after Operation.sync b before x = x ≡ b

-- .. and after a list of them in its order
abbrev pub left_after_all : List Operation → List ℕ → (List ℕ → Type 0) → List ℕ → Type 0
left_after_all [] b before = before
left_after_all (o ∷ os) b before = left_after_all os (carried_out o b) (left_after o b before)

-- what a crash may leave of a disk, once they are carried out on it: such an image, where the disk told its contents
abbrev pub LeavesAfter : {D : Type 0} → (D → State) → (D → List ℕ → Type 0) → List Operation → D → D → Type 0
LeavesAfter state may_leave os old new =
    (b : List ℕ) → Tells state old b → (x : List ℕ) → may_leave new x → left_after_all os b (may_leave old) x

-- .. and what it may have left at each moment since then: an image after the first of them, however many
abbrev pub LeavesOnTheWay : {D : Type 0} → (D → State) → (D → List ℕ → Type 0) → (D → ℕ → ℕ → List ℕ → Type 0) → List Operation → D → D → Type 0
LeavesOnTheWay state may_leave left_between os old new =
    (b : List ℕ) → Tells state old b → (t : ℕ) (x : List ℕ) → left_between new (state old).clock t x
    → (k : ℕ) × left_after_all (take k os) b (may_leave old) x

-- what becomes of the contents that a disk tells, and of its length, when one operation is carried out on it
abbrev pub CarriesOut : {D : Type 0} → (D → State) → Operation → D → D → Type 0
CarriesOut state o old new = (state new).contents ≡ option_map (carried_out o) (state old).contents

abbrev pub Resizes : {D : Type 0} → (D → State) → Operation → D → D → Type 0
Resizes state o old new = (state new).size ≡ length_after o (state old).size

-- .. when a disk's whole plan is
abbrev pub HasShown : {D : Type 0} → (D → State) → PlanDisk → D → D → Type 0
HasShown state plan old new = (state new).contents ≡ option_map (shown plan) (state old).contents
