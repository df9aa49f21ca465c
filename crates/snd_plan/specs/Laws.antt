-- What carrying a plan out makes of a file.
use Rattle.std.specs.Prelude.{◌≡◌, List, ℕ, ◌++◌, [], ◌∷◌, length, drop, take, true}
use Rattle.snd_disk.specs.Device.{Tells}
use Rattle.snd_disk.specs.Runs.{HasAt}
use Rattle.snd_disk.specs.State.{State}
use Rattle.snd_plan.specs.Operations.{Operation, all_carried_out}
use Rattle.snd_plan.specs.Images.{LeavesAfter}
use Rattle.snd_plan.specs.Disks.{IsFile, given, has_all, held_length, needs, plan_state, planned, shown}
use Rattle.snd_plan.specs.Windows.{is_within}
use Rattle.snd_plan.specs.declared.disk.PlanDisk.{PlanDisk}

-- what is shown of a file has the length that the disk tells
abbrev pub ShownHasItsLength : Type 0
ShownHasItsLength = (d : PlanDisk) (b : List ℕ) → IsFile d b → length (shown d b) ≡ (plan_state d).size

-- two lists of operations, one behind the other, are carried out one after the other
abbrev pub PartsAddUp : Type 0
PartsAddUp = (os ps : List Operation) (b : List ℕ) → all_carried_out (os ++ ps) b ≡ all_carried_out ps (all_carried_out os b)

-- where the first operation is carried out, and the disk is told so, it shows the same
abbrev pub OneByOneIsTheSame : Type 0
OneByOneIsTheSame = (old new : PlanDisk) (b : List ℕ) → planned new ≡ drop 1 (planned old)
    → shown new (all_carried_out (take 1 (planned old)) b) ≡ shown old b

-- a crash leaves just what was carried out in front of a sync
abbrev pub SyncedIsStable : {D : Type 0} → (D → State) → (D → List ℕ → Type 0) → Type 0
SyncedIsStable {D = D} state may_leave = (os : List Operation) (old new : D) (b : List ℕ) → Tells state old b
    → LeavesAfter state may_leave (os ++ Operation.sync ∷ []) old new
    → (x : List ℕ) → may_leave new x → x ≡ all_carried_out os b

-- where a part is given in which all lies that a read needs, it has all
abbrev pub GivenIsRead : Type 0
GivenIsRead = (old new : PlanDisk) (at : ℕ) (bytes : List ℕ) (place n : ℕ) → (plan_state new).size ≡ (plan_state old).size
    → held_length new ≡ held_length old → given new ≡ given old ++ (at, bytes) ∷ []
    → is_within place (needs old place n) (at, bytes) ≡ true → has_all new place n ≡ true

-- a read that had all still has
abbrev pub ReadIsStillRead : Type 0
ReadIsStillRead = (old new : PlanDisk) (at : ℕ) (bytes : List ℕ) (place n : ℕ) → (plan_state new).size ≡ (plan_state old).size
    → held_length new ≡ held_length old → given new ≡ given old ++ (at, bytes) ∷ []
    → has_all old place n ≡ true → has_all new place n ≡ true

-- a file that has the part is still one of the disk's
abbrev pub GivenIsOfTheFile : Type 0
GivenIsOfTheFile = (old new : PlanDisk) (at : ℕ) (bytes b : List ℕ) → held_length new ≡ held_length old
    → given new ≡ given old ++ (at, bytes) ∷ [] → IsFile old b → HasAt b at bytes → IsFile new b
