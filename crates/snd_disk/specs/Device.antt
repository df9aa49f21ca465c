-- Relations over a whole disk, before and after a call. The first arguments are its meanings: what is known of it, what a
-- crash may leave of it, and what a crash may have left between two values of its clock.
use Rattle.std.specs.Prelude.{◌≡◌, ◌⊎◌, ℕ, ◌<◌, List, Some, Result, IfOk}
use Rattle.snd_disk.specs.State.{State, Counts, AtMost, GoesOn, Keeps, KeepsImages, Mixes, MixesAll, OnlyReads, Passes}

-- the disk tells these contents
abbrev pub Tells : {D : Type 0} → (D → State) → D → List ℕ → Type 0
Tells state disk b = (state disk).contents ≡ Some b

-- what a call that succeeds answers is right by the contents, where the disk tells them
abbrev pub IfOkTold : {D T E : Type 0} → (D → State) → D → Result T E → (List ℕ → T → Type 0) → Type 0
IfOkTold state disk result P = IfOk result (λ value. (b : List ℕ) → Tells state disk b → P b value)

-- the count of faults rises where the call fails, and there alone
abbrev pub CountsOn : {D T E : Type 0} → (D → State) → D → D → Result T E → Type 0
CountsOn state old new result = Counts (state old).faults (state new).faults result

-- at most n bytes more were asked of reads, or passed to writes
abbrev pub AsksAtMost : {D : Type 0} → (D → State) → ℕ → D → D → Type 0
AsksAtMost state n old new = AtMost (state old).asked n (state new).asked

abbrev pub WritesAtMost : {D : Type 0} → (D → State) → ℕ → D → D → Type 0
WritesAtMost state n old new = AtMost (state old).written n (state new).written

-- each image is the contents
abbrev pub IsStable : {D : Type 0} → (D → State) → (D → List ℕ → Type 0) → D → Type 0
IsStable state may_leave disk = (x : List ℕ) → may_leave disk x → (state disk).contents ≡ Some x

-- each image is a mix of an earlier one and of what was meant; and each such mix is one
abbrev pub MixesOn : {D : Type 0} → (D → State) → (D → List ℕ → Type 0) → (List ℕ → List ℕ) → D → D → Type 0
MixesOn state may_leave meant old new = Mixes (state old).contents meant (may_leave old) (may_leave new)

abbrev pub MixesAllOn : {D : Type 0} → (D → State) → (D → List ℕ → Type 0) → (List ℕ → List ℕ) → D → D → Type 0
MixesAllOn state may_leave meant old new = MixesAll (state old).contents meant (may_leave old) (may_leave new)

abbrev pub KeepsImagesOn : {D : Type 0} → (D → State) → (D → List ℕ → Type 0) → (D → ℕ → ℕ → List ℕ → Type 0) → D → D → Type 0
KeepsImagesOn state may_leave left_between old new =
    KeepsImages (state old).clock (state new).clock (may_leave old) (may_leave new) (left_between old) (left_between new)

-- nothing has changed but counts
pub record IsUnchanged {D : Type 0} (state : D → State) (may_leave : D → List ℕ → Type 0) (left_between : D → ℕ → ℕ → List ℕ → Type 0) (old new : D) : Type 0 where
  pub keeps : Keeps (state old) (state new)
  pub images : KeepsImagesOn state may_leave left_between old new

-- Time goes on: past moments stay, and this one is added; or no more is said than that past moments stay.
abbrev pub PassesOn : {D : Type 0} → (D → State) → (D → List ℕ → Type 0) → (D → ℕ → ℕ → List ℕ → Type 0) → D → D → Type 0
PassesOn state may_leave left_between old new =
    Passes (state old).clock (state new).clock (left_between old) (left_between new) (may_leave new)

abbrev pub GoesOnFrom : {D : Type 0} → (D → State) → (D → ℕ → ℕ → List ℕ → Type 0) → D → D → Type 0
GoesOnFrom state left_between old new = GoesOn (state old).clock (state new).clock (left_between old) (left_between new)

-- the clock rises where anything changes of what a crash may leave
abbrev pub TicksOn : {D : Type 0} → (D → State) → (D → List ℕ → Type 0) → (D → ℕ → ℕ → List ℕ → Type 0) → D → D → Type 0
TicksOn state may_leave left_between old new = ((state old).clock < (state new).clock) ⊎ KeepsImagesOn state may_leave left_between old new

-- nothing changes but the counts of faults and of bytes asked
abbrev pub OnlyReadsOn : {D : Type 0} → (D → State) → (D → List ℕ → Type 0) → (D → ℕ → ℕ → List ℕ → Type 0) → D → D → Type 0
OnlyReadsOn state may_leave left_between old new =
    OnlyReads (state old) (state new) (may_leave old) (may_leave new) (left_between old) (left_between new)
