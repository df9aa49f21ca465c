-- The laws of disks: what a crash may leave after one call and after a run of calls.
use Rattle.std.specs.Prelude.{◌≡◌, ◌⊎◌, ◌+◌, ◌≤◌, ℕ, List, [], ◌∷◌, ◌++◌, length, get_or, Some}
use Rattle.std.specs.List.{All}
use Rattle.snd_disk.specs.Bytes.{Mix, over}
use Rattle.snd_disk.specs.State.{State, Keeps, SameImages}
use Rattle.snd_disk.specs.Device.{IsStable, KeepsImagesOn, MixesOn, PassesOn}
use Rattle.snd_disk.specs.Runs.{IsSource, IsMade, Since, IsInOneSector, HasFieldOf, IsWriting}

-- a write or a cut is a run that has held what it meant to leave
abbrev pub ChangeIsRun : {D : Type 0} → (D → State) → (D → List ℕ → Type 0) → (D → ℕ → ℕ → List ℕ → Type 0) → Type 0
ChangeIsRun {D} state may_leave left_between = (old new : D) (meant : List ℕ → List ℕ) (b : List ℕ) → (state old).contents ≡ Some b
    → MixesOn state may_leave meant old new
    → PassesOn state may_leave left_between old new
    → Since state may_leave left_between old new (meant b ∷ [])

-- a call that only reads is a run that has held nothing else
abbrev pub ReadIsRun : {D : Type 0} → (D → State) → (D → List ℕ → Type 0) → (D → ℕ → ℕ → List ℕ → Type 0) → Type 0
ReadIsRun {D} state may_leave left_between = (old new : D)
    → KeepsImagesOn state may_leave left_between old new
    → Since state may_leave left_between old new []

-- and so is a sync that fails
abbrev pub FailedSyncIsRun : {D : Type 0} → (D → State) → (D → List ℕ → Type 0) → (D → ℕ → ℕ → List ℕ → Type 0) → Type 0
FailedSyncIsRun {D} state may_leave left_between = (old new : D)
    → SameImages (may_leave old) (may_leave new)
    → PassesOn state may_leave left_between old new
    → Since state may_leave left_between old new []

-- and so is a sync that succeeds
abbrev pub SyncIsRun : {D : Type 0} → (D → State) → (D → List ℕ → Type 0) → (D → ℕ → ℕ → List ℕ → Type 0) → Type 0
SyncIsRun {D} state may_leave left_between = (old new : D)
    → Keeps (state old) (state new) → IsStable state may_leave new
    → PassesOn state may_leave left_between old new
    → Since state may_leave left_between old new []

-- .. after which each image is the contents
abbrev pub SyncSettles : {D : Type 0} → (D → State) → (D → List ℕ → Type 0) → Type 0
SyncSettles {D} state may_leave = (old new : D) (b : List ℕ) → (state old).contents ≡ Some b
    → Keeps (state old) (state new) → IsStable state may_leave new
    → ((state new).contents ≡ Some b) × may_leave new b × ((x : List ℕ) → may_leave new x → x ≡ b)

-- two runs, one after the other, are a run
abbrev pub RunsJoin : {D : Type 0} → (D → State) → (D → List ℕ → Type 0) → (D → ℕ → ℕ → List ℕ → Type 0) → Type 0
RunsJoin {D} state may_leave left_between = (a b c : D) (h k : List (List ℕ))
    → Since state may_leave left_between a b h → Since state may_leave left_between b c k → Since state may_leave left_between a c (h ++ k)

-- each byte of what a crash leaves is that of a source, whose bytes past its end count as zeros
abbrev pub BytesComeFrom : {D : Type 0} → (D → List ℕ → Type 0) → Type 0
BytesComeFrom {D} may_leave = (old : D) (held : List (List ℕ)) (x : List ℕ) → IsMade (may_leave old) held x
    → (i : ℕ) → (y : List ℕ) × IsSource (may_leave old) held y × (get_or x i 0 ≡ get_or y i 0)

-- a place at which each list held has the byte of the contents at the start has the byte of an image at the start
abbrev pub PlaceStays : {D : Type 0} → (D → State) → (D → List ℕ → Type 0) → Type 0
PlaceStays {D} state may_leave = (old : D) (b : List ℕ) (held : List (List ℕ)) (i : ℕ) → (state old).contents ≡ Some b
    → All (λ h. get_or h i 0 ≡ get_or b i 0) held
    → (x : List ℕ) → IsMade (may_leave old) held x → (y : List ℕ) × may_leave old y × (get_or x i 0 ≡ get_or y i 0)

-- a field in one sector of a mix is whole: that of the one or of the other
abbrev pub MixHasWholeField : Type 0
MixHasWholeField = (y z x : List ℕ) (at n : ℕ) → Mix y z x → IsInOneSector at n → at + n ≤ length x → HasFieldOf x y at n ⊎ HasFieldOf x z at n

-- a field in one sector, before the end of each source, is whole in what a crash leaves: it is that of a source
abbrev pub FieldIsWhole : {D : Type 0} → (D → List ℕ → Type 0) → Type 0
FieldIsWhole {D} may_leave = (old : D) (held : List (List ℕ)) (at n : ℕ) → IsInOneSector at n
    → ((y : List ℕ) → IsSource (may_leave old) held y → at + n ≤ length y)
    → (x : List ℕ) → IsMade (may_leave old) held x → (y : List ℕ) × IsSource (may_leave old) held y × HasFieldOf x y at n

-- a field that each list held has as the contents at the start have it is that of an image at the start
abbrev pub FieldStays : {D : Type 0} → (D → State) → (D → List ℕ → Type 0) → Type 0
FieldStays {D} state may_leave = (old : D) (b : List ℕ) (held : List (List ℕ)) (at n : ℕ) → (state old).contents ≡ Some b → IsInOneSector at n
    → ((y : List ℕ) → IsSource (may_leave old) held y → at + n ≤ length y) → All (λ h. HasFieldOf h b at n) held
    → (x : List ℕ) → IsMade (may_leave old) held x → (y : List ℕ) × may_leave old y × HasFieldOf x y at n

-- where a field is written over synced contents, what a crash leaves is these, but for the field, which is old or new
abbrev pub OneFieldChanges : {D : Type 0} → (D → List ℕ → Type 0) → Type 0
OneFieldChanges {D} may_leave = (old : D) (b : List ℕ) (at : ℕ) (v : List ℕ) → at + length v ≤ length b
    → ((x : List ℕ) → may_leave old x → x ≡ b)
    → (x : List ℕ) → IsMade (may_leave old) (over b at v ∷ []) x → IsWriting b at v x
