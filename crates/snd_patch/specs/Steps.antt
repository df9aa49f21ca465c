-- How the steps of an update leave a disk. The first arguments are its meanings.
use Rattle.std.specs.Prelude.{◌≡◌, ℕ, ◌+◌, ◌^◌, ◌<◌, ◌≤◌, false, List, Option, IfSome, is_some, option_map}
use Rattle.snd_disk.specs.Device.{GoesOnFrom, Tells, WritesAtMost}
use Rattle.snd_disk.specs.Runs.{IsBeside, Since}
use Rattle.snd_disk.specs.State.{State}
use Rattle.snd_layout.specs.Shape.{Shape, end}
use Rattle.snd_layout.specs.Container.{HasRoomFor, is_in, is_in_fields}
use Rattle.snd_layout.specs.declared.field.Field.{Field}
use Rattle.snd_patch.specs.Sealed.{SameBesideFields}

-- A head may say n frames: their fields and what closes them have room, and their data stand on a disk of a length.
pub record MayCount (h : Shape) (n size : ℕ) : Type 0 where
  pub room : HasRoomFor h n
  pub on_disk : end h n + 8 ≤ 2 ^ 63
  pub there : end h n ≤ size

-- the disk tells what it holds afterwards where it told that before, and has its name
pub record StillTells (old new : State) : Type 0 where
  pub told : is_some new.contents ≡ is_some old.contents
  pub name : new.name ≡ old.name

-- where the disk tells what it holds, every byte of the first n frames and before them is as it was, beside the fields
abbrev pub KeepsBeside : {D : Type 0} → (D → State) → Shape → ℕ → D → D → Type 0
KeepsBeside state h n old new =
    (b : List ℕ) → Tells state old b → (x : List ℕ) × Tells state new x × SameBesideFields h n b x

-- where the disk tells what it holds, it holds then what was meant; and it has the length that it had
abbrev pub Becomes : {D : Type 0} → (D → State) → (List ℕ → List ℕ) → D → D → Type 0
Becomes state meant old new = (state new).contents ≡ option_map meant (state old).contents

abbrev pub KeepsSize : {D : Type 0} → (D → State) → D → D → Type 0
KeepsSize state old new = (state new).size ≡ (state old).size

-- where the disk tells what it holds, the calls were a run in which it held these lists
abbrev pub Runs : {D : Type 0} → (D → State) → (D → List ℕ → Type 0) → (D → ℕ → ℕ → List ℕ → Type 0) → (List ℕ → List (List ℕ)) → D → D → Type 0
Runs state may_leave left_between held old new = (b : List ℕ) → Tells state old b → Since state may_leave left_between old new (held b)

-- the places from one on are none of the first n frames nor before them, but for those of the fields
abbrev pub IsOutside : Shape → ℕ → ℕ → ℕ → Type 0
IsOutside h n at count = (i : ℕ) → i < end h n → is_in_fields h i ≡ false → IsBeside i at count

-- a field, where there is one, is one of a head
abbrev pub IsFieldOf : Shape → Option Field → Type 0
IsFieldOf h field = IfSome field (λ f. (i : ℕ) → is_in_fields h i ≡ false → is_in f i ≡ false)

-- what every step of an update to n frames keeps, whether or not it failed
pub record Updates {D : Type 0} (state : D → State) (left_between : D → ℕ → ℕ → List ℕ → Type 0) (h : Shape) (n most : ℕ) (old new : D) : Type 0 where
  pub beside : KeepsBeside state h n old new
  pub tells : StillTells (state old) (state new)
  pub time : GoesOnFrom state left_between old new
  pub written : WritesAtMost state most old new
  pub asked : (state new).asked ≡ (state old).asked
