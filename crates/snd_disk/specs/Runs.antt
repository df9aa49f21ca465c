-- Where the bytes come from that a crash leaves while a run of calls changes a disk.
use Rattle.std.specs.Prelude.{◌≡◌, ◌⊎◌, ◌+◌, ◌-◌, ◌<◌, ◌≤◌, ◌/◌, ℕ, List, [], ◌∷◌, length, take, get_or, Some}
use Rattle.snd_disk.specs.State.{State}
use Rattle.snd_disk.specs.Bytes.{HasSectorOf}

-- y is an image of the start, or one of the lists that the disk has held, or was to hold, since then
abbrev pub IsSource : (List ℕ → Type 0) → List (List ℕ) → List ℕ → Type 0
IsSource before [] y = before y
IsSource before (b ∷ held) y = (y ≡ b) ⊎ IsSource before held y

-- x has the length of a source, and each of its sectors is that of a source, up to the end of a source
pub record ComesFrom (source : List ℕ → Type 0) (x : List ℕ) : Type 0 where
  pub size : (y : List ℕ) × source y × (length x ≡ length y)
  pub sectors : (k : ℕ) → (y end : List ℕ) × source y × source end × HasSectorOf x (take (length end) y) k

-- what a run leaves: an image of the start where the disk has held nothing since, or else what comes from both
abbrev pub IsMade : (List ℕ → Type 0) → List (List ℕ) → List ℕ → Type 0
IsMade before [] x = before x
IsMade before (b ∷ held) x = ComesFrom (IsSource before (b ∷ held)) x

-- A run of calls: the clock has not fallen, and what a crash may leave now, and may have left at each moment since the
-- start, is made of the images at the start and the lists held since. What it may have left before that is as it was.
pub record Since {D : Type 0} (state : D → State) (may_leave : D → List ℕ → Type 0) (left_between : D → ℕ → ℕ → List ℕ → Type 0) (old new : D) (held : List (List ℕ)) : Type 0 where
  pub later : (state old).clock ≤ (state new).clock
  pub now : (x : List ℕ) → may_leave new x → IsMade (may_leave old) held x
  pub between : (t : ℕ) (x : List ℕ) → left_between new (state old).clock t x → IsMade (may_leave old) held x
  -- for a run that began earlier
  pub earlier : (s t : ℕ) (x : List ℕ) → left_between new s t x → left_between old s t x ⊎ IsMade (may_leave old) held x
  pub same : (s t : ℕ) (x : List ℕ) → t ≤ (state old).clock → left_between new s t x → left_between old s t x
  pub kept : (s t : ℕ) (x : List ℕ) → left_between old s t x → left_between new s t x

-- the first and the last of the n bytes from a place on lie in one sector
abbrev pub IsInOneSector : ℕ → ℕ → Type 0
IsInOneSector at n = (at + n - 1) / 512 ≡ at / 512

-- x has the n bytes of b at a place
abbrev pub HasFieldOf : List ℕ → List ℕ → ℕ → ℕ → Type 0
HasFieldOf x b at n = (j : ℕ) → j < n → get_or x (at + j) 0 ≡ get_or b (at + j) 0

-- x has these bytes at a place
abbrev pub HasAt : List ℕ → ℕ → List ℕ → Type 0
HasAt x at v = (j : ℕ) → j < length v → get_or x (at + j) 0 ≡ get_or v j 0

-- a place is not among the n from another on
abbrev pub IsBeside : ℕ → ℕ → ℕ → Type 0
IsBeside i at n = (i < at) ⊎ (at + n ≤ i)

-- x is b, but that the field that is written may have any of its bytes from either, and is old or new as a whole where it
-- lies in one sector
pub record IsWriting (b : List ℕ) (at : ℕ) (v x : List ℕ) : Type 0 where
  pub size : length x ≡ length b
  pub beside : (i : ℕ) → IsBeside i at (length v) → get_or x i 0 ≡ get_or b i 0
  pub whole : IsInOneSector at (length v) → HasFieldOf x b at (length v) ⊎ HasAt x at v

-- the n bytes from a place on, and the m from another on, have none in common
abbrev pub AreApart : ℕ → ℕ → ℕ → ℕ → Type 0
AreApart at n at' m = (at + n ≤ at') ⊎ (at' + m ≤ at)

-- x is b, but for two fields: each is old or new as a whole where it lies in one sector, and the second is old unless the
-- first is new
pub record IsPatching (b : List ℕ) (at : ℕ) (v : List ℕ) (at' : ℕ) (w x : List ℕ) : Type 0 where
  pub size : length x ≡ length b
  pub beside : (i : ℕ) → IsBeside i at (length v) → IsBeside i at' (length w) → get_or x i 0 ≡ get_or b i 0
  pub first : IsInOneSector at (length v) → HasFieldOf x b at (length v) ⊎ HasAt x at v
  pub second : IsInOneSector at' (length w) → HasFieldOf x b at' (length w) ⊎ HasAt x at' w
  pub ordered : HasFieldOf x b at' (length w) ⊎ HasAt x at v

-- At each moment since the start a crash leaves an image of the start, or the contents of the start with the two fields
-- changed in order; where the contents are told, and the fields have no byte in common.
abbrev pub ChangesInOrder : {D : Type 0} → (D → State) → (D → List ℕ → Type 0) → (D → ℕ → ℕ → List ℕ → Type 0) → D → D → ℕ → List ℕ → ℕ → List ℕ → Type 0
ChangesInOrder state may_leave left_between old new at v at' w =
    (b : List ℕ) → (state old).contents ≡ Some b → AreApart at (length v) at' (length w)
    → (t : ℕ) (x : List ℕ) → left_between new (state old).clock t x → may_leave old x ⊎ IsPatching b at v at' w x
