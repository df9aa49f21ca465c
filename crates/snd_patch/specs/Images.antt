-- What a crash may leave of a file while its fields are brought up to a number of frames. x is what it leaves, b the contents at
-- the start, h what the file says of itself, n the number of frames.
use Rattle.std.specs.Prelude.{◌≡◌, ◌⊎◌, ℕ, ◌<◌, ◌≤◌, false, List, [], ◌∷◌, IfSome, get_or, length, max, nat_lt, take, if◌then◌else◌}
use Rattle.snd_disk.specs.Device.{GoesOnFrom, IsStable, Tells}
use Rattle.snd_disk.specs.Runs.{HasAt, HasFieldOf, IsInOneSector, IsMade}
use Rattle.snd_disk.specs.declared.disk.Disk.{Ghosts}
use Rattle.snd_layout.specs.Params.{data_bytes}
use Rattle.snd_layout.specs.Shape.{Shape, end}
use Rattle.snd_layout.specs.declared.field.Field.{Field}
use Rattle.snd_container.specs.Values.{closed_end, inner_value, outer_value, side_value}
use Rattle.snd_patch.specs.Sealed.{FieldsLieApart, LieApart, closed, over_closing, with_fewer}
use Rattle.snd_layout.specs.Container.{is_in_fields}

-- no two fields have a byte in common
pub record AllLieApart (h : Shape) : Type 0 where
  pub inner : FieldsLieApart h
  pub others : IfSome h.outer (λ outer. IfSome h.side (LieApart outer))

-- x has the bytes of b in a field, or those given; and the one or the other as a whole, where the field lies in one sector
abbrev pub HasOld : List ℕ → List ℕ → Field → Type 0
HasOld b x field = HasFieldOf x b field.at field.size

abbrev pub HasNew : List ℕ → List ℕ → Field → Type 0
HasNew bytes x field = HasAt x field.at bytes

abbrev pub IsOldOrNew : List ℕ → List ℕ → List ℕ → Field → Type 0
IsOldOrNew b bytes x field = IsInOneSector field.at field.size → HasOld b x field ⊎ HasNew bytes x field

-- x is b, but for the fields
pub record IsUpdating (b : List ℕ) (h : Shape) (n : ℕ) (x : List ℕ) : Type 0 where
  pub size : length x ≡ length b
  pub beside : (i : ℕ) → is_in_fields h i ≡ false → get_or x i 0 ≡ get_or b i 0
  pub inner : IsOldOrNew b (inner_value h n) x h.inner
  pub outer : IfSome h.outer (IsOldOrNew b (outer_value h n) x)
  pub side : IfSome h.side (IsOldOrNew b (side_value h n) x)

-- .. the others are old unless the one that decides the count is new
pub record IsGrowing (b : List ℕ) (h : Shape) (n : ℕ) (x : List ℕ) : Type 0 where
  pub fields : IsUpdating b h n x
  pub ordered : (IfSome h.outer (HasOld b x) × IfSome h.side (HasOld b x)) ⊎ HasNew (inner_value h n) x h.inner

-- .. the one that decides the count is old unless the others are new
pub record IsShrinking (b : List ℕ) (h : Shape) (n : ℕ) (x : List ℕ) : Type 0 where
  pub fields : IsUpdating b h n x
  pub ordered : HasOld b x h.inner ⊎ (IfSome h.outer (HasNew (outer_value h n) x) × IfSome h.side (HasNew (side_value h n) x))

-- .. in the order for the data that the head declares
abbrev pub IsCounting : List ℕ → Shape → ℕ → List ℕ → Type 0
IsCounting b h n x =
    ((h.declared ≤ data_bytes h.params n) × IsGrowing b h n x) ⊎ ((data_bytes h.params n < h.declared) × IsShrinking b h n x)

-- x is b, while what closes the data of n frames is put behind them, where it is not all there
pub record IsClosing (b : List ℕ) (h : Shape) (n : ℕ) (x : List ℕ) : Type 0 where
  pub least : length b ≤ length x
  pub most : length x ≤ max (length b) (closed_end h n)
  pub before : (i : ℕ) → i < end h n → get_or x i 0 ≡ get_or b i 0
  pub behind : (i : ℕ) → (get_or x i 0 ≡ get_or b i 0) ⊎ (get_or x i 0 ≡ get_or (over_closing b h n) i 0)

-- x is b, while what closes the data of n frames is put behind them and all behind that is cut
pub record IsCutting (b : List ℕ) (h : Shape) (n : ℕ) (x : List ℕ) : Type 0 where
  pub size : (length x ≡ length b) ⊎ (length x ≡ closed_end h n)
  pub before : (i : ℕ) → i < end h n → get_or x i 0 ≡ get_or b i 0
  pub behind : (i : ℕ) → i < closed_end h n → (get_or x i 0 ≡ get_or b i 0) ⊎ (get_or x i 0 ≡ get_or (over_closing b h n) i 0)

-- the lists held while the data are closed, and while all behind them is cut
abbrev pub held_closing : List ℕ → Shape → ℕ → List (List ℕ)
held_closing b h n = if nat_lt (length b) (closed_end h n) then over_closing b h n ∷ [] else []

abbrev pub held_cut : List ℕ → Shape → ℕ → List (List ℕ)
held_cut b h n = over_closing b h n ∷ take (closed_end h n) (over_closing b h n) ∷ []

-- At each moment since the start a crash leaves what has P, and it does so now; what it may have left before that is as it was.
pub record LeavesEach {D : Type 0} (d : Ghosts D) (old new : D) (P : List ℕ → Type 0) : Type 0 where
  pub time : GoesOnFrom d.state d.left_between old new
  pub now : (x : List ℕ) → d.may_leave new x → P x
  pub moments : (t : ℕ) (x : List ℕ) → d.left_between new (d.state old).clock t x → P x
  -- for a run that began earlier
  pub earlier : (s t : ℕ) (x : List ℕ) → d.left_between new s t x → d.left_between old s t x ⊎ P x

-- where the contents are told: an image of the start, or what is said of the contents
abbrev pub LeavesOr : {D : Type 0} → Ghosts D → (List ℕ → List ℕ → Type 0) → D → D → Type 0
LeavesOr d changed old new = (b : List ℕ) → Tells d.state old b → LeavesEach d old new (λ x. d.may_leave old x ⊎ changed b x)

-- .. of each update of the fields, where no two have a byte in common
abbrev pub LeavesGrowing : {D : Type 0} → Ghosts D → Shape → ℕ → D → D → Type 0
LeavesGrowing d h n old new = AllLieApart h → LeavesOr d (λ b. IsGrowing b h n) old new

abbrev pub LeavesLowered : {D : Type 0} → Ghosts D → Shape → ℕ → D → D → Type 0
LeavesLowered d h n old new = AllLieApart h → LeavesOr d (λ b. IsShrinking b h n) old new

abbrev pub LeavesCounting : {D : Type 0} → Ghosts D → Shape → ℕ → D → D → Type 0
LeavesCounting d h n old new = AllLieApart h → LeavesOr d (λ b. IsCounting b h n) old new

abbrev pub LeavesShrinking : {D : Type 0} → Ghosts D → Shape → ℕ → D → D → Type 0
LeavesShrinking d h n old new = AllLieApart h
    → LeavesOr d (λ b x. IsShrinking b h n x ⊎ IsCutting (with_fewer b h n) h n x) old new

-- .. from a start that was stable, while all behind the data is cut
abbrev pub LeavesCutting : {D : Type 0} → Ghosts D → Shape → ℕ → D → D → Type 0
LeavesCutting d h n old new = (b : List ℕ) → Tells d.state old b → IsStable d.state d.may_leave old
    → LeavesEach d old new (IsCutting b h n)

-- .. and while a file is sealed: first what closes the data is put, without a sync
abbrev pub LeavesSealing : {D : Type 0} → Ghosts D → Shape → ℕ → D → D → Type 0
LeavesSealing d h n old new = AllLieApart h → (b : List ℕ) → Tells d.state old b
    → LeavesEach d old new (λ x. IsMade (d.may_leave old) (held_closing b h n) x ⊎ IsCounting (closed b h n) h n x)
