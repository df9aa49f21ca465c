-- What a file owes itself once its fields are brought up to a number of frames, and on the way there.
use Rattle.std.specs.Prelude.{◌≡◌, ℕ, ◌+◌, ◌<◌, ◌≤◌, List, length, get_or, take, drop}
use Rattle.snd_disk.specs.Device.{Tells}
use Rattle.snd_disk.specs.Runs.{HasAt, HasFieldOf, IsMade}
use Rattle.snd_disk.specs.State.{State}
use Rattle.snd_layout.specs.Shape.{KeepsRule, Shape, end}
use Rattle.snd_patch.specs.Images.{AllLieApart, IsClosing, IsCounting, IsCutting, IsGrowing, IsShrinking, held_closing, held_cut}
use Rattle.snd_patch.specs.Sealed.{FieldsLieApart, SameBesideFields, closed, grown, over_closing, patched, sealed, sealed_size, shrunk, with_fewer, with_fields}
use Rattle.snd_container.specs.Values.{closed_end}

-- Before the end of the data, every byte beside the fields stays.
abbrev pub GrownKeeps : Type 0
GrownKeeps = (b : List ℕ) (h : Shape) (n : ℕ) → KeepsRule h → SameBesideFields h n b (grown b h n)

abbrev pub ShrunkKeeps : Type 0
ShrunkKeeps = (b : List ℕ) (h : Shape) (n : ℕ) → KeepsRule h → SameBesideFields h n b (shrunk b h n)

abbrev pub SealedKeeps : Type 0
SealedKeeps = (b : List ℕ) (h : Shape) (n : ℕ) → KeepsRule h → SameBesideFields h n b (sealed b h n)

-- Where no two fields have a byte in common, the order in which they are put makes no difference.
abbrev pub OrderIsFree : Type 0
OrderIsFree = (b : List ℕ) (h : Shape) (n : ℕ) → KeepsRule h → FieldsLieApart h → h.start ≤ length b → with_fewer b h n ≡ with_fields b h n

-- The lengths, where the data of the frames are there.
abbrev pub GrownLength : Type 0
GrownLength = (b : List ℕ) (h : Shape) (n : ℕ) → KeepsRule h → h.start ≤ length b → length (grown b h n) ≡ length b

abbrev pub ShrunkLength : Type 0
ShrunkLength = (b : List ℕ) (h : Shape) (n : ℕ) → KeepsRule h → end h n ≤ length b → length (shrunk b h n) ≡ closed_end h n

abbrev pub SealedLength : Type 0
SealedLength = (b : List ℕ) (h : Shape) (n : ℕ) → KeepsRule h → end h n ≤ length b → length (sealed b h n) ≡ sealed_size (length b) h n

-- What a crash may leave on the way: the contents at the start, and those at the end.
abbrev pub GrowsFromTo : Type 0
GrowsFromTo = (b : List ℕ) (h : Shape) (n : ℕ) → KeepsRule h → AllLieApart h → h.start ≤ length b
    → IsGrowing b h n b × IsGrowing b h n (with_fields b h n)

abbrev pub ShrinksFromTo : Type 0
ShrinksFromTo = (b : List ℕ) (h : Shape) (n : ℕ) → KeepsRule h → AllLieApart h → h.start ≤ length b
    → IsShrinking b h n b × IsShrinking b h n (with_fewer b h n)

abbrev pub CountsFromTo : Type 0
CountsFromTo = (b : List ℕ) (h : Shape) (n : ℕ) → KeepsRule h → AllLieApart h → h.start ≤ length b
    → IsCounting b h n b × IsCounting b h n (patched b h n)

abbrev pub ClosesFromTo : Type 0
ClosesFromTo = (b : List ℕ) (h : Shape) (n : ℕ) → IsClosing b h n b × IsClosing b h n (closed b h n)

abbrev pub CutsFromTo : Type 0
CutsFromTo = (b : List ℕ) (h : Shape) (n : ℕ) → IsCutting b h n b × IsCutting b h n (take (closed_end h n) (over_closing b h n))

-- what is made while the data are closed: an image of the start is one; where all those are the contents, each is these but
-- for what closes them; and before the end of the data each byte is that of an image of the start
abbrev pub StartIsMade : {D : Type 0} → (D → List ℕ → Type 0) → Type 0
StartIsMade {D} may_leave = (old : D) (b : List ℕ) (h : Shape) (n : ℕ) (x : List ℕ)
    → may_leave old x → IsMade (may_leave old) (held_closing b h n) x

abbrev pub StableStartCloses : {D : Type 0} → (D → List ℕ → Type 0) → Type 0
StableStartCloses {D} may_leave = (old : D) (b : List ℕ) (h : Shape) (n : ℕ) → ((y : List ℕ) → may_leave old y → y ≡ b)
    → (x : List ℕ) → IsMade (may_leave old) (held_closing b h n) x → IsClosing b h n x

abbrev pub ClosingKeepsPlaces : {D : Type 0} → (D → State) → (D → List ℕ → Type 0) → Type 0
ClosingKeepsPlaces {D} state may_leave = (old : D) (b : List ℕ) (h : Shape) (n : ℕ) → Tells state old b
    → (x : List ℕ) → IsMade (may_leave old) (held_closing b h n) x
    → (i : ℕ) → i < end h n → (y : List ℕ) × may_leave old y × (get_or x i 0 ≡ get_or y i 0)

-- .. and while all behind the data is cut
abbrev pub StableStartCuts : {D : Type 0} → (D → List ℕ → Type 0) → Type 0
StableStartCuts {D} may_leave = (old : D) (b : List ℕ) (h : Shape) (n : ℕ) → ((y : List ℕ) → may_leave old y → y ≡ b)
    → (x : List ℕ) → IsMade (may_leave old) (held_cut b h n) x → IsCutting b h n x

-- how a field reads that has these bytes, or those of b; and all before a place
abbrev pub NewFieldReads : Type 0
NewFieldReads = (x v : List ℕ) (at : ℕ) → HasAt x at v → at + length v ≤ length x → take (length v) (drop at x) ≡ v

abbrev pub OldFieldReads : Type 0
OldFieldReads = (x b : List ℕ) (at n : ℕ) → length x ≡ length b → HasFieldOf x b at n → take n (drop at x) ≡ take n (drop at b)

abbrev pub FrontReads : Type 0
FrontReads = (x b : List ℕ) (k : ℕ) → k ≤ length x → k ≤ length b → ((i : ℕ) → i < k → get_or x i 0 ≡ get_or b i 0) → take k x ≡ take k b
