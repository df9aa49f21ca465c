-- What a crash may leave of a file while it is promoted, and what a fault leaves. x is what is left, b the contents at the start, h
-- what the file says of itself, n the number of its frames. The order of the two writes is this library's own rule.
use Rattle.std.specs.Prelude.{◌≡◌, ◌⊎◌, ℕ, ◌+◌, ◌<◌, ◌≤◌, false, List, get_or}
use Rattle.snd_disk.specs.Device.{IsStable, Tells}
use Rattle.snd_disk.specs.Runs.{HasAt, IsMade}
use Rattle.snd_disk.specs.State.{State}
use Rattle.snd_disk.specs.declared.disk.Disk.{Ghosts}
use Rattle.snd_layout.specs.Container.{is_in_fields}
use Rattle.snd_layout.specs.Shape.{Shape, end}
use Rattle.snd_patch.specs.Images.{AllLieApart, IsCounting, LeavesEach, held_closing}
use Rattle.snd_patch.specs.Sealed.{closed, sealed}
use Rattle.snd_ds64.specs.Moments.{IsPromoting}
use Rattle.snd_ds64.specs.Promoted.{new_front}

-- At each moment since a start that was stable, a crash leaves the file on its way from b to b promoted.
abbrev pub LeavesConverting : {D : Type 0} → Ghosts D → Shape → ℕ → D → D → Type 0
LeavesConverting d h n old new = (b : List ℕ) → Tells d.state old b → IsStable d.state d.may_leave old
    → LeavesEach d old new (IsPromoting b h n)

-- x is left while b is sealed, as `seal` of snd_patch leaves it: first what closes the data is put, and then the fields
abbrev pub IsSealing : {D : Type 0} → Ghosts D → D → List ℕ → Shape → ℕ → List ℕ → Type 0
IsSealing d old b h n x = IsMade (d.may_leave old) (held_closing b h n) x ⊎ IsCounting (closed b h n) h n x

-- At each moment of a promotion a crash leaves a file on its way from the start to the sealed file, or from this to the promoted one.
abbrev pub LeavesPromoting : {D : Type 0} → Ghosts D → Shape → ℕ → D → D → Type 0
LeavesPromoting d h n old new = AllLieApart h → (b : List ℕ) → Tells d.state old b
    → LeavesEach d old new (λ x. IsSealing d old b h n x ⊎ IsPromoting (sealed b h n) h n x)

-- Before the end of the data x has the bytes of b, beside the fields, the first 48 bytes and the four before the data; and the first
-- 48 are new, or those of b beside the fields.
pub record SameBesideFront (h : Shape) (n : ℕ) (b x : List ℕ) : Type 0 where
  pub beside : (i : ℕ) → 48 ≤ i → (i + 4 < h.start) ⊎ (h.start ≤ i) → i < end h n → is_in_fields h i ≡ false → get_or x i 0 ≡ get_or b i 0
  pub front : ((i : ℕ) → i < 48 → is_in_fields h i ≡ false → get_or x i 0 ≡ get_or b i 0) ⊎ HasAt x 0 (new_front h n)

-- where the disk tells what it holds, whether or not a call failed
abbrev pub KeepsBesideFront : {D : Type 0} → (D → State) → Shape → ℕ → D → D → Type 0
KeepsBesideFront state h n old new = (b : List ℕ) → Tells state old b → (x : List ℕ) × Tells state new x × SameBesideFront h n b x
