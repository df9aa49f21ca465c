-- How bytes that are put at a place, and made stable, leave a disk. The order in which a promotion puts them is this library's own rule.
use Rattle.std.specs.Prelude.{◌≡◌, ℕ, List, [], ◌∷◌, length}
use Rattle.snd_disk.specs.Bytes.{Mix, over}
use Rattle.snd_disk.specs.Device.{GoesOnFrom, IsStable, Tells, WritesAtMost}
use Rattle.snd_disk.specs.State.{State}
use Rattle.snd_disk.specs.declared.disk.Disk.{Ghosts}
use Rattle.snd_patch.specs.Steps.{Becomes, KeepsSize, Runs, StillTells}

-- where the disk tells what it holds, it holds then a mix of that and of what was meant
abbrev pub HoldsMixed : {D : Type 0} → (D → State) → (List ℕ → List ℕ) → D → D → Type 0
HoldsMixed state meant old new = (b : List ℕ) → Tells state old b → (x : List ℕ) × Tells state new x × Mix b (meant b) x

-- whether or not a call failed
pub record Puts {D : Type 0} (d : Ghosts D) (at : ℕ) (v : List ℕ) (old new : D) : Type 0 where
  pub mixed : HoldsMixed d.state (λ b. over b at v) old new
  pub tells : StillTells (d.state old) (d.state new)
  pub run : Runs d.state d.may_leave d.left_between (λ b. over b at v ∷ []) old new
  pub time : GoesOnFrom d.state d.left_between old new
  pub written : WritesAtMost d.state (length v) old new
  pub asked : (d.state new).asked ≡ (d.state old).asked

-- where none did
pub record HasPut {D : Type 0} (d : Ghosts D) (at : ℕ) (v : List ℕ) (old new : D) : Type 0 where
  pub contents : Becomes d.state (λ b. over b at v) old new
  pub size : KeepsSize d.state old new
  pub stable : IsStable d.state d.may_leave new
