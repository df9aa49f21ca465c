-- Bytes that are put on a disk by several calls, one of which may fail. The first argument is the meaning of the disk.
use Rattle.std.specs.Prelude.{◌≡◌, ◌⊎◌, ℕ, ◌+◌, ◌≤◌, List, get_or, length}
use Rattle.snd_disk.specs.Device.{GoesOnFrom, Tells, WritesAtMost}
use Rattle.snd_disk.specs.Runs.{HasAt, IsBeside}
use Rattle.snd_disk.specs.declared.disk.Disk.{Ghosts}
use Rattle.snd_patch.specs.Images.{LeavesEach}
use Rattle.snd_patch.specs.Steps.{StillTells}

-- x is b while bytes are put over it and behind it, which make it c: each byte is that of b or that of c
pub record IsPartly (b c x : List ℕ) : Type 0 where
  pub least : length b ≤ length x
  pub most : length x ≤ length c
  pub each : (i : ℕ) → (get_or x i 0 ≡ get_or b i 0) ⊎ (get_or x i 0 ≡ get_or c i 0)

-- Bytes are put at a place where c has them: while each image at the start is b or c at each place, so it is at every moment.
abbrev pub LeavesPartly : {D : Type 0} → Ghosts D → ℕ → List ℕ → D → D → Type 0
LeavesPartly d at s old new = (b c l : List ℕ) → HasAt c at s → at + length s ≤ length c → Tells d.state old l
    → ((x : List ℕ) → d.may_leave old x → IsPartly b c x) → LeavesEach d old new (IsPartly b c)

-- .. and every byte beside them is as it was, at the end too, also where a call failed; the disk is no shorter, and no more bytes
-- were passed to writes
pub record Puts {D : Type 0} (d : Ghosts D) (at : ℕ) (s : List ℕ) (old new : D) : Type 0 where
  pub beside : (b : List ℕ) → Tells d.state old b → (x : List ℕ) × Tells d.state new x × ((i : ℕ) → IsBeside i at (length s) → get_or x i 0 ≡ get_or b i 0)
  pub longer : (d.state old).size ≤ (d.state new).size
  pub tells : StillTells (d.state old) (d.state new)
  pub leaves : LeavesPartly d at s old new
  pub time : GoesOnFrom d.state d.left_between old new
  pub written : WritesAtMost d.state (length s) old new
  pub asked : (d.state new).asked ≡ (d.state old).asked
