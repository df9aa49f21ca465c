-- What a crash may leave at each moment while frames are written. The first argument is the meaning of the disk.
use Rattle.std.specs.Prelude.{◌≡◌, ◌⊎◌, ℕ, ℤ, false, true, List, [], nat_lt, if◌then◌else◌}
use Rattle.snd_container.specs.Values.{closing}
use Rattle.snd_disk.specs.Device.{IsStable, Tells}
use Rattle.snd_disk.specs.declared.disk.Disk.{Ghosts}
use Rattle.snd_layout.specs.Shape.{Shape, end}
use Rattle.snd_patch.specs.Images.{AllLieApart, IsGrowing, LeavesEach, LeavesGrowing}
use Rattle.snd_block_writer.specs.Puts.{IsPartly, LeavesPartly}
use Rattle.snd_edits.specs.Edits.{closed_behind, coded, over_data}

-- the numbers of frames are put over the data from a frame on
abbrev pub PutsData : {D : Type 0} → Ghosts D → Shape → ℕ → List ℤ → D → D → Type 0
PutsData d h place xs old new = LeavesPartly d (end h place) (coded h.params xs) old new

-- what closes the data of n frames, where these are more than there were; and that it is put so
abbrev pub closing_put : Shape → ℕ → List ℕ
closing_put h n = if nat_lt h.frames n then closing h n else []

abbrev pub PutsClosing : {D : Type 0} → Ghosts D → Shape → ℕ → D → D → Type 0
PutsClosing d h n old new = LeavesPartly d (end h n) (closing_put h n) old new

-- The fields are brought up to n frames, but not where the file goes on behind its data.
pub record LeavesFields {D : Type 0} (d : Ghosts D) (h : Shape) (n : ℕ) (old new : D) : Type 0 where
  pub growing : LeavesGrowing d h n old new
  pub still : h.trailing ≡ true → LeavesEach d old new (d.may_leave old)

-- x is b, while bytes make it c, and then the fields of c are brought up to n frames
abbrev pub IsUnderWay : List ℕ → List ℕ → Shape → ℕ → List ℕ → Type 0
IsUnderWay b c h n x = IsPartly b c x ⊎ ((h.trailing ≡ false) × IsGrowing c h n x)

-- Numbers are written over the data from a frame on, of which there are n then; from a start that was stable.
abbrev pub LeavesWritten : {D : Type 0} → Ghosts D → Shape → ℕ → ℕ → List ℤ → D → D → Type 0
LeavesWritten d h place n xs old new = AllLieApart h → (b : List ℕ) → Tells d.state old b → IsStable d.state d.may_leave old
    → LeavesEach d old new (IsUnderWay b (closed_behind (over_data b h place xs) h n) h n)
