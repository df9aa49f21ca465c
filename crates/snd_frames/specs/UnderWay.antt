-- What a crash may leave of a disk at each moment while blocks of ADPCM are put on it, and the head is brought up to their frames. The
-- first argument of each relation between two disks is their meaning.
use Rattle.std.specs.Prelude.{◌≡◌, ℕ, ℤ, List, ◌++◌, Option, Some}
use Rattle.std.specs.Global.{Box}
use Rattle.snd_block_writer.specs.Coded.{whole}
use Rattle.snd_block_writer.specs.Writing.{StandsFor, Writing}
use Rattle.snd_disk.specs.Device.{IsStable, Tells}
use Rattle.snd_disk.specs.declared.disk.Disk.{Ghosts}
use Rattle.snd_layout.specs.Shape.{Shape}
use Rattle.snd_patch.specs.Images.{AllLieApart, LeavesEach}
use Rattle.snd_edits.specs.Encoding.{over_blocks, whole_frames}
use Rattle.snd_edits.specs.UnderWay.{IsBlocksUnderWay}

-- The disk held the whole blocks of what a writer was given, and was stable; the blocks of numbers that these become are put.
abbrev pub LeavesBlocks : {D : Type 0} → Ghosts D → Shape → Writing → (List ℤ → List ℤ) → ℕ → D → D → Type 0
LeavesBlocks d h w become n old new = AllLieApart h → (ys : List ℤ) (b : List ℕ) → StandsFor w h.params ys → over_blocks b h (whole h.params ys) ≡ b
    → Tells d.state old b → IsStable d.state d.may_leave old → LeavesEach d old new (IsBlocksUnderWay b h (become ys) n)

-- .. those that more numbers make whole
abbrev pub LeavesGiven : {D : Type 0} → Ghosts D → Shape → ℕ → List ℤ → Writing → D → D → Type 0
LeavesGiven d h to xs w old new = LeavesBlocks d h w (λ ys. whole h.params (ys ++ xs)) (whole_frames h.params to) old new

-- .. all of them, the last of which zeros fill
abbrev pub LeavesAll : {D : Type 0} → Ghosts D → Shape → ℕ → Writing → D → D → Type 0
LeavesAll d h place w old new = LeavesBlocks d h w (λ ys. ys) place old new

-- of what a file has, which makes its blocks
abbrev pub LeavesGivenIn : {D : Type 0} → Ghosts D → Shape → ℕ → List ℤ → Option (Box Writing) → D → D → Type 0
LeavesGivenIn d h to xs writer old new = (w : Box Writing) → writer ≡ Some w → LeavesGiven d h to xs w.value old new

abbrev pub LeavesAllIn : {D : Type 0} → Ghosts D → Shape → ℕ → Option (Box Writing) → D → D → Type 0
LeavesAllIn d h place writer old new = (w : Box Writing) → writer ≡ Some w → LeavesAll d h place w.value old new
