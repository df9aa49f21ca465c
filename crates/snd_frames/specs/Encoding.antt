-- Blocks of ADPCM that are put on a disk, and what the file then has.
use Rattle.std.specs.Prelude.{◌≡◌, ℕ, ℤ, ◌+◌, Bool, List, ◌++◌, Option, Some}
use Rattle.std.specs.Global.{Box}
use Rattle.snd_block_writer.specs.Calls.{TakesMore}
use Rattle.snd_block_writer.specs.Coded.{whole}
use Rattle.snd_block_writer.specs.Writing.{StandsFor, Writing}
use Rattle.snd_disk.specs.Device.{Tells}
use Rattle.snd_disk.specs.State.{State}
use Rattle.snd_layout.specs.Shape.{Shape}
use Rattle.snd_patch.specs.Sealed.{sealed}
use Rattle.snd_edits.specs.Edits.{sealed_where}
use Rattle.snd_edits.specs.Encoding.{over_blocks, whole_frames, counting_whole}

-- where the disk held the whole blocks of what a writer was given, it holds those of more now, sealed where that is automatic
abbrev pub HoldsEncoded : {D : Type 0} → (D → State) → Bool → Shape → ℕ → List ℤ → Writing → D → D → Type 0
HoldsEncoded state automatic h to xs w old new = (ys : List ℤ) (b : List ℕ) → StandsFor w h.params ys
    → Tells state old (over_blocks b h (whole h.params ys))
    → Tells state new (sealed_where automatic (over_blocks b h (whole h.params (ys ++ xs))) (counting_whole h to) (whole_frames h.params to))

-- .. what makes the blocks was given these, too
pub record TakesAll {D : Type 0} (state : D → State) (automatic : Bool) (h : Shape) (to : ℕ) (xs : List ℤ) (w w' : Writing) (old new : D) : Type 0 where
  pub takes : TakesMore xs w w'
  pub holds : HoldsEncoded state automatic h to xs w old new

abbrev pub GivesMore : {D : Type 0} → (D → State) → Bool → Shape → ℕ → List ℤ → Option (Box Writing) → Option (Box Writing) → D → D → Type 0
GivesMore state automatic h to xs writer writer' old new =
    (w w' : Box Writing) → writer ≡ Some w → writer' ≡ Some w' → TakesAll state automatic h to xs w.value w'.value old new

-- .. and the file is sealed with all frames before a place
abbrev pub HoldsClosed : {D : Type 0} → (D → State) → Shape → ℕ → Writing → D → D → Type 0
HoldsClosed state h place w old new = (ys : List ℤ) (b : List ℕ) → StandsFor w h.params ys
    → Tells state old (over_blocks b h (whole h.params ys)) → Tells state new (sealed (over_blocks b h ys) (record h { frames = place }) place)

abbrev pub ClosesBlocks : {D : Type 0} → (D → State) → Shape → ℕ → Option (Box Writing) → D → D → Type 0
ClosesBlocks state h place writer old new = (w : Box Writing) → writer ≡ Some w → HoldsClosed state h place w.value old new

-- .. it holds all blocks now, of which zeros fill the last
abbrev pub HoldsFinished : {D : Type 0} → (D → State) → Shape → Writing → D → D → Type 0
HoldsFinished state h w old new = (ys : List ℤ) (b : List ℕ) → StandsFor w h.params ys
    → Tells state old (over_blocks b h (whole h.params ys)) → Tells state new (over_blocks b h ys)
