-- Bytes that are put on a disk by several calls, one of which may fail, and what is put when frames are written.
use Rattle.std.specs.Prelude.{◌≡◌, ℕ, ◌*◌, ◌≤◌, List, ℤ, Some, get_or, length, take}
use Rattle.snd_disk.specs.Device.{GoesOnFrom, Tells, WritesAtMost}
use Rattle.snd_disk.specs.Runs.{IsBeside}
use Rattle.snd_disk.specs.State.{IsWritten, State}
use Rattle.snd_fields.specs.declared.field.Order.{Order}
use Rattle.snd_layout.specs.declared.codec.Codec.{Codec}
use Rattle.snd_container.specs.Sound.{fixed_of}
use Rattle.snd_patch.specs.Steps.{StillTells}
use Rattle.snd_container.specs.Fixed.{byte_count, samples_bytes}
use Rattle.snd_container.specs.declared.fixed.Fixed.{Fixed}
use Rattle.snd_container.specs.declared.fixed.Fixed.TheVariants.{Linear}
use Rattle.snd_pcm.specs.declared.linear.Linear.TheVariants.{S16}

-- every byte but the n from a place on is as it was, and no more than n were passed to writes
pub record PutsAt {D : Type 0} (state : D → State) (left_between : D → ℕ → ℕ → List ℕ → Type 0) (at n : ℕ) (old new : D) : Type 0 where
  pub beside : (b : List ℕ) → Tells state old b → (x : List ℕ) × Tells state new x × ((i : ℕ) → IsBeside i at n → get_or x i 0 ≡ get_or b i 0)
  pub tells : StillTells (state old) (state new)
  pub time : GoesOnFrom state left_between old new
  pub written : WritesAtMost state n old new
  pub asked : (state new).asked ≡ (state old).asked

-- of so many samples
abbrev pub PutsSamples : {D : Type 0} → (D → State) → (D → ℕ → ℕ → List ℕ → Type 0) → Fixed → ℕ → ℕ → D → D → Type 0
PutsSamples state left_between form at count old new = PutsAt state left_between at (byte_count form * count) old new

-- samples stand at a place
abbrev pub HasWritten : {D : Type 0} → (D → State) → Fixed → ℕ → List ℤ → D → D → Type 0
HasWritten state form at xs old new = IsWritten at (samples_bytes form xs) (state old) (state new)

-- where samples have 16 bits and a block has room for them, they stand at its front; also where the codec gives their form
abbrev pub HoldsEarly : Fixed → List ℤ → List ℕ → Type 0
HoldsEarly form xs block = (order : Order) → form ≡ Linear (S16 order) → 2 * length xs ≤ length block → take (2 * length xs) block ≡ samples_bytes (Linear (S16 order)) xs

abbrev pub HoldsCoded : Codec → List ℤ → List ℕ → Type 0
HoldsCoded codec xs block = (form : Fixed) → fixed_of codec ≡ Some form → HoldsEarly form xs block
