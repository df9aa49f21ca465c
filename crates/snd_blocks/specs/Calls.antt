-- How the calls of this crate answer.
use Rattle.std.specs.Prelude.{◌≡◌, ◌⊎◌, ℕ, ℤ, ◌+◌, ◌*◌, ◌/◌, ◌≤◌, Bool, false, true, IsTrue, List, Result, Ok, Err, take, drop}
use Rattle.std.specs.Result.{IsErrOf}
use Rattle.snd_disk.specs.Device.{AsksAtMost, Tells}
use Rattle.snd_disk.specs.State.{Rises, State}
use Rattle.snd_fields.specs.Blocks.{is_ima_align, ima_samples_per_block, is_ms_align, ms_samples_per_block}
use Rattle.snd_layout.specs.declared.codec.Codec.{Codec}
use Rattle.snd_layout.specs.declared.codec.Codec.TheVariants.{Ima, Ms}
use Rattle.snd_layout.specs.Blocks.{block_align, block_frames}
use Rattle.snd_layout.specs.Params.{Parameters}
use Rattle.snd_layout.specs.Shape.{Shape}
use Rattle.snd_blocks.specs.Frames.{block_samples, is_bad_block}
use Rattle.snd_blocks.specs.declared.error.BlockError.{BlockError}
use Rattle.snd_blocks.specs.declared.error.BlockError.TheVariants.{BadBlock, DiskFault}

-- the count of faults rises where the disk failed, and there alone
abbrev pub CountsFault : ℕ → ℕ → {T : Type 0} → Result T BlockError → Type 0
CountsFault old new (Ok value) = new ≡ old
CountsFault old new (Err BadBlock) = new ≡ old
CountsFault old new (Err (DiskFault step)) = (old ≤ new) × Rises old new

abbrev pub CountsFaultOn : {D T : Type 0} → (D → State) → D → D → Result T BlockError → Type 0
CountsFaultOn state old new result = CountsFault (state old).faults (state new).faults result

-- for so many numbers no more is asked than the bytes of the blocks that their frames may stand in
abbrev pub AsksForFrames : {D : Type 0} → (D → State) → Shape → ℕ → D → D → Type 0
AsksForFrames state s numbers old new =
    AsksAtMost state ((numbers / s.params.channels / block_frames s.params.codec + 2) * block_align s.params.channels s.params.codec) old new

-- .. than the bytes of so many blocks
abbrev pub AsksForBlocks : {D : Type 0} → (D → State) → Shape → ℕ → D → D → Type 0
AsksForBlocks state s count old new = AsksAtMost state (count * block_align s.params.channels s.params.codec) old new

-- there is room for the bytes of so many
abbrev pub HasRoomFor : Shape → ℕ → Type 0
HasRoomFor s count = count * block_align s.params.channels s.params.codec ≤ 8192

-- ---- one block

abbrev pub is_bad_in : Shape → List ℕ → Bool
is_bad_in s block = is_bad_block s.params.channels s.params.codec block

-- the size of a block and its frames are those of its codec
abbrev pub HasForm : ℕ → Codec → Type 0
HasForm channels (Ima align per_block) = IsTrue (is_ima_align channels align) × (per_block ≡ ima_samples_per_block channels align)
HasForm channels (Ms align per_block) = IsTrue (is_ms_align channels align) × (per_block ≡ ms_samples_per_block channels align)
HasForm channels codec = ⊥

-- the parameters of an ADPCM file
pub record AreBlocks (p : Parameters) : Type 0 where
  pub channels : (p.channels ≡ 1) ⊎ (p.channels ≡ 2)
  pub form : HasForm p.channels p.codec
  pub some_bytes : 1 ≤ block_align p.channels p.codec
  pub most_bytes : block_align p.channels p.codec ≤ 8192
  pub some_frames : 1 ≤ block_frames p.codec

-- the bytes of a block, by its number
abbrev pub block_at : List ℕ → Shape → ℕ → List ℕ
block_at b s number = take (block_align s.params.channels s.params.codec) (drop (s.start + number * block_align s.params.channels s.params.codec) b)

-- a block is refused only where it is bad
abbrev pub RefusesBad : {D T : Type 0} → (D → State) → D → Shape → ℕ → Result T BlockError → Type 0
RefusesBad state disk s number result = IsErrOf result BadBlock → (b : List ℕ) → Tells state disk b → is_bad_in s (block_at b s number) ≡ true

-- a good block has these samples
pub record IsBlock (p : Parameters) (block : List ℕ) (samples : List ℤ) : Type 0 where
  pub good : is_bad_block p.channels p.codec block ≡ false
  pub samples_of : samples ≡ block_samples p.channels p.codec block
