-- How the calls of a writer leave it and the disk. `start` is the place where the data begin.
use Rattle.std.specs.Prelude.{ℕ, ℤ, ◌+◌, ◌*◌, ◌/◌, List, ◌++◌}
use Rattle.snd_ima_adpcm.specs.Blocks.{filled}
use Rattle.snd_disk.specs.Bytes.{over}
use Rattle.snd_disk.specs.Device.{Tells, WritesAtMost}
use Rattle.snd_disk.specs.State.{IsWritten, State}
use Rattle.snd_disk.specs.declared.disk.Disk.{Ghosts}
use Rattle.snd_layout.specs.Blocks.{block_frames}
use Rattle.snd_layout.specs.Params.{Parameters}
use Rattle.snd_block_writer.specs.Coded.{block_numbers, coded, whole}
use Rattle.snd_block_writer.specs.Puts.{Puts}
use Rattle.snd_block_writer.specs.Writing.{StandsFor, Writing, block_size, more_bytes, next_place}

-- the blocks that more numbers make whole are written at their place, behind those before
abbrev pub WritesBlocks : {D : Type 0} → (D → State) → ℕ → List ℤ → Writing → D → D → Type 0
WritesBlocks state start xs w old new = IsWritten (next_place start w) (more_bytes w xs) (state old) (state new)

-- .. also where a call fails: every byte beside them stays, now and after a crash
abbrev pub PutsBlocks : {D : Type 0} → Ghosts D → ℕ → List ℤ → Writing → D → D → Type 0
PutsBlocks d start xs w old new = Puts d (next_place start w) (more_bytes w xs) old new

-- the writer was given more numbers
abbrev pub TakesMore : List ℤ → Writing → Writing → Type 0
TakesMore xs old new = (p : Parameters) (ys : List ℤ) → StandsFor old p ys → StandsFor new p (ys ++ xs)

-- the writer was given zeros, up to whole blocks
abbrev pub FillsUp : Writing → Writing → Type 0
FillsUp old new = (p : Parameters) (ys : List ℤ) → StandsFor old p ys → StandsFor new p (filled (block_numbers p) ys)

-- where the disk held the whole blocks of the numbers so far, it holds those of all numbers now
abbrev pub HoldsMore : {D : Type 0} → (D → State) → ℕ → List ℤ → Writing → D → D → Type 0
HoldsMore state start xs w old new = (p : Parameters) (ys : List ℤ) (b : List ℕ) → StandsFor w p ys
    → Tells state old (over b start (coded p (whole p ys))) → Tells state new (over b start (coded p (whole p (ys ++ xs))))

-- .. it holds all blocks now, of which zeros fill the last
abbrev pub HoldsAll : {D : Type 0} → (D → State) → ℕ → Writing → D → D → Type 0
HoldsAll state start w old new = (p : Parameters) (ys : List ℤ) (b : List ℕ) → StandsFor w p ys
    → Tells state old (over b start (coded p (whole p ys))) → Tells state new (over b start (coded p ys))

-- for so many numbers no more is written than the bytes of the blocks that their frames fill, and of one more
abbrev pub WritesForFrames : {D : Type 0} → (D → State) → ℕ → Writing → D → D → Type 0
WritesForFrames state numbers w old new =
    WritesAtMost state ((numbers / w.params.channels / block_frames w.params.codec + 1) * block_size w) old new
