-- What a crash may leave at each moment while blocks of ADPCM are put, and the head is brought up to their frames.
use Rattle.std.specs.Prelude.{◌⊎◌, ℕ, ℤ, List}
use Rattle.snd_block_writer.specs.Puts.{IsPartly}
use Rattle.snd_layout.specs.Shape.{Shape}
use Rattle.snd_patch.specs.Images.{IsCounting}
use Rattle.snd_patch.specs.Sealed.{closed}
use Rattle.snd_edits.specs.Encoding.{over_blocks}

-- b with the blocks of numbers for its data, and what closes n frames
abbrev pub closed_blocks : List ℕ → Shape → List ℤ → ℕ → List ℕ
closed_blocks b h zs n = closed (over_blocks b h zs) (record h { frames = n }) n

-- x is b, while these are put, and then the fields are brought up to the n frames
abbrev pub IsBlocksUnderWay : List ℕ → Shape → List ℤ → ℕ → List ℕ → Type 0
IsBlocksUnderWay b h zs n x = IsPartly b (closed_blocks b h zs n) x ⊎ IsCounting (closed_blocks b h zs n) (record h { frames = n }) n x
