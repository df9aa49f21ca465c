-- Where the data begin in a WAVE file that is made, by the bytes that its further chunks take.
use Rattle.std.specs.Prelude.{◌≡◌, ℕ, ◌+◌, ◌-◌, List, length, if◌then◌else◌}
use Rattle.snd_chunks.specs.Written.{NewChunk, chunks_bytes}
use Rattle.snd_fields.specs.declared.field.Order.TheVariants.{Little}
use Rattle.snd_layout.specs.Params.{Parameters}
use Rattle.snd_layout.specs.Sector.{is_in_one_sector}
use Rattle.snd_layout.specs.declared.codec.Codec.{Codec}
use Rattle.snd_wave.specs.Written.{head_size}

-- the place of data behind a filler of 16 bytes, where without it the field before them would not lie in one sector
abbrev pub filled_start : ℕ → ℕ → ℕ
filled_start start inner = if is_in_one_sector (start - inner) inner then start else start + 16

-- Whatever chunks take so many bytes, the data of a file with this codec begin there.
abbrev pub BeginsWith : Codec → ℕ → ℕ → Type 0
BeginsWith codec bytes n = (p : Parameters) (pieces : List NewChunk) → p.codec ≡ codec → length (chunks_bytes Little pieces) ≡ bytes → n ≡ head_size p pieces
