-- Where the data begin in an 8SVX file that is made, by the bytes that its further chunks take.
use Rattle.std.specs.Prelude.{◌≡◌, ℕ, List, length}
use Rattle.snd_chunks.specs.Written.{NewChunk, chunks_bytes}
use Rattle.snd_fields.specs.declared.field.Order.TheVariants.{Big}
use Rattle.snd_layout.specs.Params.{Parameters}
use Rattle.snd_svx.specs.Written.{head_size}

-- Whatever chunks take so many bytes, the data of a file begin there.
abbrev pub BeginsWith : ℕ → ℕ → Type 0
BeginsWith bytes n = (p : Parameters) (pieces : List NewChunk) → length (chunks_bytes Big pieces) ≡ bytes → n ≡ head_size p pieces
