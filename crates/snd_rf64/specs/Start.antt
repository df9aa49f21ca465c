-- Where the data begin in an RF64 file that is made, by the bytes that its further chunks take.
use Rattle.std.specs.Prelude.{◌≡◌, ℕ, List, None, length}
use Rattle.snd_chunks.specs.Written.{NewChunk, chunks_bytes}
use Rattle.snd_fields.specs.declared.field.Order.TheVariants.{Little}
use Rattle.snd_layout.specs.Fit.{fit_refusal}
use Rattle.snd_layout.specs.Params.{Parameters}
use Rattle.snd_layout.specs.declared.codec.Codec.{Codec}
use Rattle.snd_layout.specs.declared.kind.Kind.TheVariants.{Rf64}
use Rattle.snd_rf64.specs.Written.{head_size}

-- Whatever chunks take so many bytes, the data of a file with this codec begin there.
abbrev pub BeginsWith : Codec → ℕ → ℕ → Type 0
BeginsWith codec bytes n = (p : Parameters) (pieces : List NewChunk) → fit_refusal Rf64 p ≡ None → p.codec ≡ codec → length (chunks_bytes Little pieces) ≡ bytes → n ≡ head_size p pieces
