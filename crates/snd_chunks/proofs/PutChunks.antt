-- Chunks that are put together.
use Rattle.std.proofs.Common.{◌≡◌, ℕ, List, ◌++◌, length, append_assoc}
use Rattle.snd_chunks.specs.Written.{chunk_bytes, head_bytes, pad}
use Rattle.snd_fields.specs.Field.{bytes_of}
use Rattle.snd_fields.specs.declared.field.Order.TheVariants.{Little}

-- a chunk that is put together
pub chunk_put : (old id body first second third fourth : List ℕ) → first ≡ old ++ id → second ≡ first ++ bytes_of Little 4 (length body) → third ≡ second ++ body → fourth ≡ third ++ pad (length body)
    → fourth ≡ old ++ chunk_bytes Little (record { id = id; body = body })
unfolding chunk_bytes head_bytes
chunk_put old id body first second third fourth one two three four = rw (four, three, two, one) (simp append_assoc)
