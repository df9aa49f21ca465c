-- How chunks are written, one behind the other: in RIFF ("Multimedia Programming Interface and Data Specifications 1.0", IBM
-- and Microsoft, 1991, chapter 2) with the lowest byte of a size first, in IFF ("EA IFF 85", Electronic Arts, 1985) with the
-- highest first.
use Rattle.std.specs.Prelude.{ℕ, ◌+◌, ◌%◌, List, [], ◌∷◌, ◌++◌, length, replicate}
use Rattle.snd_fields.specs.declared.field.Order.{Order}
use Rattle.snd_fields.specs.Field.{bytes_of}
use Rattle.snd_chunks.specs.declared.chunk.Chunk.{Chunk}
use Rattle.snd_chunks.specs.Chunks.{padded_end}

-- a chunk that is to be written: an identifier of four bytes, and the body
pub record NewChunk : Type 0 where
  pub id : List ℕ
  pub body : List ℕ

-- the byte of zero behind an odd number of bytes
abbrev pub pad : ℕ → List ℕ
pad len = replicate (len % 2) 0

-- the head of a chunk: its identifier, and the size of its body in four bytes
unfoldable pub head_bytes : Order → List ℕ → ℕ → List ℕ
head_bytes order id len = id ++ bytes_of order 4 len

-- a chunk: its head, its body, and the pad
unfoldable pub chunk_bytes : Order → NewChunk → List ℕ
chunk_bytes order chunk = head_bytes order chunk.id (length chunk.body) ++ chunk.body ++ pad (length chunk.body)

unfoldable pub chunks_bytes : Order → List NewChunk → List ℕ
chunks_bytes order [] = []
chunks_bytes order (chunk ∷ chunks) = chunk_bytes order chunk ++ chunks_bytes order chunks

-- a chunk whose head stands at a place
abbrev pub placed : List ℕ → ℕ → ℕ → Chunk
placed id place len = record { id = record { 0 = id }; at = place + 8; len = len; next = padded_end (place + 8) len }

-- and chunks from a place on
unfoldable pub all_placed : ℕ → List NewChunk → List Chunk
all_placed place [] = []
all_placed place (chunk ∷ chunks) = placed chunk.id place (length chunk.body) ∷ all_placed (padded_end (place + 8) (length chunk.body)) chunks
