-- The room of the head of a file that is to be made, by the bytes that its further chunks take.
use Rattle.std.specs.Prelude.{◌≡◌, ℕ, ◌+◌, ◌%◌, List, [], ◌∷◌, ◌++◌, length}
use Rattle.snd_chunks.specs.Written.{NewChunk, chunks_bytes}
use Rattle.snd_container.specs.Put.{heads_of}
use Rattle.snd_fields.specs.declared.field.Order.{Order}
use Rattle.snd_layout.specs.Kinds.{order_of}
use Rattle.snd_layout.specs.Params.{Parameters}
use Rattle.snd_layout.specs.Shape.{room}
use Rattle.snd_layout.specs.declared.kind.Kind.{Kind}

-- chunks take so many bytes in a file of a kind
abbrev pub Take : Kind → ℕ → List NewChunk → Type 0
Take kind bytes pieces = length (chunks_bytes (order_of kind) pieces) ≡ bytes

-- Whatever chunks take so many bytes, the head of a file that is made with them has this room.
abbrev pub HasRoom : Kind → Parameters → ℕ → ℕ → Type 0
HasRoom kind p bytes n = (pieces : List NewChunk) → Take kind bytes pieces → n ≡ room ((heads_of kind).shape p pieces)

-- ---- a chunk more

-- the bytes of a chunk: its head, its body, and the pad of an odd one
abbrev pub chunk_size : ℕ → ℕ
chunk_size len = 8 + len + len % 2

-- A chunk with a body of so many bytes, put behind any others, takes this many.
abbrev pub AddsBytes : ℕ → ℕ → Type 0
AddsBytes len n = (order : Order) (pieces : List NewChunk) (piece : NewChunk) → length piece.id ≡ 4 → length piece.body ≡ len →
    length (chunks_bytes order (pieces ++ piece ∷ [])) ≡ length (chunks_bytes order pieces) + n
