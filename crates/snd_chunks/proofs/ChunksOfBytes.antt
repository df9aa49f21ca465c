-- Chunks of bytes are written as bytes.
use Rattle.std.proofs.Common.{ℕ, ◌%◌, List, [], ◌∷◌, ◌++◌, All, length, arith}
use Rattle.std.proofs.lemmas.List.Elements.{All-append, All-head, All-nil, All-replicate, All-tail}
use Rattle.snd_chunks.specs.HeadLaws.{IsOfBytes}
use Rattle.snd_chunks.specs.Written.{NewChunk, chunk_bytes, chunks_bytes, head_bytes, pad}
use Rattle.snd_fields.proofs.Numbers.{bytes_are_bytes}
use Rattle.snd_fields.specs.Field.{bytes_of}
use Rattle.snd_fields.specs.Laws.{IsByte}
use Rattle.snd_fields.specs.declared.field.Order.{Order}

pub number_bytes : (order : Order) (k n : ℕ) → All IsByte (bytes_of order k n)
number_bytes order k n = (bytes_are_bytes order k n).1

pub both : (xs ys : List ℕ) → All IsByte xs → All IsByte ys → All IsByte (xs ++ ys)
both xs ys one two = All-append IsByte xs ys one two

pub three : (xs ys zs : List ℕ) → All IsByte xs → All IsByte ys → All IsByte zs → All IsByte (xs ++ ys ++ zs)
three xs ys zs one two more = both (xs ++ ys) zs (both xs ys one two) more

one_chunk : (order : Order) (chunk : NewChunk) → IsOfBytes chunk → All IsByte (chunk_bytes order chunk)
unfolding chunk_bytes head_bytes
one_chunk order chunk is =
    three (chunk.id ++ bytes_of order 4 (length chunk.body)) chunk.body (pad (length chunk.body))
    (both chunk.id (bytes_of order 4 (length chunk.body)) is.0 (number_bytes order 4 (length chunk.body))) is.1 (All-replicate IsByte (length chunk.body % 2) 0 (omega arith))

pub all_chunks : (order : Order) (chunks : List NewChunk) → All IsOfBytes chunks → All IsByte (chunks_bytes order chunks)
unfolding chunks_bytes
all_chunks order [] are = All-nil IsByte
all_chunks order (chunk ∷ chunks) are =
    both (chunk_bytes order chunk) (chunks_bytes order chunks) (one_chunk order chunk (All-head IsOfBytes chunk chunks are)) (all_chunks order chunks (All-tail IsOfBytes chunk chunks are))
