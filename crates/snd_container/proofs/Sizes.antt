-- The bytes of one chunk more.
use Rattle.std.proofs.Common.{◌≡◌, ℕ, [], ◌∷◌, length, refl, arith}
use Rattle.snd_chunks.proofs.Public.{length-chunk_bytes, length-chunks_bytes}
use Rattle.snd_chunks.specs.Written.{chunks_bytes}
use Rattle.snd_fields.specs.declared.field.Order.{Order}
use Rattle.snd_wave.proofs.Public.{length-joined}
use Rattle.snd_container.specs.Room.{AddsBytes, chunk_size}

no_bytes : (order : Order) → length (chunks_bytes order []) ≡ 0
unfolding chunks_bytes
no_bytes order = refl

pub adds_bytes : (len n : ℕ) → n ≡ chunk_size len → AddsBytes len n
adds_bytes len n is order pieces piece four long =
    omega (arith, is, long, length-joined order pieces (piece ∷ []), length-chunks_bytes order piece [], no_bytes order, length-chunk_bytes order piece 0 four)
