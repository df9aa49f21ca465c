-- Chunks that lie one behind the other, as in RIFF ("Multimedia Programming Interface and Data
-- Specifications 1.0", IBM and Microsoft, 1991) and IFF ("EA IFF 85", Electronic Arts, 1985).
use Rattle.std.specs.Prelude.{ℕ, zero, suc, ◌+◌, ◌%◌, List, [], ◌∷◌, Option, None, Some, length, take, drop, nat_le, if◌then◌else◌}
use Rattle.std.specs.Str.{bytes_eq}
use Rattle.snd_fields.specs.declared.field.Order.{Order}
use Rattle.snd_fields.specs.Field.{number}
use Rattle.snd_chunks.specs.declared.chunk.Chunk.{Chunk}
use Rattle.snd_chunks.specs.declared.front.Ending.TheVariants.{AtSound, Cut, TooMany}
use Rattle.snd_chunks.specs.declared.front.Front.{Front}

-- the place behind a body, where one byte pads an odd one
abbrev pub padded_end : ℕ → ℕ → ℕ
padded_end at len = at + len + len % 2

-- A chunk of RIFF, whose sizes have the lowest byte first, or of IFF, whose sizes have the highest first: four bytes of
-- identifier, four of size, and the body. Its head of 8 bytes lies in the file.
abbrev pub chunk_at : Order → List ℕ → ℕ → Option Chunk
chunk_at order b p =
    if nat_le (p + 8) (length b)
    then Some (record { id = record { 0 = take 4 (drop p b) }; at = p + 8; len = number order b (p + 4) 4; next = padded_end (p + 8) (number order b (p + 4) 4) })
    else None

-- a chunk and, behind it, what a walk saw from its end on
abbrev pub behind : Chunk → Front → Front
behind chunk front = record { chunks = chunk ∷ front.chunks; ending = front.ending }

-- The walk up to the sound: the chunks from a place on, each of which ends by the end of the file, up to the one with the
-- sound's identifier, which is seen whatever its size. n chunks before it are too many. What a chunk at a place is, is given
-- by a function, so that one walk serves every way to lay chunks.
abbrev pub front_from : List ℕ → ℕ → Option Chunk → (ℕ → Front) → Front
front_from sound end None rest = record { chunks = []; ending = Cut }
front_from sound end (Some chunk) rest =
    if bytes_eq chunk.id.0 sound then record { chunks = []; ending = AtSound chunk }
    else (if nat_le (chunk.at + chunk.len) end then behind chunk (rest chunk.next) else record { chunks = []; ending = Cut })

unfoldable pub front : (ℕ → Option Chunk) → List ℕ → ℕ → ℕ → ℕ → Front
front chunk_of sound end zero place = record { chunks = []; ending = TooMany }
front chunk_of sound end (suc n) place = front_from sound end (chunk_of place) (front chunk_of sound end n)

-- The walk behind the sound: at most n chunks from a place on, up to the first that does not end by the end.
abbrev pub tail_from : ℕ → Option Chunk → (ℕ → List Chunk) → List Chunk
tail_from end None rest = []
tail_from end (Some chunk) rest = if nat_le (chunk.at + chunk.len) end then chunk ∷ rest chunk.next else []

unfoldable pub tail : (ℕ → Option Chunk) → ℕ → ℕ → ℕ → List Chunk
tail chunk_of end zero place = []
tail chunk_of end (suc n) place = tail_from end (chunk_of place) (tail chunk_of end n)
