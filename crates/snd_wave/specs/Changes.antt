-- What changes in the head of a file that is made as a piece is put.
use Rattle.std.specs.Prelude.{◌≡◌, ℕ, ◌+◌, ◌^◌, ◌<◌, ◌≤◌, List, ◌++◌, drop, length, take}
use Rattle.snd_disk.specs.State.{IsMeant, State}
use Rattle.snd_chunks.specs.Written.{NewChunk, chunk_bytes, chunks_bytes}
use Rattle.snd_fields.specs.declared.field.Order.{Order}
use Rattle.snd_layout.specs.declared.piece.Piece.{Piece}
use Rattle.snd_chunks.specs.Heads.{with_piece}
use Rattle.snd_chunks.specs.Replaced.{replaced}
use Rattle.snd_wave.specs.Relaid.{AreStanding, standing}
use Rattle.snd_wave.specs.declared.plan.Plan.{Plan}
use Rattle.snd_wave.specs.declared.rest.Closing.{Closing}

-- What changes among pieces that stand from a place on as one is put: the place of its head; from where on the pieces behind it
-- stand, and their bytes; where they end then, and the pieces.
pub record IsPlan (order : Order) (first : ℕ) (pieces : List NewChunk) (place : ℕ) (piece : NewChunk) (plan : Plan) : Type 0 where
  pub at_head : plan.at ≡ first + length (chunks_bytes order (take place pieces))
  pub from_behind : plan.from ≡ first + length (chunks_bytes order (take (place + 1) pieces))
  pub counted : plan.count ≡ length (chunks_bytes order (drop (place + 1) pieces))
  pub ended : plan.end ≡ first + length (chunks_bytes order (with_piece pieces place piece))
  pub laid_anew : plan.pieces ≡ standing first (with_piece pieces place piece)

-- .. in either byte order
abbrev pub Plans : ℕ → List Piece → ℕ → NewChunk → Plan → Type 0
Plans first old place piece plan = (order : Order) (pieces : List NewChunk) → AreStanding first old pieces → IsPlan order first pieces place piece plan

-- what stands from the piece on then, of a file b
abbrev pub rest_from : Plan → Closing → NewChunk → List ℕ → List ℕ
rest_from plan closing piece b = chunk_bytes closing.order piece ++ take plan.count (drop plan.from b) ++ closing.bytes.items

-- b as it is changed
abbrev pub changed : Plan → Closing → NewChunk → List ℕ → List ℕ
changed plan closing piece b = replaced plan.at (rest_from plan closing piece b) closing.size_at closing.size.items b

abbrev pub IsChanged : Plan → Closing → NewChunk → State → State → Type 0
IsChanged plan closing piece old new = IsMeant (plan.end + length closing.bytes.items) (changed plan closing piece) old new

-- what is to be changed stands on a disk of so many bytes
pub record CanChange (plan : Plan) (closing : Closing) (piece : NewChunk) (size : ℕ) : Type 0 where
  pub at_there : plan.at ≤ size
  pub early : closing.size_at + length closing.size.items ≤ plan.at
  pub behind : plan.from + plan.count ≤ size
  pub whole : plan.end ≡ plan.at + length (chunk_bytes closing.order piece) + plan.count
  pub few : plan.end + length closing.bytes.items < 2 ^ 24
