-- What holds of the chunks that a walk sees, over every disk, and why a walk stops.
use Rattle.std.specs.Prelude.{◌≡◌, ℕ, ◌+◌, ◌*◌, ◌^◌, ◌<◌, ◌≤◌, Option, None, Some, All, ⊤, nat_le, if◌then◌else◌, List, Result, Ok, Err}
use Rattle.std.specs.Str.{bytes_eq}
use Rattle.snd_disk.specs.State.{Rises, State}
use Rattle.snd_chunks.specs.declared.chunk.Chunk.{Chunk}
use Rattle.snd_chunks.specs.declared.error.WalkError.{WalkError}
use Rattle.snd_chunks.specs.declared.error.WalkError.TheVariants.{Fault, Memory}
use Rattle.snd_chunks.specs.declared.front.Ending.TheVariants.{AtSound}
use Rattle.snd_chunks.specs.declared.front.Front.{Front}
use Rattle.snd_chunks.specs.declared.front.Seen.{Seen}
use Rattle.snd_chunks.specs.declared.front.Seen.TheVariants.{Sound, Whole, Nothing}
use Rattle.snd_chunks.specs.Chunks.{padded_end}

-- a chunk whose head of 8 bytes stands at a place of a file of so many bytes
pub record HasHeadAt (size place : ℕ) (chunk : Chunk) : Type 0 where
  pub at : chunk.at ≡ place + 8
  pub within : chunk.at ≤ size
  pub len : chunk.len < 2 ^ 32
  pub next : chunk.next ≡ padded_end chunk.at chunk.len

-- a chunk ends by a place
abbrev pub EndsBy : ℕ → Chunk → Type 0
EndsBy place chunk = chunk.at + chunk.len ≤ place

-- the size of a chunk has four bytes
abbrev pub IsShort : Chunk → Type 0
IsShort chunk = chunk.len < 2 ^ 32

-- the sound's chunk, to which a walk of at most so many chunks came that began at a place
pub record IsSound (size from most : ℕ) (sound : Chunk) : Type 0 where
  pub within : sound.at ≤ size
  pub behind : from + 8 ≤ sound.at
  pub near : sound.at ≤ from + 8 + most * 2 ^ 33
  pub len : sound.len < 2 ^ 32

-- What holds of a walk up to the sound: its chunks end within the file, and before the head of the sound's chunk, and their sizes
-- have four bytes.
pub record IsFront (size from most : ℕ) (f : Front) : Type 0 where
  pub whole : All (EndsBy size) f.chunks
  pub short : All IsShort f.chunks
  pub before : (sound : Chunk) → f.ending ≡ AtSound sound → All (λ chunk. chunk.at + chunk.len + 8 ≤ sound.at) f.chunks
  pub sound : (sound : Chunk) → f.ending ≡ AtSound sound → IsSound size from most sound

-- A walk stops because a call of the disk failed, or for want of memory.
abbrev pub IsWalkCause : ℕ → ℕ → WalkError → Type 0
IsWalkCause old new (Fault step) = (old ≤ new) × Rises old new
IsWalkCause old new Memory = new ≡ old

-- the count of faults rises where the answer is a fault, and there alone
abbrev pub CountsWalk : {D T : Type 0} → (D → State) → D → D → Result T WalkError → Type 0
CountsWalk state old new (Ok found) = (state new).faults ≡ (state old).faults
CountsWalk state old new (Err error) = IsWalkCause (state old).faults (state new).faults error

-- what a walk up to the sound sees at one place
abbrev pub seen_of : List ℕ → ℕ → Option Chunk → Seen
seen_of sound end None = Nothing
seen_of sound end (Some chunk) = if bytes_eq chunk.id.0 sound then Sound chunk else (if nat_le (chunk.at + chunk.len) end then Whole chunk else Nothing)

abbrev pub IsSeen : ℕ → ℕ → Seen → Type 0
IsSeen size place (Sound chunk) = HasHeadAt size place chunk
IsSeen size place (Whole chunk) = HasHeadAt size place chunk × EndsBy size chunk
IsSeen size place Nothing = ⊤

-- the chunk, where it ends by a place
abbrev pub ended_by : ℕ → Option Chunk → Option Chunk
ended_by end None = None
ended_by end (Some chunk) = if nat_le (chunk.at + chunk.len) end then Some chunk else None
