-- The parts of a Wave64 file from which its layout is made, and what holds of them over every disk.
use Rattle.std.specs.Prelude.{◌≡◌, ℕ, ◌+◌, ◌^◌, ◌<◌, ◌≤◌, List, All, Option, None, Some, IfSome, ⊤, Result, Ok, Err, option_map, length, codes, nat_le, if◌then◌else◌}
use Rattle.std.specs.Str.{bytes_eq}
use Rattle.snd_chunks.specs.declared.chunk.Chunk.{Chunk}
use Rattle.snd_chunks.specs.declared.front.Ending.TheVariants.{AtSound}
use Rattle.snd_chunks.specs.declared.front.Front.{Front}
use Rattle.snd_chunks.specs.declared.parts.Parts.{Parts}
use Rattle.snd_chunks.specs.Parts.{IsFact, body_of, fact_count, reached}
use Rattle.snd_chunks.specs.Walks.{EndsBy}
use Rattle.snd_layout.specs.Format.{format_of}
use Rattle.snd_layout.specs.Opened.{EndsIn}
use Rattle.snd_layout.specs.Params.{Parameters}
use Rattle.snd_layout.specs.Shape.{Shape, end, room}
use Rattle.snd_layout.specs.declared.refusal.OpenRefusal.{OpenRefusal}
use Rattle.snd_w64.specs.declared.seen.Seen.{Seen}
use Rattle.snd_w64.specs.declared.seen.Seen.TheVariants.{Sound, Whole, Nothing}
use Rattle.snd_w64.specs.Layout.{raised, shape_of, whole_size}

-- a chunk whose head of 24 bytes stands at a place of a file of so many bytes
pub record HasHeadAt (size place : ℕ) (chunk : Chunk) : Type 0 where
  pub at : chunk.at ≡ place + 24
  pub within : chunk.at ≤ reached size
  pub len : chunk.len < 2 ^ 63
  pub next : chunk.next ≡ raised (chunk.at + chunk.len)

-- the sound's chunk
pub record IsSound (size : ℕ) (sound : Chunk) : Type 0 where
  pub within : sound.at ≤ reached size
  pub behind : 64 ≤ sound.at
  pub len : sound.len < 2 ^ 63

-- What holds of a walk up to the sound: its chunks end within the file, and before the head of the sound's chunk.
pub record IsFront (size : ℕ) (f : Front) : Type 0 where
  pub whole : All (EndsBy size) f.chunks
  pub before : (sound : Chunk) → f.ending ≡ AtSound sound → All (λ chunk. chunk.at + chunk.len + 24 ≤ sound.at) f.chunks
  pub sound : (sound : Chunk) → f.ending ≡ AtSound sound → IsSound size sound

-- what a walk up to the sound sees at one place
abbrev pub seen_of : ℕ → Option Chunk → Seen
seen_of end None = Nothing
seen_of end (Some chunk) = if bytes_eq chunk.id.0 (codes "data") then Sound chunk else (if nat_le (chunk.at + chunk.len) end then Whole chunk else Nothing)

abbrev pub IsSeen : ℕ → ℕ → Seen → Type 0
IsSeen size place (Sound chunk) = HasHeadAt size place chunk
IsSeen size place (Whole chunk) = HasHeadAt size place chunk × EndsBy size chunk
IsSeen size place Nothing = ⊤

-- where the parts lie in a file of so many bytes
pub record ArePlaced (size : ℕ) (parts : Parts) : Type 0 where
  pub format : EndsBy size parts.format
  pub long : 16 ≤ parts.format.len
  pub fact : IfSome parts.fact (IsFact 8 24 parts.sound)
  pub sound : IsSound size parts.sound

-- the layout with these parts, where the format is not refused
abbrev pub with_params : List ℕ → Parts → Result Parameters OpenRefusal → Result Shape OpenRefusal
with_params b parts (Err refusal) = Err refusal
with_params b parts (Ok p) = Ok (shape_of p parts.fact parts.sound (option_map (fact_count 8 b) parts.fact) (length b) (whole_size b))

-- the layout with these parts, or why their format is refused
abbrev pub layout_with : List ℕ → Parts → Result Shape OpenRefusal
layout_with b parts = with_params b parts (format_of (body_of b parts.format))

-- the data end within a file of so many bytes, and data for which the head has room end on a disk
pub record IsHeld (size : ℕ) (layout : Shape) : Type 0 where
  pub sound : end layout layout.frames ≤ size
  pub room_ends : layout.start + room layout + 8 ≤ 2 ^ 63
  pub pieces : All (EndsIn size) layout.pieces
