-- A list of chunks that are to be put, as the code has it.
use Rattle.std.specs.Prelude.{◌≡◌, ℕ, ◌+◌, ◌≤◌, Bool, true, false, List, [], ◌∷◌, ◌++◌, All, None, Some, Vec, codes, drop, length, map, slice_get, take}
use Rattle.std.specs.List.{sum_by}
use Rattle.std.specs.declared.alloc.Global.{Global}
use Rattle.std.specs.Str.{bytes_eq}
use Rattle.snd_carry.specs.Carried.{body_bytes, is_carried}
use Rattle.snd_chunks.specs.Written.{NewChunk}
use Rattle.snd_fields.specs.Laws.{IsByte}
use Rattle.snd_layout.specs.Blocks.{is_adpcm}
use Rattle.snd_layout.specs.Fit.{fit_refusal}
use Rattle.snd_layout.specs.Shape.{Shape}
use Rattle.snd_layout.specs.declared.piece.Piece.{Piece}
use Rattle.snd_layout.specs.Kinds.{holds_meta, is_wave_own}
use Rattle.snd_chunks.specs.Heads.{outline, chunk_read, new_piece}
use Rattle.snd_container.specs.Room.{chunk_size}
use Rattle.snd_metadata.specs.declared.chunks.PlannedChunk.{PlannedChunk}
use Rattle.snd_metadata.specs.declared.chunks.PlannedChunk.TheVariants.{Given, Kept}
use Rattle.snd_metadata.specs.Chunks.{kept_chunks, with_extension}
use Rattle.snd_metadata.specs.Retagged.{is_full_with}

-- a chunk of the list, with the body that it has in a file
abbrev pub chunk_planned : List ℕ → PlannedChunk → NewChunk
chunk_planned b (Kept place piece) = chunk_read b piece
chunk_planned b (Given id body) = new_piece id.0 body.items

-- .. and what is known of it over every disk: its identifier and its length
abbrev pub outline_planned : PlannedChunk → NewChunk
outline_planned (Kept place piece) = outline piece
outline_planned (Given id body) = new_piece id.0 body.items

abbrev pub names_extension : PlannedChunk → Bool
names_extension (Kept place piece) = bytes_eq piece.id.0 (codes "bext")
names_extension (Given id body) = bytes_eq id.0 (codes "bext")

-- it may be put: it is one of the input that is carried, or is small and none of a file's own
abbrev pub MayStand : List Piece → PlannedChunk → Type 0
MayStand pieces (Kept place piece) = (slice_get pieces place ≡ Some piece) × (is_carried piece ≡ true) × (length piece.id.0 ≡ 4) × All IsByte piece.id.0
MayStand pieces (Given id body) = (is_wave_own id.0 ≡ false) × (length id.0 ≡ 4) × (length body.items ≤ 65536) × All IsByte id.0 × All IsByte body.items

-- ---- how it comes about

-- it has the chunks of the input that are kept
abbrev pub KeepsChunks : List Piece → Vec PlannedChunk Global → Type 0
KeepsChunks pieces plan = (b : List ℕ) → map (chunk_planned b) plan.items ≡ kept_chunks b pieces

-- a list with one in the place of another, or behind them all
abbrev pub put_in : {A : Type 0} → ℕ → A → List A → List A
put_in at x xs = take at xs ++ x ∷ drop (at + 1) xs

-- a broadcast extension of this body was put among the chunks, where it is changed
abbrev pub PutsExtension : Bool → List ℕ → List PlannedChunk → List PlannedChunk → Type 0
PutsExtension changed body old new = (b : List ℕ) → map (chunk_planned b) new ≡ with_extension changed body (map (chunk_planned b) old)

-- all may be put still
abbrev pub StandStill : List PlannedChunk → List PlannedChunk → Type 0
StandStill old new = (pieces : List Piece) → All (MayStand pieces) old → All (MayStand pieces) new

-- the bytes that are read of the input for a chunk, and for all
abbrev pub bytes_read : PlannedChunk → ℕ
bytes_read (Kept place piece) = piece.len
bytes_read (Given id body) = 0

abbrev pub bytes_planned : List PlannedChunk → ℕ
bytes_planned plan = sum_by bytes_read plan

-- all of them may be put, and no chunk of the input is read twice for them
pub record IsPlan (pieces : List Piece) (plan : List PlannedChunk) : Type 0 where
  pub few : length plan ≤ 240
  pub each : All (MayStand pieces) plan
  pub once : bytes_planned plan ≤ body_bytes pieces

-- ---- what is done with it

-- the bytes that it takes in a head, and those of all
abbrev pub IsSmall : PlannedChunk → Type 0
IsSmall chunk = length (outline_planned chunk).body ≤ 65536

abbrev pub size_planned : PlannedChunk → ℕ
size_planned chunk = chunk_size (length (outline_planned chunk).body)

abbrev pub sizes_planned : List PlannedChunk → ℕ
sizes_planned [] = 0
sizes_planned (chunk ∷ chunks) = size_planned chunk + sizes_planned chunks

-- the plan of a file that is read: its kind holds such chunks and its parameters, it is not of ADPCM, and the head has room for the
-- data
pub record IsReady (h : Shape) (plan : List PlannedChunk) : Type 0 where
  pub meta : holds_meta h.kind ≡ true
  pub linear : is_adpcm h.params.codec ≡ false
  pub fits : fit_refusal h.kind h.params ≡ None
  pub plan_is : IsPlan h.pieces plan
  pub room_is : is_full_with h (map outline_planned plan) ≡ false
