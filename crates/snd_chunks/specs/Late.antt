-- Late chunks: those that were set after a frame was written, and that stand behind the data, with what closes these, once the
-- file is closed. Chunks may follow the sound's in RIFF ("Multimedia Programming Interface and Data Specifications 1.0", IBM and
-- Microsoft, 1991, chapter 2) and in IFF ("EA IFF 85", Electronic Arts, 1985), and the size of the whole counts them.
use Rattle.std.specs.Prelude.{◌≡◌, ℕ, ◌+◌, ◌-◌, ◌%◌, ◌^◌, ◌<◌, ◌≤◌, true, List, [], ◌∷◌, ◌++◌, Option, None, Some, All, IfSome, Ok, length, map}
use Rattle.snd_disk.specs.Runs.{HasAt}
use Rattle.snd_fields.specs.Field.{bytes_of}
use Rattle.snd_fields.specs.declared.field.Order.{Order}
use Rattle.snd_layout.specs.Blocks.{is_adpcm}
use Rattle.snd_layout.specs.Container.{Container, KeepsHead, closed_end, counted_shape}
use Rattle.snd_layout.specs.Kinds.{order_of}
use Rattle.snd_layout.specs.Params.{Parameters, data_bytes}
use Rattle.snd_layout.specs.Shape.{Shape, room}
use Rattle.snd_layout.specs.declared.field.Field.{Field}
use Rattle.snd_layout.specs.declared.piece.Piece.{Piece}
use Rattle.snd_chunks.specs.declared.chunk.Chunk.{Chunk}
use Rattle.snd_chunks.specs.Heads.{Heads}
use Rattle.snd_chunks.specs.Written.{NewChunk, all_placed, chunks_bytes}

-- the bytes that chunks take, each with its head and its pad
abbrev pub late_bytes : List NewChunk → ℕ
late_bytes [] = 0
late_bytes (chunk ∷ chunks) = 8 + length chunk.body + length chunk.body % 2 + late_bytes chunks

-- what a size of the whole says of a file that ends at a place: all behind its first 8 bytes
abbrev pub size_to : Option Field → Order → ℕ → List ℕ
size_to None order end = []
size_to (Some field) order end = bytes_of order field.size (end - 8)

abbrev pub outer_to : Shape → ℕ → List ℕ
outer_to h end = size_to h.outer (order_of h.kind) end

-- a chunk as a piece that stands behind the data
abbrev pub piece_behind : Chunk → Piece
piece_behind chunk = record { id = chunk.id; at = chunk.at; len = chunk.len; after = true }

-- a layout with chunks that stand from a place on, behind the data
abbrev pub late_from : ℕ → Shape → List NewChunk → Shape
late_from place h [] = h
late_from place h (chunk ∷ chunks) = record h { pieces = h.pieces ++ map piece_behind (all_placed place (chunk ∷ chunks)); trailing = true }

-- The layout of a file that is closed with late chunks: they stand behind the others, from the place behind what closes the data
-- on, and the file goes on behind its data.
abbrev pub late_shape : Container → Shape → List NewChunk → Shape
late_shape c h late = late_from (closed_end c h h.frames) h late

-- Late chunks may be laid behind so many frames of a file that is made with these pieces: each may be a piece, there are at most
-- 240 pieces with them, and with the data they have room in the head.
pub record MayBeLate (may : NewChunk → Type 0) (heads : Heads) (p : Parameters) (pieces : List NewChunk) (frames : ℕ) (late : List NewChunk) : Type 0 where
  pub made : heads.may p pieces
  pub are : All may late
  pub few : length pieces + length late ≤ 240
  pub in_room : data_bytes p frames + late_bytes late ≤ room (heads.shape p pieces)
  pub counted : is_adpcm p.codec ≡ true → frames < 2 ^ 32

-- A file begins with a head, but for the fields, of which the one that decides the count says so many frames; late chunks stand
-- behind what closes their data, and the size of the whole says that it ends behind them. Any bytes may follow.
pub record EndsLate (c : Container) (file : List ℕ) (h : Shape) (frames : ℕ) (late : List NewChunk) (x : List ℕ) : Type 0 where
  pub head : KeepsHead h file x
  pub inner : HasAt x h.inner.at (c.inner h frames)
  pub outer : IfSome h.outer (λ field. HasAt x field.at (outer_to h (closed_end c h frames + late_bytes late)))
  pub behind : HasAt x (closed_end c h frames) (chunks_bytes (order_of h.kind) late)
  pub long : closed_end c h frames + late_bytes late ≤ length x

-- What is closed with late chunks reads back: it has so many frames, and the late chunks behind its pieces.
abbrev pub LateReadsBack : (NewChunk → Type 0) → Container → Heads → Type 0
LateReadsBack may c heads =
    (p : Parameters) (pieces : List NewChunk) (frames : ℕ) (late : List NewChunk) (x : List ℕ) → MayBeLate may heads p pieces frames late →
    EndsLate c (heads.head p pieces) (heads.shape p pieces) frames late x → c.layout x ≡ Ok (late_shape c (counted_shape (heads.shape p pieces) frames) late)
