-- A WAVE file as it is made, after "Multimedia Programming Interface and Data Specifications 1.0" (IBM and Microsoft, 1991),
-- chapters 2 and 3: `RIFF`, the size of all that follows, `WAVE`, and chunks, among them `fmt ` and at last `data`. A `fact`
-- chunk with the count of the frames stands before the data of all codecs but linear ones, after "New Multimedia Data Types
-- and Data Techniques" 3.0 (Microsoft, 1994). A chunk `JUNK` at place 12 is reserved for 64-bit sizes, after EBU Tech 3306 (2009);
-- a head has one, or none. The order of the other chunks and the filler are this library's own rules.
use Rattle.std.specs.Prelude.{◌≡◌, ℕ, ◌+◌, ◌-◌, ◌^◌, ◌<◌, ◌≤◌, Bool, true, false, not, ◌&&◌, List, [], ◌∷◌, ◌++◌, All, Option, None, Some, Ok, ⊤, codes, drop, length, map, replicate, take, if◌then◌else◌}
use Rattle.snd_chunks.specs.Chunks.{padded_end}
use Rattle.snd_chunks.specs.Heads.{chunk_read}
use Rattle.snd_chunks.specs.Written.{NewChunk, all_placed, chunks_bytes, head_bytes, pad, placed}
use Rattle.snd_fields.specs.Field.{bytes_of}
use Rattle.snd_fields.specs.declared.field.Order.TheVariants.{Little}
use Rattle.snd_layout.specs.Blocks.{is_adpcm}
use Rattle.snd_layout.specs.Fit.{fit_refusal}
use Rattle.snd_layout.specs.Params.{AreParams, Parameters, data_bytes}
use Rattle.snd_layout.specs.Sector.{is_in_one_sector}
use Rattle.snd_layout.specs.Shape.{Shape}
use Rattle.snd_layout.specs.Written.{written_format}
use Rattle.snd_layout.specs.declared.codec.Codec.{Codec}
use Rattle.snd_layout.specs.declared.codec.Codec.TheVariants.{MuLaw, ALaw, Ima, Ms}
use Rattle.snd_layout.specs.declared.field.Field.{Field}
use Rattle.snd_layout.specs.declared.kind.Kind.TheVariants.{Wave}
use Rattle.snd_layout.specs.declared.piece.Piece.{Piece}
use Rattle.snd_wave.specs.Layout.{is_own, piece_of, wave_layout}
use Rattle.snd_wave.specs.Values.{riff_size}

-- the codecs with a `fact`
abbrev pub has_fact : Codec → Bool
has_fact MuLaw = true
has_fact ALaw = true
has_fact codec = is_adpcm codec

-- the bytes of the field that decides the count: in ADPCM all from the count of the `fact` to the data size
abbrev pub inner_size : Codec → ℕ
inner_size codec = if is_adpcm codec then 12 else 4

-- the format
abbrev pub new_format : Parameters → NewChunk
new_format p = record { id = codes "fmt "; body = written_format p }

-- the count of so many frames, where there is one
abbrev pub new_fact : Codec → ℕ → List NewChunk
new_fact codec frames = if has_fact codec then (record { id = codes "fact"; body = bytes_of Little 4 frames }) ∷ [] else []

-- the chunk `JUNK` of eight bytes, which moves what stands behind it by 16
abbrev pub junk : NewChunk
junk = record { id = codes "JUNK"; body = replicate 8 0 }

-- what stands before the format: nothing, or a reserved chunk of so many zeros
abbrev pub lead_of : Option ℕ → List NewChunk
lead_of None = []
lead_of (Some len) = (record { id = codes "JUNK"; body = replicate len 0 }) ∷ []

-- the place of the format's head, and that behind the format, where the pieces stand
abbrev pub lead_end : Option ℕ → ℕ
lead_end None = 12
lead_end (Some len) = padded_end 20 len

abbrev pub reserved_first : Option ℕ → Parameters → ℕ
reserved_first r p = padded_end (lead_end r + 8) (length (written_format p))

-- The filler stands where without it the field that decides the count would not lie in one sector.
unfoldable pub reserved_start : Option ℕ → Parameters → List NewChunk → ℕ
reserved_start r p pieces = 20 + length (chunks_bytes Little (lead_of r ++ new_format p ∷ pieces)) + length (chunks_bytes Little (new_fact p.codec 0))

abbrev pub reserved_filler : Option ℕ → Parameters → List NewChunk → List NewChunk
reserved_filler r p pieces = if is_in_one_sector (reserved_start r p pieces - inner_size p.codec) (inner_size p.codec) then [] else junk ∷ []

-- the chunks before the data
unfoldable pub reserved_chunks : Option ℕ → Parameters → List NewChunk → ℕ → List NewChunk
reserved_chunks r p pieces frames = lead_of r ++ new_format p ∷ (pieces ++ (reserved_filler r p pieces ++ new_fact p.codec frames))

-- where the data begin
unfoldable pub reserved_size : Option ℕ → Parameters → List NewChunk → ℕ
reserved_size r p pieces = 20 + length (chunks_bytes Little (reserved_chunks r p pieces 0))

-- .. of a head without a reservation
abbrev pub start_without_filler : Parameters → List NewChunk → ℕ
start_without_filler p pieces = reserved_start None p pieces

abbrev pub filler : Parameters → List NewChunk → List NewChunk
filler p pieces = reserved_filler None p pieces

abbrev pub chunks_before : Parameters → List NewChunk → ℕ → List NewChunk
chunks_before p pieces frames = reserved_chunks None p pieces frames

abbrev pub head_size : Parameters → List NewChunk → ℕ
head_size p pieces = reserved_size None p pieces

-- the first 12 bytes, with the size of the whole
unfoldable pub riff_head : ℕ → List ℕ
riff_head size = codes "RIFF" ++ bytes_of Little 4 size ++ codes "WAVE"

-- the head of a file with so many frames, and that of one with none
unfoldable pub reserved_head : Option ℕ → Parameters → List NewChunk → ℕ → List ℕ
reserved_head r p pieces frames =
    riff_head (riff_size (reserved_size r p pieces) (data_bytes p frames)) ++ chunks_bytes Little (reserved_chunks r p pieces frames)
    ++ head_bytes Little (codes "data") (data_bytes p frames)

abbrev pub head_for : Parameters → List NewChunk → ℕ → List ℕ
head_for p pieces frames = reserved_head None p pieces frames

abbrev pub wave_head : Parameters → List NewChunk → List ℕ
wave_head p pieces = head_for p pieces 0

-- a file with so many frames, which are coded as these data, and the pad behind them
unfoldable pub reserved_made : Option ℕ → Parameters → List NewChunk → ℕ → List ℕ → List ℕ
reserved_made r p pieces frames bytes = reserved_head r p pieces frames ++ bytes ++ pad (data_bytes p frames)

abbrev pub wave_made : Parameters → List NewChunk → ℕ → List ℕ → List ℕ
wave_made p pieces frames bytes = reserved_made None p pieces frames bytes

-- the pieces of a file that is made, which stand behind the format
unfoldable pub reserved_pieces : Option ℕ → Parameters → List NewChunk → List Piece
reserved_pieces r p pieces = map (piece_of false) (all_placed (reserved_first r p) pieces)

abbrev pub made_pieces : Parameters → List NewChunk → List Piece
made_pieces p pieces = reserved_pieces None p pieces

-- the field that decides the count, and the count that is not read, of data that begin at a place
abbrev pub inner_at : Codec → ℕ → Field
inner_at codec start = record { at = start - inner_size codec; size = inner_size codec }

abbrev pub side_at : Codec → ℕ → Option Field
side_at codec start = if has_fact codec && not (is_adpcm codec) then Some (record { at = start - 12; size = 4 }) else None

-- what a file says of itself that is made
unfoldable pub reserved_shape : Option ℕ → Parameters → List NewChunk → ℕ → Shape
reserved_shape r p pieces frames = record {
  kind = Wave;
  params = p;
  start = reserved_size r p pieces;
  frames = frames;
  declared = data_bytes p frames;
  inner = inner_at p.codec (reserved_size r p pieces);
  outer = Some (record { at = 4; size = 4 });
  side = side_at p.codec (reserved_size r p pieces);
  trailing = false;
  unknown_length = false;
  reserve = r;
  pieces = reserved_pieces r p pieces;
}

abbrev pub made_shape : Parameters → List NewChunk → ℕ → Shape
made_shape p pieces frames = reserved_shape None p pieces frames

-- a chunk that a file may keep beside its sound
pub record MayBePiece (piece : NewChunk) : Type 0 where
  pub four : length piece.id ≡ 4
  pub other : is_own (placed piece.id 0 0) ≡ false
  pub few : length piece.body ≤ 65536

-- a reservation that is made: none, or one of 28 bytes where the samples have a fixed size
abbrev pub MayReserve : Option ℕ → Codec → Type 0
MayReserve None codec = ⊤
MayReserve (Some len) codec = (len ≡ 28) × (is_adpcm codec ≡ false)

-- what may be made: a WAVE file holds the parameters; there are at most 240 pieces; the data have room in the head, and a
-- `fact` that is read has room for the count
pub record MayBeReserved (r : Option ℕ) (p : Parameters) (pieces : List NewChunk) (frames : ℕ) : Type 0 where
  pub params : AreParams p
  pub fits : fit_refusal Wave p ≡ None
  pub pieces_are : All MayBePiece pieces
  pub few : length pieces ≤ 240
  pub in_room : data_bytes p frames ≤ 2 ^ 32 + 6 - reserved_size r p pieces
  pub counted : is_adpcm p.codec ≡ true → frames < 2 ^ 32
  pub reserved : MayReserve r p.codec

abbrev pub MayBeMade : Parameters → List NewChunk → ℕ → Type 0
MayBeMade p pieces frames = MayBeReserved None p pieces frames

-- What is made reads back, with a reservation and without.
abbrev pub ReservedReadsBack : Type 0
ReservedReadsBack = (r : Option ℕ) (p : Parameters) (pieces : List NewChunk) (frames : ℕ) (bytes : List ℕ) → MayBeReserved r p pieces frames → length bytes ≡ data_bytes p frames →
    wave_layout (reserved_made r p pieces frames bytes) ≡ Ok (reserved_shape r p pieces frames)

abbrev pub MadeReadsBack : Type 0
MadeReadsBack = (p : Parameters) (pieces : List NewChunk) (frames : ℕ) (bytes : List ℕ) → MayBeMade p pieces frames → length bytes ≡ data_bytes p frames →
    wave_layout (wave_made p pieces frames bytes) ≡ Ok (made_shape p pieces frames)

-- and so does a head alone
abbrev pub ReservedHeadReadsBack : Type 0
ReservedHeadReadsBack = (r : Option ℕ) (p : Parameters) (pieces : List NewChunk) → MayBeReserved r p pieces 0 → wave_layout (reserved_head r p pieces 0) ≡ Ok (reserved_shape r p pieces 0)

abbrev pub HeadReadsBack : Type 0
HeadReadsBack = (p : Parameters) (pieces : List NewChunk) → MayBeMade p pieces 0 → wave_layout (wave_head p pieces) ≡ Ok (made_shape p pieces 0)

-- what is made holds its pieces and its data
abbrev pub ReservedHoldsAll : Type 0
ReservedHoldsAll = (r : Option ℕ) (p : Parameters) (pieces : List NewChunk) (frames : ℕ) (bytes : List ℕ) → MayBeReserved r p pieces frames → length bytes ≡ data_bytes p frames →
    (map (chunk_read (reserved_made r p pieces frames bytes)) (reserved_pieces r p pieces) ≡ pieces)
    × (take (data_bytes p frames) (drop (reserved_size r p pieces) (reserved_made r p pieces frames bytes)) ≡ bytes)

abbrev pub MadeHoldsAll : Type 0
MadeHoldsAll = (p : Parameters) (pieces : List NewChunk) (frames : ℕ) (bytes : List ℕ) → MayBeMade p pieces frames → length bytes ≡ data_bytes p frames →
    (map (chunk_read (wave_made p pieces frames bytes)) (made_pieces p pieces) ≡ pieces)
    × (take (data_bytes p frames) (drop (head_size p pieces) (wave_made p pieces frames bytes)) ≡ bytes)

-- its data begin behind its head
abbrev pub ReservedHeadHasItsSize : Type 0
ReservedHeadHasItsSize = (r : Option ℕ) (p : Parameters) (pieces : List NewChunk) (frames : ℕ) → length (reserved_head r p pieces frames) ≡ reserved_size r p pieces

abbrev pub HeadHasItsSize : Type 0
HeadHasItsSize = (p : Parameters) (pieces : List NewChunk) (frames : ℕ) → length (head_for p pieces frames) ≡ head_size p pieces

-- the field that decides the count lies in one sector
abbrev pub ReservedInOneSector : Type 0
ReservedInOneSector = (r : Option ℕ) (p : Parameters) (pieces : List NewChunk) → is_in_one_sector (reserved_size r p pieces - inner_size p.codec) (inner_size p.codec) ≡ true

abbrev pub MadeInOneSector : Type 0
MadeInOneSector = (p : Parameters) (pieces : List NewChunk) → MayBeMade p pieces 0 →
    is_in_one_sector (head_size p pieces - inner_size p.codec) (inner_size p.codec) ≡ true

-- where the data begin in a file without pieces
abbrev pub plain_start : Codec → ℕ
plain_start MuLaw = 58
plain_start ALaw = 58
plain_start (Ima align per_block) = 60
plain_start (Ms align per_block) = 90
plain_start codec = 44
