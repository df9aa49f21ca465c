-- Sound files that are made of numbers, one for each channel of a frame, in turn: their bytes, and the states on the way there.
use Rattle.std.specs.Prelude.{◌≡◌, ℕ, ℤ, ◌/◌, ◌%◌, ◌≤◌, true, false, List, [], ◌++◌, All, length, map, nat_lt, if◌then◌else◌}
use Rattle.snd_block_writer.specs.Coded as blocks
use Rattle.snd_blocks.specs.Calls.{AreBlocks}
use Rattle.snd_chunks.specs.HeadLaws.{IsOfBytes, IsPieceOf}
use Rattle.snd_chunks.specs.Written.{NewChunk}
use Rattle.snd_container.specs.Laws.{FileSays}
use Rattle.snd_container.specs.Sound.{Kept, Sound, kept_numbers, kept_of}
use Rattle.snd_container.specs.Values.{closing}
use Rattle.snd_fields.specs.Laws.{IsByte}
use Rattle.snd_layout.specs.Blocks.{is_adpcm}
use Rattle.snd_layout.specs.Kinds.{is_wave_own}
use Rattle.snd_layout.specs.Params.{Parameters}
use Rattle.snd_layout.specs.Shape.{Shape}
use Rattle.snd_layout.specs.declared.kind.Kind.{Kind}
use Rattle.snd_pcm.specs.Groups.{groups}
use Rattle.snd_patch.specs.Sealed.{with_fields}
use Rattle.snd_edits.specs.Editing.{Editing}
use Rattle.snd_edits.specs.Edits.{coded}
use Rattle.snd_edits.specs.Laws.{IsEdited, IsEncoded}
use Rattle.snd_edits.specs.Reading.{FitCodec}
use Rattle.snd_edits.specs.Relaid.{head_with, shape_with}

-- how many frames numbers are
abbrev pub frame_count : Parameters → List ℤ → ℕ
frame_count p xs = length xs / p.channels

-- the data bytes of numbers: in ADPCM those of their blocks, of which zeros fill the last
abbrev pub data_of : Parameters → List ℤ → List ℕ
data_of p xs = if is_adpcm p.codec then blocks.coded p xs else coded p xs

-- A file of a kind with some chunks: its head, whose fields say so many frames; the bytes of the numbers; and what closes them.
abbrev pub made_file : Kind → Parameters → List NewChunk → List ℤ → List ℕ
made_file kind p pieces xs =
    let h = shape_with kind p pieces in
    let n = frame_count p xs in
    with_fields (head_with kind p pieces) h n ++ data_of p xs ++ closing h n

-- .. and its sound: the chunks, and the numbers as the codec keeps them, in ADPCM those that its blocks stand for
abbrev pub frames_kept : Parameters → List ℤ → List (List ℤ)
frames_kept p xs = if is_adpcm p.codec then blocks.kept p xs else groups p.channels (kept_numbers p xs)

abbrev pub kept_chunk : NewChunk → Kept
kept_chunk piece = record { id = piece.id; body = piece.body; after = false }

abbrev pub made_sound : Kind → Parameters → List NewChunk → List ℤ → Sound
made_sound kind p pieces xs = record { kind = kind; params = p; frames = frames_kept p xs; pieces = map kept_chunk pieces }

-- what closes the data of a file while it is made: nothing until a frame is written
abbrev pub closing_so_far : Shape → ℕ → List ℕ
closing_so_far h n = if nat_lt 0 n then closing h n else []

-- A file that is being made with numbers of a fixed size each holds those that it was given so far: its head, which says no frames
-- yet, the bytes of the numbers, and what closes them.
pub record HoldsNumbers (kind : Kind) (p : Parameters) (pieces : List NewChunk) (xs : List ℤ) (e : Editing) : Type 0 where
  pub edited : IsEdited (head_with kind p pieces) e
  pub shape : e.shape ≡ record (shape_with kind p pieces) { frames = frame_count p xs }
  pub bytes : e.bytes ≡ head_with kind p pieces ++ coded p xs ++ closing_so_far (shape_with kind p pieces) (frame_count p xs)

-- In ADPCM it holds the blocks that they fill, and the rest of them wait.
pub record HoldsBlocks (kind : Kind) (p : Parameters) (pieces : List NewChunk) (xs : List ℤ) (e : Editing) : Type 0 where
  pub form : AreBlocks p
  pub told : FileSays (head_with kind p pieces) (shape_with kind p pieces)
  pub encoded : IsEncoded (head_with kind p pieces) e
  pub given : e.given ≡ xs
  pub shape : e.shape ≡ record (shape_with kind p pieces) { frames = frame_count p (blocks.whole p xs) }
  pub bytes : e.bytes ≡ head_with kind p pieces ++ blocks.coded p (blocks.whole p xs)

-- A file of a kind with some chunks is being made, and was given these numbers so far, which are whole frames. The next frame is
-- written behind them.
pub record IsMaking (kind : Kind) (p : Parameters) (pieces : List NewChunk) (xs : List ℤ) (e : Editing) : Type 0 where
  pub kind_is : (shape_with kind p pieces).kind ≡ kind
  pub params : (shape_with kind p pieces).params ≡ p
  pub start : (shape_with kind p pieces).start ≡ length (head_with kind p pieces)
  pub free : (shape_with kind p pieces).trailing ≡ false
  pub kept : map (kept_of (head_with kind p pieces)) (shape_with kind p pieces).pieces ≡ map kept_chunk pieces
  pub whole : length xs % p.channels ≡ 0
  pub in_range : FitCodec p.codec xs
  pub numbers : is_adpcm p.codec ≡ false → HoldsNumbers kind p pieces xs e
  pub blocks : is_adpcm p.codec ≡ true → HoldsBlocks kind p pieces xs e
  pub write_place : e.write_place ≡ frame_count p xs
  pub automatic : e.automatic ≡ false

-- ---- files that are made with chunks

-- the state of a file that was made with some chunks, and has no frames
abbrev pub made_with : Kind → Parameters → List NewChunk → Editing
made_with kind p pieces = record {
  bytes = head_with kind p pieces;
  shape = shape_with kind p pieces;
  frames = [];
  place = 0;
  write_place = 0;
  automatic = false;
  written = false;
  given = [];
}

-- a chunk of bytes that a WAVE or RF64 file may keep beside its sound, and chunks with which such a file may be made
pub record IsChunk (piece : NewChunk) : Type 0 where
  pub four : length piece.id ≡ 4
  pub other : is_wave_own piece.id ≡ false
  pub few : length piece.body ≤ 65536
  pub id : All IsByte piece.id
  pub body : All IsByte piece.body

pub record AreChunks (pieces : List NewChunk) : Type 0 where
  pub each : All IsChunk pieces
  pub few : length pieces ≤ 240

-- chunks of bytes with which a file of a kind that is given chunks may be made
pub record ArePieces (kind : Kind) (pieces : List NewChunk) : Type 0 where
  pub each : All (IsPieceOf kind) pieces
  pub bytes : All IsOfBytes pieces
  pub few : length pieces ≤ 240
