-- What a container owes the layers above of the heads of new files, without frames and with any further chunks that they may have:
-- beside what it owes of every file (`KeepsLaws`).
use Rattle.std.specs.Prelude.{◌≡◌, ℕ, ◌+◌, ◌^◌, ◌≤◌, false, true, List, [], All, None, Ok, length, map}
use Rattle.std.specs.List.{sum_by}
use Rattle.snd_disk.specs.Bytes.{over}
use Rattle.snd_fields.specs.Laws.{IsByte}
use Rattle.snd_chunks.specs.Heads.{Heads, blanks, chunk_read, outline}
use Rattle.snd_chunks.specs.Written.{NewChunk}
use Rattle.snd_layout.specs.Blocks.{is_adpcm}
use Rattle.snd_layout.specs.Container.{Container}
use Rattle.snd_layout.specs.Filled.{over_field}
use Rattle.snd_layout.specs.Fit.{fit_refusal}
use Rattle.snd_layout.specs.Kinds.{holds_meta, holds_pieces, is_own_id}
use Rattle.snd_layout.specs.Params.{AreParams, Parameters, data_bytes}
use Rattle.snd_layout.specs.Shape.{KeepsRule, Shape, room}
use Rattle.snd_layout.specs.declared.kind.Kind.{Kind}
use Rattle.snd_layout.specs.declared.piece.Piece.{Piece}

-- a chunk that may be put into a file of a kind that is given chunks
pub record IsPieceOf (kind : Kind) (piece : NewChunk) : Type 0 where
  pub four : length piece.id ≡ 4
  pub other : is_own_id kind piece.id ≡ false
  pub few : length piece.body ≤ 65536

-- a chunk of bytes
abbrev pub IsOfBytes : NewChunk → Type 0
IsOfBytes piece = All IsByte piece.id × All IsByte piece.body

-- b with the values of so many frames in the three fields
abbrev pub with_values_of : Container → List ℕ → Shape → ℕ → List ℕ
with_values_of c b h n = over_field h.side (over_field h.outer (over b h.inner.at (c.inner h n)) (c.outer h n)) (c.side h n)

-- What a head says: its kind and parameters, no frames, whose data begin behind it and which nothing closes; and its fields hold
-- the values of no frames.
pub record SaysNone (kind : Kind) (c : Container) (p : Parameters) (h : Shape) (head : List ℕ) : Type 0 where
  pub kind_is : h.kind ≡ kind
  pub params_are : h.params ≡ p
  pub frames : h.frames ≡ 0
  pub free : h.trailing ≡ false
  pub known : h.unknown_length ≡ false
  pub declared : h.declared ≡ data_bytes p 0
  pub no_bytes : data_bytes p 0 ≡ 0
  pub start : h.start ≡ length head
  pub unclosed : c.closing h 0 ≡ []
  pub room_ends : KeepsRule h → h.start + room h + 8 ≤ 2 ^ 63
  pub few : length h.pieces ≤ 240
  pub fields : KeepsRule h → with_values_of c head h 0 ≡ head

-- What holds of the heads of a kind whose files are given chunks: they say what they are; they are read back with these chunks;
-- their layout hangs on the outlines of the chunks alone, which all stand before the data.
pub record KeepsPieceLaws (kind : Kind) (c : Container) (heads : Heads) : Type 0 where
  pub may_once : (p : Parameters) (pieces : List NewChunk) → IsProp (heads.may p pieces)
  pub says : (p : Parameters) (pieces : List NewChunk) → heads.may p pieces → SaysNone kind c p (heads.shape p pieces) (heads.head p pieces)
  pub opens : (p : Parameters) (pieces : List NewChunk) → heads.may p pieces → c.layout (heads.head p pieces) ≡ Ok (heads.shape p pieces)
  pub read : (p : Parameters) (pieces : List NewChunk) → heads.may p pieces → map (chunk_read (heads.head p pieces)) (heads.shape p pieces).pieces ≡ pieces
  pub outlined : (p : Parameters) (pieces : List NewChunk) → map outline (heads.shape p pieces).pieces ≡ blanks pieces
  pub before : (p : Parameters) (pieces : List NewChunk) → All (λ (piece : Piece). piece.after ≡ false) (heads.shape p pieces).pieces
  pub blank_may : (p : Parameters) (pieces : List NewChunk) → heads.may p pieces → heads.may p (blanks pieces)
  pub blank_shape : (p : Parameters) (pieces : List NewChunk) → heads.shape p (blanks pieces) ≡ heads.shape p pieces
  pub blank_size : (p : Parameters) (pieces : List NewChunk) → length (heads.head p (blanks pieces)) ≡ length (heads.head p pieces)

-- All laws of the heads of a kind. The first ones hold with any list of chunks, and none has a reservation. Where files are given
-- chunks, a head is made with any of these, and is of bytes where they are. Of a kind with texts and fields, the bodies of the
-- chunks of any file are no more bytes than the file.
pub record KeepsHeadLaws (kind : Kind) (c : Container) (heads : Heads) : Type 0 where
  pub kind_is : (p : Parameters) (pieces : List NewChunk) → (heads.shape p pieces).kind ≡ kind
  pub params_are : (p : Parameters) (pieces : List NewChunk) → (heads.shape p pieces).params ≡ p
  pub frames : (p : Parameters) (pieces : List NewChunk) → (heads.shape p pieces).frames ≡ 0
  pub free : (p : Parameters) (pieces : List NewChunk) → (heads.shape p pieces).trailing ≡ false
  pub joined : (p : Parameters) (pieces : List NewChunk) → fit_refusal kind p ≡ None → is_adpcm p.codec ≡ true → 12 ≤ (heads.shape p pieces).inner.size
  pub bare_head : (p : Parameters) → heads.head p [] ≡ c.head p
  pub bare_shape : (p : Parameters) → heads.shape p [] ≡ c.made p
  pub reserve : (p : Parameters) (pieces : List NewChunk) → (heads.shape p pieces).reserve ≡ None
  pub may : holds_pieces kind ≡ true → (p : Parameters) (pieces : List NewChunk) → AreParams p → fit_refusal kind p ≡ None → All (IsPieceOf kind) pieces → length pieces ≤ 240
      → heads.may p pieces
  pub pieces : holds_pieces kind ≡ true → KeepsPieceLaws kind c heads
  pub bytes : holds_pieces kind ≡ true → (p : Parameters) (pieces : List NewChunk) → All IsOfBytes pieces → All IsByte (heads.head p pieces)
  pub bodies : holds_meta kind ≡ true → (b : List ℕ) (h : Shape) → c.layout b ≡ Ok h → h.kind ≡ kind → sum_by (λ (piece : Piece). piece.len) h.pieces ≤ length b
