-- What the layouts of WAVE files owe one another and their files, from which the laws follow.
use Rattle.std.specs.Prelude.{◌≡◌, ℕ, ◌+◌, ◌-◌, ◌*◌, ◌/◌, ◌^◌, ◌<◌, ◌≤◌, Bool, false, not, ◌||◌, List, Option, Some, Ok, All, IfSome, option_map, length, min, get_or, nat_lt}
use Rattle.std.specs.List.{filter}
use Rattle.snd_chunks.specs.Chunks.{padded_end}
use Rattle.snd_fields.specs.Field.{number}
use Rattle.snd_fields.specs.declared.field.Order.TheVariants.{Little}
use Rattle.snd_layout.specs.Blocks.{block_align}
use Rattle.snd_layout.specs.Container.{is_in, is_in_some}
use Rattle.snd_layout.specs.Shape.{Shape}
use Rattle.snd_layout.specs.declared.piece.Piece.{Piece}
use Rattle.snd_chunks.specs.Parts.{fact_chunk, fact_count, frame_count}
use Rattle.snd_wave.specs.Layout.{outer_end, wave_front, wave_layout}

-- a place is one of so many from another on
abbrev pub is_among : ℕ → ℕ → ℕ → Bool
is_among at size place = is_in (record { at = at; size = size }) place

-- A place of a number that changes as the sound grows: the size of the whole, the count that is not read, the first 4 bytes
-- of the field that decides the count, and the 4 bytes before the data, which are the data size
abbrev pub is_number : Shape → ℕ → Bool
is_number h place = is_in_some h.outer place || is_in_some h.side place || is_among h.inner.at 4 place || is_among (h.start - 4) 4 place

-- a file has the bytes that another has before its data, but for those numbers
abbrev pub SameButNumbers : Shape → List ℕ → List ℕ → Type 0
SameButNumbers h x y = (i : ℕ) → i < h.start → is_number h i ≡ false → get_or x i 0 ≡ get_or y i 0

-- the pieces that stand before the data
abbrev pub pieces_before : Shape → List Piece
pieces_before h = filter (λ piece. not piece.after) h.pieces

-- two layouts say the same but for how long the sound is and what stands behind it
pub record SameHead (h h' : Shape) : Type 0 where
  pub kind : h'.kind ≡ h.kind
  pub params : h'.params ≡ h.params
  pub start : h'.start ≡ h.start
  pub inner : h'.inner ≡ h.inner
  pub outer : h'.outer ≡ h.outer
  pub side : h'.side ≡ h.side
  pub reserve : h'.reserve ≡ h.reserve
  pub pieces : pieces_before h' ≡ pieces_before h

-- Whatever the numbers are, the layout is there and says the same.
abbrev pub LayoutsAgree : Type 0
LayoutsAgree = (x y : List ℕ) (h : Shape) → wave_layout y ≡ Ok h → h.start ≤ length x → SameButNumbers h x y →
    (h' : Shape) × (wave_layout x ≡ Ok h') × SameHead h h'

-- the count of the `fact` that counts
abbrev pub count_of : List ℕ → Option ℕ
count_of b = option_map (fact_count 4 b) (fact_chunk 4 (wave_front b).chunks)

-- all whole blocks of the declared data are in the file
pub record HoldsBlocks (h : Shape) (size : ℕ) : Type 0 where
  pub in_file : h.start + h.declared / block_align h.params.channels h.params.codec * block_align h.params.channels h.params.codec ≤ size
  pub on_disk : h.start + h.declared / block_align h.params.channels h.params.codec * block_align h.params.channels h.params.codec ≤ 2 ^ 63 - 8

-- Where they are, the frames are those that the numbers state.
abbrev pub CountIsStated : Type 0
CountIsStated = (b : List ℕ) (h : Shape) → wave_layout b ≡ Ok h → HoldsBlocks h (length b) → h.frames ≡ frame_count h.params h.declared (count_of b)

-- The declared length is the number before the data; where the count is joined with it, the count is the first number of both.
abbrev pub NumbersStandBefore : Type 0
NumbersStandBefore = (b : List ℕ) (h : Shape) → wave_layout b ≡ Ok h →
    (h.declared ≡ number Little b (h.start - 4) 4) × (h.inner.size ≡ 12 → count_of b ≡ Some (number Little b h.inner.at 4))

-- the place behind the data that a file of so many bytes holds, with their pad
abbrev pub padded_data_end : Shape → ℕ → ℕ
padded_data_end h size = padded_end h.start (min h.declared (min size (2 ^ 63 - 8) - h.start))

-- The file goes on behind its data where these end before the whole does.
abbrev pub TrailingIsStated : Type 0
TrailingIsStated = (b : List ℕ) (h : Shape) → wave_layout b ≡ Ok h → h.trailing ≡ nat_lt (padded_data_end h (length b)) (outer_end b)

-- Where they reach the end of the whole, no piece stands behind them.
abbrev pub NoPieceBehind : Type 0
NoPieceBehind = (b : List ℕ) (h : Shape) → wave_layout b ≡ Ok h → outer_end b ≤ padded_data_end h (length b) → All (λ piece. piece.after ≡ false) h.pieces

-- The fields stand apart and in order: the size of the whole, the count that is not read, and right before the data the
-- field that decides the count
pub record FieldsStandApart (h : Shape) : Type 0 where
  pub outer : h.outer ≡ Some (record { at = 4; size = 4 })
  pub side : IfSome h.side (λ field. (field.size ≡ 4) × (20 ≤ field.at) × (field.at + 4 ≤ h.inner.at))
  pub inner : 16 ≤ h.inner.at
  pub start : h.inner.at + h.inner.size ≡ h.start

abbrev pub FieldsAreApart : Type 0
FieldsAreApart = (b : List ℕ) (h : Shape) → wave_layout b ≡ Ok h → FieldsStandApart h
