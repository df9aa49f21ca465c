-- Pieces that are put into an RF64 file that is made, before its first frame.
use Rattle.std.specs.Prelude.{◌≡◌, ℕ, List, Ok, codes, length}
use Rattle.snd_chunks.specs.Chunks.{padded_end}
use Rattle.snd_chunks.specs.Written.{NewChunk, head_bytes}
use Rattle.snd_fields.specs.declared.field.Order.TheVariants.{Little}
use Rattle.snd_layout.specs.Params.{Parameters}
use Rattle.snd_layout.specs.Written.{written_format}
use Rattle.snd_chunks.specs.Heads.{Heads}
use Rattle.snd_rf64.specs.Layout.{rf64_layout}
use Rattle.snd_rf64.specs.Written.{MayBeMade, made_shape, no_size, rf64_head}

abbrev pub rf64_heads : Heads
rf64_heads = record { may = MayBeMade; shape = made_shape; head = rf64_head }

-- the place behind the format
abbrev pub first_place : Parameters → ℕ
first_place p = padded_end 56 (length (written_format p))

-- what stands behind the pieces: the head of the data, whose size says nothing; there is no filler, since the field that decides
-- the count stands before the pieces
abbrev pub data_head : List ℕ
data_head = head_bytes Little (codes "data") no_size

-- a head that is made reads back, with its pieces
abbrev pub HeadReadsBack : Type 0
HeadReadsBack = (p : Parameters) (pieces : List NewChunk) → MayBeMade p pieces → rf64_layout (rf64_head p pieces) ≡ Ok (made_shape p pieces)
