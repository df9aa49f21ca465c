-- Pieces that are put into a WAVE file that is made, before its first frame.
use Rattle.std.specs.Prelude.{ℕ, ◌+◌, ◌-◌, false, List, [], ◌∷◌, ◌++◌, Option, None, Some, codes, length, if◌then◌else◌}
use Rattle.snd_disk.specs.State.{State}
use Rattle.snd_chunks.specs.Written.{NewChunk, chunks_bytes, head_bytes}
use Rattle.snd_fields.specs.declared.field.Order.TheVariants.{Little}
use Rattle.snd_layout.specs.Params.{Parameters}
use Rattle.snd_layout.specs.Sector.{is_in_one_sector}
use Rattle.snd_layout.specs.Shape.{Shape}
use Rattle.snd_layout.specs.declared.codec.Codec.{Codec}
use Rattle.snd_layout.specs.declared.kind.Kind.TheVariants.{Wave}
use Rattle.snd_layout.specs.declared.piece.Piece.{Piece}
use Rattle.snd_chunks.specs.Heads.{Heads, IsHeadIn}
use Rattle.snd_wave.specs.Written.{MayBeReserved, inner_at, inner_size, junk, new_fact, reserved_first, reserved_head, reserved_shape, side_at}

-- the heads with a reservation, or with none
abbrev pub reserved_heads : Option ℕ → Heads
reserved_heads r = record { may = λ p pieces. MayBeReserved r p pieces 0; shape = λ p pieces. reserved_shape r p pieces 0; head = λ p pieces. reserved_head r p pieces 0 }

abbrev pub wave_heads : Heads
wave_heads = reserved_heads None

abbrev pub IsHeadOf : State → Shape → Parameters → List NewChunk → Type 0
IsHeadOf disk h p pieces = IsHeadIn wave_heads disk h p pieces

-- the filler before what lies so in a file
abbrev pub filler_for : ℕ → ℕ → List NewChunk
filler_for at size = if is_in_one_sector at size then [] else junk ∷ []

-- the filler of a head whose data would begin at a place without it
abbrev pub filler_at : Codec → ℕ → List NewChunk
filler_at codec start = filler_for (start - inner_size codec) (inner_size codec)

-- what stands behind the pieces in such a head: the filler, the count, and the head of data of no bytes
unfoldable pub closing_at : Codec → ℕ → List ℕ
closing_at codec start = chunks_bytes Little (filler_at codec start) ++ chunks_bytes Little (new_fact codec 0) ++ head_bytes Little (codes "data") 0

-- .. by the place where the pieces end
abbrev pub closing_behind : Codec → ℕ → List ℕ
closing_behind codec end = closing_at codec (end + 8 + length (chunks_bytes Little (new_fact codec 0)))

-- the place behind the format
abbrev pub first_place : Parameters → ℕ
first_place p = reserved_first None p

-- what a head says without frames, whose data begin at a place
abbrev pub head_shape : Option ℕ → Parameters → ℕ → List Piece → Shape
head_shape r p start pieces = record {
  kind = Wave;
  params = p;
  start = start;
  frames = 0;
  declared = 0;
  inner = inner_at p.codec start;
  outer = Some (record { at = 4; size = 4 });
  side = side_at p.codec start;
  trailing = false;
  unknown_length = false;
  reserve = r;
  pieces = pieces;
}
