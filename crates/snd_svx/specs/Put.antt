-- Pieces that are put into an 8SVX file that is made, before its first frame.
use Rattle.std.specs.Prelude.{◌≡◌, ℕ, ◌+◌, ◌-◌, List, ◌++◌, Ok, codes}
use Rattle.snd_chunks.specs.Written.{NewChunk, chunks_bytes, head_bytes}
use Rattle.snd_fields.specs.declared.field.Order.TheVariants.{Big}
use Rattle.snd_layout.specs.Params.{Parameters}
use Rattle.snd_chunks.specs.Heads.{Heads}
use Rattle.snd_wave.specs.Put.{filler_for}
use Rattle.snd_svx.specs.Layout.{svx_layout}
use Rattle.snd_svx.specs.Written.{MayBeMade, made_shape, svx_head}

abbrev pub svx_heads : Heads
svx_heads = record { may = MayBeMade; shape = λ p pieces. made_shape p pieces 0; head = svx_head }

-- what stands in a head behind pieces that end at a place: the filler, where the size of the body would not lie in one sector
-- without it, and the head of a body of no bytes
unfoldable pub closing_behind : ℕ → List ℕ
closing_behind end = chunks_bytes Big (filler_for (end + 8 - 4) 4) ++ head_bytes Big (codes "BODY") 0

-- a head that is made reads back, with its pieces
abbrev pub HeadReadsBack : Type 0
HeadReadsBack = (p : Parameters) (pieces : List NewChunk) → MayBeMade p pieces → svx_layout (svx_head p pieces) ≡ Ok (made_shape p pieces 0)
