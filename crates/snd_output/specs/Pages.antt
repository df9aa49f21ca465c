-- How many frames a file is given first, so that later writes end where its pages do.
use Rattle.std.specs.Prelude.{ℕ, ◌-◌, ◌%◌, max}
use Rattle.std.specs.Int.{div_ceil}
use Rattle.snd_layout.specs.Blocks.{block_align}
use Rattle.snd_layout.specs.Shape.{Shape, end}

-- by how many frames the data go into a page, a part of one counted
abbrev pub frames_in_page : Shape → ℕ
frames_in_page s = div_ceil (end s s.frames % 4096) (block_align s.params.channels s.params.codec)

-- of at most so many frames
abbrev pub frames_first : Shape → ℕ → ℕ
frames_first s most = max 1 (most - frames_in_page s)
