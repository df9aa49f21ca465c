-- The data bytes of ADPCM numbers, which stand frame by frame, and the frames that are read from these.
use Rattle.std.specs.Prelude.{ℕ, ℤ, ◌*◌, ◌/◌, List, [], length, take, drop}
use Rattle.snd_ima_adpcm.specs.Laws.{ima_data}
use Rattle.snd_ms_adpcm.specs.Laws.{ms_data}
use Rattle.snd_layout.specs.declared.codec.Codec.{Codec}
use Rattle.snd_layout.specs.declared.codec.Codec.TheVariants.{Ima, Ms}
use Rattle.snd_layout.specs.Blocks.{block_frames}
use Rattle.snd_layout.specs.Params.{Parameters}
use Rattle.snd_blocks.specs.Frames.{blocks_decoded}

-- the blocks of all numbers, behind which zeros fill the last block
unfoldable pub blocks_coded : ℕ → Codec → List ℤ → List ℕ
blocks_coded channels (Ima align per_block) xs = ima_data channels align xs
blocks_coded channels (Ms align per_block) xs = ms_data channels align xs
blocks_coded channels codec xs = []

abbrev pub coded : Parameters → List ℤ → List ℕ
coded p xs = blocks_coded p.channels p.codec xs

-- the numbers of a block, and how many blocks some numbers fill
abbrev pub block_numbers : Parameters → ℕ
block_numbers p = p.channels * block_frames p.codec

abbrev pub whole_blocks : Parameters → List ℤ → ℕ
whole_blocks p xs = length xs / block_numbers p

-- the numbers that stand in whole blocks, and the rest
abbrev pub whole : Parameters → List ℤ → List ℤ
whole p xs = take (whole_blocks p xs * block_numbers p) xs

abbrev pub rest : Parameters → List ℤ → List ℤ
rest p xs = drop (whole_blocks p xs * block_numbers p) xs

-- the frames that are read from the blocks of numbers, as many as these have
abbrev pub kept : Parameters → List ℤ → List (List ℤ)
kept p xs = take (length xs / p.channels) (blocks_decoded p (coded p xs))
