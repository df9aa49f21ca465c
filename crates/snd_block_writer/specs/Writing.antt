-- What a writer of blocks knows between two calls.
use Rattle.std.specs.Prelude.{◌≡◌, ◌⊎◌, ℕ, ℤ, pos, zero, suc, ◌+◌, ◌-◌, ◌*◌, ◌/◌, ◌%◌, ◌<◌, ◌≤◌, All, List, [], ◌++◌, length, take, drop, replicate}
use Rattle.snd_ima_adpcm.specs.Blocks.{Rule, bytes_of_blocks}
use Rattle.snd_ima_adpcm.specs.Frames.{Is16Bit}
use Rattle.snd_ima_adpcm.specs.Ima.{Indices, ima_bytes, ima_next_indices}
use Rattle.snd_ms_adpcm.specs.Microsoft.{ms_bytes}
use Rattle.snd_layout.specs.declared.codec.Codec.{Codec}
use Rattle.snd_layout.specs.declared.codec.Codec.TheVariants.{Ima, Ms}
use Rattle.snd_layout.specs.Blocks.{block_align}
use Rattle.snd_layout.specs.Params.{Parameters}
use Rattle.snd_blocks.specs.Calls.{AreBlocks}
use Rattle.snd_blocks.specs.Four.{IsFourfold}
use Rattle.snd_block_writer.specs.Coded.{block_numbers, rest, whole_blocks}

-- ---- the rule of a codec

-- the bytes of a block's numbers, by the indices that IMA ADPCM carries from block to block; Microsoft's carries nothing
unfoldable pub block_bytes : ℕ → Codec → Indices → List ℤ → List ℕ
block_bytes channels (Ima align per_block) indices xs = ima_bytes channels indices xs
block_bytes channels (Ms align per_block) indices xs = ms_bytes channels xs
block_bytes channels codec indices xs = []

unfoldable pub next_indices : ℕ → Codec → Indices → List ℤ → Indices
next_indices channels (Ima align per_block) indices xs = ima_next_indices channels indices xs
next_indices channels codec indices xs = indices

abbrev pub rule_of : Parameters → Rule Indices
rule_of p = record { bytes = block_bytes p.channels p.codec; next = next_indices p.channels p.codec }

-- what is carried on behind so many blocks of n numbers
abbrev pub carried : {State : Type 0} → Rule State → ℕ → ℕ → State → List ℤ → State
carried rule n zero state xs = state
carried rule n (suc count) state xs = carried rule n count (rule.next state (take n xs)) (drop n xs)

-- ---- a writer

-- its parameters, how many blocks it has written, the indices behind these, and the numbers that wait for a block
pub record Writing : Type 0 where
  pub params : Parameters
  pub blocks : ℕ
  pub indices : Indices
  pub waiting : List ℤ

-- what holds of every writer
pub record KeepsRule (w : Writing) : Type 0 where
  pub form : AreBlocks w.params
  pub few : length w.waiting < block_numbers w.params
  pub range : All Is16Bit w.waiting

-- what it knows once it was given all these numbers, for which it then stands
abbrev pub given : Parameters → List ℤ → Writing
given p xs = record {
  params = p;
  blocks = whole_blocks p xs;
  indices = carried (rule_of p) (block_numbers p) (whole_blocks p xs) (0, 0) xs;
  waiting = rest p xs;
}

abbrev pub StandsFor : Writing → Parameters → List ℤ → Type 0
StandsFor w p xs = w ≡ given p xs

-- how many blocks so many more numbers make whole
abbrev pub new_blocks : Writing → ℕ → ℕ
new_blocks w count = (length w.waiting + count) / block_numbers w.params

-- what it knows once it was given more, and the bytes of the blocks that these make whole
abbrev pub given_more : Writing → List ℤ → Writing
given_more w xs =
    let n = block_numbers w.params in
    let blocks = new_blocks w (length xs) in
    record {
      params = w.params;
      blocks = w.blocks + blocks;
      indices = carried (rule_of w.params) n blocks w.indices (w.waiting ++ xs);
      waiting = drop (blocks * n) (w.waiting ++ xs);
    }

abbrev pub more_bytes : Writing → List ℤ → List ℕ
more_bytes w xs = bytes_of_blocks (rule_of w.params) (block_numbers w.params) (new_blocks w (length xs)) w.indices (w.waiting ++ xs)

-- the zeros that fill the last block, where numbers wait
abbrev pub padding : Writing → List ℤ
padding w = replicate ((block_numbers w.params - length w.waiting % block_numbers w.params) % block_numbers w.params) (pos 0)

-- ---- places, in a file whose data begin at a place

abbrev pub block_size : Writing → ℕ
block_size w = block_align w.params.channels w.params.codec

-- that of the next block, and the one behind it
abbrev pub next_place : ℕ → Writing → ℕ
next_place start w = start + w.blocks * block_size w

abbrev pub block_end : ℕ → Writing → ℕ
block_end start w = next_place start w + block_size w

-- the one behind the blocks that so many numbers more make whole
abbrev pub place_after : ℕ → Writing → ℕ → ℕ
place_after start w count = start + (w.blocks + new_blocks w count) * block_size w

-- ---- what is taken at once, for the proofs alone

-- so many numbers are those of one block, or of four that are made together
abbrev pub IsOneOrFour : Parameters → ℕ → Type 0
IsOneOrFour p count = (count ≡ block_numbers p) ⊎ ((count ≡ 4 * block_numbers p) × IsFourfold p)

-- so many numbers more go into the block that is not whole yet, or are those of four blocks where none wait
abbrev pub IsPart : Writing → ℕ → Type 0
IsPart w count = (length w.waiting + count ≤ block_numbers w.params) ⊎ ((w.waiting ≡ []) × (count ≡ 4 * block_numbers w.params) × IsFourfold w.params)
