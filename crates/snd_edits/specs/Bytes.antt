-- Frames as the bytes of their samples, where each sample has bytes of its own.
use Rattle.std.specs.Prelude.{◌≡◌, ℕ, ℤ, ◌%◌, List, [], Option, None, Some}
use Rattle.snd_layout.specs.Blocks.{block_align}
use Rattle.snd_layout.specs.Params.{Parameters}
use Rattle.snd_layout.specs.declared.codec.Codec.{Codec}
use Rattle.snd_container.specs.Fixed.{samples, sources}
use Rattle.snd_container.specs.declared.fixed.Fixed.{Fixed}
use Rattle.snd_container.specs.Sound.{fixed_of}

-- the numbers that bytes stand for
abbrev pub numbers_as : Option Fixed → List ℕ → List ℤ
numbers_as None bytes = []
numbers_as (Some form) bytes = samples form bytes

abbrev pub numbers_in : Codec → List ℕ → List ℤ
numbers_in codec bytes = numbers_as (fixed_of codec) bytes

-- and those of which they are the samples, whatever they stand for
abbrev pub sources_as : Option Fixed → List ℕ → List ℤ
sources_as None bytes = []
sources_as (Some form) bytes = sources form bytes

abbrev pub sources_in : Codec → List ℕ → List ℤ
sources_in codec bytes = sources_as (fixed_of codec) bytes

-- so many bytes are whole frames
abbrev pub AreWhole : Parameters → ℕ → Type 0
AreWhole p n = n % block_align p.channels p.codec ≡ 0
