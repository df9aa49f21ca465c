-- The state of a file that is closed, in each mode, and how many bytes that writes. The first argument is whether the mode encodes.
use Rattle.std.specs.Prelude.{ℕ, ◌+◌, Bool, true, false}
use Rattle.snd_layout.specs.Blocks.{block_align}
use Rattle.snd_layout.specs.Params.{Parameters}
use Rattle.snd_edits.specs.Editing.{Editing}
use Rattle.snd_edits.specs.Edits.{sealed_to}
use Rattle.snd_edits.specs.Encoding.{encoded_whole}

-- the file sealed; the first argument is whether it is written by blocks
abbrev pub closed_to : Bool → Editing → Editing
closed_to true e = encoded_whole e
closed_to false e = sealed_to e

-- closing writes the fields and what closes the data, and one more block, where the file is written by blocks
abbrev pub most_closed : Bool → Parameters → ℕ
most_closed true p = 64 + block_align p.channels p.codec
most_closed false p = 64
