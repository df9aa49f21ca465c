-- The numbers that frames have behind a rack.
use Rattle.std.specs.Prelude.{◌-◌, ◌^◌, ℤ, pos, neg_ℤ, List}
use Rattle.snd_layout.specs.declared.codec.Codec.{Codec}
use Rattle.snd_edits.specs.Editing.{Editing}
use Rattle.snd_output.specs.Appended.{frames_ahead}
use Rattle.snd_output.specs.Widths.{change_numbers, joined, width_of}
use Rattle.snd_rack.specs.Rack.{racked}
use Rattle.snd_rack.specs.Stage.{Stated}

-- the ends of the range of a codec's numbers
abbrev pub low_of : Codec → ℤ
low_of codec = neg_ℤ (pos (2 ^ (width_of codec - 1)))

abbrev pub high_of : Codec → ℤ
high_of codec = pos (2 ^ (width_of codec - 1) - 1)

-- the numbers of frames of a codec behind a rack, which keeps them in the range of this codec
abbrev pub racked_in : List Stated → Codec → List (List ℤ) → List ℤ
racked_in items codec frames = joined (racked items (low_of codec) (high_of codec) frames)

-- .. and then as numbers of another
abbrev pub racked_numbers : List Stated → Codec → Codec → List (List ℤ) → List ℤ
racked_numbers items from to frames = change_numbers from to (racked_in items from frames)

-- those of the frames that are left of a state, of which the first has the number 0
abbrev pub racked_left : List Stated → Editing → List ℤ
racked_left items e = racked_in items e.shape.params.codec (frames_ahead e)
