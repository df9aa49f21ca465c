-- What is given to be written over the data: the numbers of frames, or the bytes of their samples.
use Rattle.std.specs.Prelude.{ℕ, ℤ, List, All, length}
use Rattle.snd_fields.specs.Laws.{IsByte}
use Rattle.snd_layout.specs.Shape.{Shape}
use Rattle.snd_frames.specs.declared.given.Given.{Given}
use Rattle.snd_frames.specs.declared.given.Given.TheVariants.{Numbers, Bytes}
use Rattle.snd_edits.specs.Bytes.{AreWhole, sources_in}
use Rattle.snd_edits.specs.Edits.{coded}
use Rattle.snd_frames.specs.Writing.{HoldsCoded}

-- the numbers of either
abbrev pub given : Shape → Given → List ℤ
given h (Numbers xs) = xs.now
given h (Bytes bytes) = sources_in h.params.codec bytes.now

-- and their bytes
abbrev pub coded_given : Shape → Given → List ℕ
coded_given h from = coded h.params (given h from)

-- bytes are given of whole frames alone
abbrev pub MayBeGiven : Shape → Given → Type 0
MayBeGiven h (Numbers xs) = Unit {0}
MayBeGiven h (Bytes bytes) = AreWhole h.params (length bytes.now) × All IsByte bytes.now

-- where samples are made early of numbers, they stand at the front of a block
abbrev pub HoldsGiven : Shape → Given → List ℕ → Type 0
HoldsGiven h (Numbers xs) block = HoldsCoded h.params.codec xs.now block
HoldsGiven h (Bytes bytes) block = Unit {0}
