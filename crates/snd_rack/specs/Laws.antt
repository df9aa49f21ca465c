-- The laws of racks.
use Rattle.std.specs.Prelude.{◌≡◌, ℕ, ◌+◌, ℤ, pos, ◌≤ℤ◌, List, ◌++◌, length}
use Rattle.snd_rack.specs.Held.{InRange}
use Rattle.snd_rack.specs.Rack.{frame_through, racked, racked_from}
use Rattle.snd_rack.specs.Stage.{IsSettled, Stated, each_from, mapped}

-- The frames of a whole list pass the items one after the other as each frame passes all of them by its number.
abbrev pub OneByOne : Type 0
OneByOne = (items : List Stated) (low high : ℤ) (frames : List (List ℤ)) →
    racked items low high frames ≡ each_from 0 (frame_through items low high) frames

-- .. and a list in two pieces as one, where the numbers go on in the second
abbrev pub InPieces : Type 0
InPieces = (items : List Stated) (low high : ℤ) (k : ℕ) (xs ys : List (List ℤ)) →
    racked_from k items low high (xs ++ ys) ≡ racked_from k items low high xs ++ racked_from (k + length xs) items low high ys

-- samples stay in the range, which has 0 in it
abbrev pub StaysInRange : Type 0
StaysInRange = (s : Stated) (low high : ℤ) (i : ℕ) (frame : List ℤ) → low ≤ℤ pos 0 → pos 0 ≤ℤ high → IsSettled s →
    InRange low high frame → InRange low high (mapped s low high i frame)
