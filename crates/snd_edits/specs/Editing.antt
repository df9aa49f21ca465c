-- An open file, as whoever reads and writes it sees it: its bytes, what they say, its frames, and the frames to read and to
-- write next. The code keeps none of the frames.
use Rattle.std.specs.Prelude.{ℕ, ℤ, Bool, false, ◌+◌, ◌-◌, List, [], Result, Ok, Err, length, take, drop, min}
use Rattle.snd_layout.specs.declared.refusal.OpenRefusal.{OpenRefusal}
use Rattle.snd_layout.specs.Shape.{Shape}
use Rattle.snd_container.specs.Sound.{layout_of}
use Rattle.snd_blocks.specs.Sound.{frames_in}

pub record Editing : Type 0 where
  pub bytes : List ℕ
  pub shape : Shape
  pub frames : List (List ℤ)
  -- the frame to read next, and the frame to write next
  pub place : ℕ
  pub write_place : ℕ
  -- whether each write brings the head up to date
  pub automatic : Bool
  -- whether a frame was written since the file was opened
  pub written : Bool
  -- the numbers of all frames that were given to a file of ADPCM that is made: those of whole blocks are on the disk
  pub given : List ℤ

-- the state in which editing begins
abbrev pub first_editing : List ℕ → Shape → Editing
first_editing b s = record {
  bytes = b;
  shape = s;
  frames = frames_in b s;
  place = 0;
  write_place = 0;
  automatic = false;
  written = false;
  given = [];
}

abbrev pub opening_as : List ℕ → Result Shape OpenRefusal → Result Editing OpenRefusal
opening_as b (Err refusal) = Err refusal
opening_as b (Ok s) = Ok (first_editing b s)

-- what opening a file of these bytes gives, or the first reason why it is not opened
unfoldable pub opening_of : List ℕ → Result Editing OpenRefusal
opening_of b = opening_as b (layout_of b)

-- how many of n wanted frames there are from the place on, and which
abbrev pub frames_left : Editing → ℕ → ℕ
frames_left e n = min n (length e.frames - e.place)

abbrev pub frames_read : Editing → ℕ → List (List ℤ)
frames_read e n = take n (drop e.place e.frames)

-- the place after so many frames, and the place that was sought
abbrev pub moved_by : ℕ → Editing → Editing
moved_by n e = record e { place = e.place + n }

abbrev pub moved_to : ℕ → Editing → Editing
moved_to n e = record e { place = n }

-- the state that a read leaves, and the one that seeking leaves
abbrev pub state_read : {E : Type 0} → Result ℕ E → Editing → Editing
state_read (Ok n) e = moved_by n e
state_read (Err error) e = e

abbrev pub state_sought : {T E : Type 0} → ℕ → Result T E → Editing → Editing
state_sought to (Ok done) e = moved_to to e
state_sought to (Err error) e = e
