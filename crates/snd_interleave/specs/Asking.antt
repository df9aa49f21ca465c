-- How many bytes are asked of inputs that are read side by side. It is said for the proofs alone.
use Rattle.std.specs.Prelude.{◌≡◌, ℕ, ◌+◌, ◌-◌, ◌*◌, ◌/◌, ◌<◌, ◌≤◌, List, get_or, length, min, nat_lt, if◌then◌else◌}
use Rattle.snd_disk.specs.declared.disk.Disk.{Ghosts}
use Rattle.snd_disk.specs.State.{AtMost, State}
use Rattle.snd_inputs.specs.Copying.{bytes_checked, bytes_to_copy}
use Rattle.snd_inputs.specs.declared.input.Input.{Input}
use Rattle.snd_layout.specs.Blocks.{block_align, block_frames, is_adpcm}
use Rattle.snd_layout.specs.Shape.{Shape}
use Rattle.snd_edits.specs.Reading.{bytes_to_read}

-- what was asked of an input so far
abbrev pub asked_of : {D : Type 0} {ghosts : Ghosts D} → (D → State) → Input D ghosts → ℕ
asked_of state input = (state input.disk).asked

-- the bytes that are read for a file's frames from one on, at most so many: none behind its end
abbrev pub bytes_from : ℕ → ℕ → Shape → ℕ
bytes_from place most h = if nat_lt place h.frames then bytes_to_read h.params (min most (h.frames - place)) else 0

-- those for the first so many frames, 16384 in each call: in ADPCM each of these may read two blocks more, and so may one with fewer
abbrev pub bytes_upto : ℕ → Shape → ℕ
bytes_upto n h =
    let m = min n h.frames in
    if is_adpcm h.params.codec
    then (m / block_frames h.params.codec + 2 * (m / 16384 + (1 - min 1 (h.frames - m)))) * block_align h.params.channels h.params.codec
    else m * block_align h.params.channels h.params.codec

-- those for all of them, once; and with those for its blocks, which are seen to be good before
abbrev pub bytes_copied : Shape → ℕ
bytes_copied h = bytes_to_copy h.params h.frames

abbrev pub bytes_whole : Shape → ℕ
bytes_whole h = bytes_checked h + bytes_copied h

-- no more are asked of an input, by its layout, or of each of several
abbrev pub AsksInput : {D : Type 0} {ghosts : Ghosts D} → (D → State) → (Shape → ℕ) → Input D ghosts → Input D ghosts → Type 0
AsksInput state most old new = AtMost (asked_of state old) (most old.layout) (asked_of state new)

abbrev pub AsksEach : {D : Type 0} {ghosts : Ghosts D} → (D → State) → (Shape → ℕ) → List (Input D ghosts) → List (Input D ghosts) → Type 0
AsksEach {D = D} {ghosts = ghosts} state most old new =
    (k : ℕ) (d d' : Input D ghosts) → k < length old → AsksInput state most (get_or old k d) (get_or new k d')

-- of so many of them, and of the others nothing
pub record AsksFirst {D : Type 0} {ghosts : Ghosts D} (state : D → State) (count : ℕ) (most : Shape → ℕ) (old new : List (Input D ghosts)) : Type 0 where
  pub first : (k : ℕ) (d d' : Input D ghosts) → k < length old → k < count → AsksInput state most (get_or old k d) (get_or new k d')
  pub others : (k : ℕ) (d d' : Input D ghosts) → k < length old → count ≤ k → asked_of state (get_or new k d') ≡ asked_of state (get_or old k d)

-- no more is asked of each than for its frames once
abbrev pub AsksOnce : {D : Type 0} {ghosts : Ghosts D} → (D → State) → List (Input D ghosts) → List (Input D ghosts) → Type 0
AsksOnce state old new = AsksEach state bytes_copied old new

-- .. and to see that its blocks are good
abbrev pub AsksWhole : {D : Type 0} {ghosts : Ghosts D} → (D → State) → List (Input D ghosts) → List (Input D ghosts) → Type 0
AsksWhole state old new = AsksEach state bytes_whole old new
