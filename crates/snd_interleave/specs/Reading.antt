-- Numbers of a file of one channel that are read into a slice. It is said for the proofs alone.
use Rattle.std.specs.Prelude.{◌≡◌, ℕ, ◌+◌, ◌-◌, ◌<◌, ℤ, pos, List, drop, get_or, min, take}
use Rattle.snd_disk.specs.declared.disk.Disk.{Ghosts}
use Rattle.snd_disk.specs.State.{State}
use Rattle.snd_inputs.specs.Opening.{Holds}
use Rattle.snd_inputs.specs.declared.input.Input.{Input}
use Rattle.snd_layout.specs.declared.codec.Codec.{Codec}
use Rattle.snd_edits.specs.Editing.{Editing}
use Rattle.snd_interleave.specs.Interleave.{channel_in, numbers_of}

-- how many there are from a frame on, of so many frames, and at most so many
abbrev pub IsCount : ℕ → ℕ → ℕ → ℕ → Type 0
IsCount place frames most count = count ≡ min most (frames - place)

-- a slice has so many of the numbers of an input, from a frame on
abbrev pub GivesHeld : {D : Type 0} {ghosts : Ghosts D} → (D → State) → Input D ghosts → ℕ → List ℤ → ℕ → Type 0
GivesHeld state input place xs count = (e : Editing) → Holds state input e → take count xs ≡ take count (drop place (numbers_of e))

-- so many numbers are those of a list from a place on, and zeros behind its end
abbrev pub AreNumbersAt : ℕ → ℕ → List ℤ → List ℤ → Type 0
AreNumbersAt place count all xs = (j : ℕ) → j < count → get_or xs j (pos 0) ≡ get_or all (place + j) (pos 0)

-- .. of an input, as numbers of a codec
abbrev pub HasChannelOf : {D : Type 0} {ghosts : Ghosts D} → (D → State) → Input D ghosts → Codec → ℕ → ℕ → List ℤ → Type 0
HasChannelOf state input codec place count xs = (e : Editing) → Holds state input e → AreNumbersAt place count (channel_in codec e) xs
