-- Samples that are read from a disk into a slice.
use Rattle.std.specs.Prelude.{◌≡◌, ℕ, ℤ, ◌*◌, List, All, length, take, drop}
use Rattle.snd_disk.specs.Device.{AsksAtMost}
use Rattle.snd_disk.specs.State.{State}
use Rattle.snd_container.specs.Fixed.{InRange, byte_count, samples}
use Rattle.snd_container.specs.declared.fixed.Fixed.{Fixed}

-- so many samples of bytes, from a place on
abbrev pub samples_at : Fixed → List ℕ → ℕ → ℕ → List ℤ
samples_at form b at count = samples form (take (byte_count form * count) (drop at b))

-- samples are those of bytes from a place on
abbrev pub AreSamples : Fixed → List ℕ → ℕ → List ℤ → Type 0
AreSamples form b at xs = xs ≡ samples_at form b at (length xs)

-- where the first of a slice were such samples, more of them are now
abbrev pub ReadsOn : Fixed → List ℕ → ℕ → ℕ → ℕ → List ℤ → List ℤ → Type 0
ReadsOn form b at done count old new = take done old ≡ samples_at form b at done → take count new ≡ samples_at form b at count

-- the first of a slice are in the range of a form
abbrev pub AreInRange : Fixed → ℕ → List ℤ → Type 0
AreInRange form count xs = All (InRange form) (take count xs)

-- for so many samples no more than their bytes are asked of a disk
abbrev pub AsksFor : {D : Type 0} → (D → State) → Fixed → ℕ → D → D → Type 0
AsksFor state form count old new = AsksAtMost state (byte_count form * count) old new
