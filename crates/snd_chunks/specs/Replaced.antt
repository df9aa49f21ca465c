-- What a disk holds from a place on, replaced, as a head is laid anew.
use Rattle.std.specs.Prelude.{ℕ, ◌+◌, List, length, take}
use Rattle.snd_disk.specs.Bytes.{over}
use Rattle.snd_disk.specs.State.{IsMeant, State}

-- b with these bytes from a place on, and with the size of the whole at another
abbrev pub replaced : ℕ → List ℕ → ℕ → List ℕ → List ℕ → List ℕ
replaced at bytes size_at size b = over (over (take at b) at bytes) size_at size

abbrev pub IsReplaced : ℕ → List ℕ → ℕ → List ℕ → State → State → Type 0
IsReplaced at bytes size_at size old new = IsMeant (at + length bytes) (replaced at bytes size_at size) old new
