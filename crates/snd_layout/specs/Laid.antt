-- What a disk holds once a head is laid on it, and why it may not be laid.
use Rattle.std.specs.Prelude.{ℕ, ◌≤◌, List, length}
use Rattle.snd_disk.specs.State.{IsMeant, Rises, State}
use Rattle.snd_layout.specs.declared.error.OpenError.{OpenError}
use Rattle.snd_layout.specs.declared.error.OpenError.TheVariants.{DiskFault}

-- where a disk tells what it holds, it holds these bytes and no others
abbrev pub HoldsJust : List ℕ → State → State → Type 0
HoldsJust bytes old new = IsMeant (length bytes) (λ _. bytes) old new

-- The only reason that a head is not laid is a fault of the disk.
abbrev pub IsLayCause : ℕ → ℕ → OpenError → Type 0
IsLayCause old new (DiskFault step) = (old ≤ new) × Rises old new
IsLayCause old new _ = ⊥
