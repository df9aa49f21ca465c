-- How a file is opened, and why it is not.
use Rattle.std.specs.Prelude.{◌≡◌, ℕ, ◌+◌, ◌≤◌, List, Result, Ok, Err}
use Rattle.snd_disk.specs.Device.{Tells}
use Rattle.snd_disk.specs.State.{Rises, State}
use Rattle.snd_layout.specs.declared.error.OpenError.{OpenError}
use Rattle.snd_layout.specs.declared.error.OpenError.TheVariants.{Refused, DiskFault, Memory}
use Rattle.snd_layout.specs.declared.piece.Piece.{Piece}
use Rattle.snd_layout.specs.declared.refusal.OpenRefusal.{OpenRefusal}

-- a piece ends within so many bytes
abbrev pub EndsIn : ℕ → Piece → Type 0
EndsIn size piece = piece.at + piece.len ≤ size

-- A refusal, or want of memory, comes with no fault; a fault of the disk where its count rose. Nothing else is answered.
abbrev pub IsCause : ℕ → ℕ → OpenError → Type 0
IsCause old new (Refused refusal) = new ≡ old
IsCause old new (DiskFault step) = (old ≤ new) × Rises old new
IsCause old new Memory = new ≡ old
IsCause old new _ = ⊥

-- the count of faults rises where the answer is a fault of the disk, and there alone
abbrev pub CountsOpening : {D T : Type 0} → (D → State) → D → D → Result T OpenError → Type 0
CountsOpening state old new (Ok opened) = (state new).faults ≡ (state old).faults
CountsOpening state old new (Err error) = IsCause (state old).faults (state new).faults error

-- What is answered is what the contents give, where the disk tells them: a value, or the refusal.
abbrev pub OpensAs : {D T : Type 0} → (D → State) → D → (List ℕ → Result T OpenRefusal) → Result T OpenError → Type 0
OpensAs state disk given (Ok value) = (b : List ℕ) → Tells state disk b → given b ≡ Ok value
OpensAs state disk given (Err error) = (refusal : OpenRefusal) (b : List ℕ) → error ≡ Refused refusal → Tells state disk b → given b ≡ Err refusal
