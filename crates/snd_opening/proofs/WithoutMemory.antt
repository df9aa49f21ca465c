-- A head is laid without memory: nothing but a fault of the disk keeps it from that.
use Rattle.std.proofs.Common.{ℕ}
use Rattle.snd_container.specs.Made.{IsMakeCause}
use Rattle.snd_layout.specs.declared.error.OpenError.{OpenError}
use Rattle.snd_layout.specs.declared.error.OpenError.TheVariants.{DiskFault}
use Rattle.snd_opening.specs.Making.{IfMemory}

pub laid_without : (old new : ℕ) (error : OpenError) (P : Type 0) → IsMakeCause old new error → IfMemory P error
laid_without old new (DiskFault step) P cause = tt
laid_without old new _ P cause = absurd cause
