-- A file of any kind as it is made, without pieces and frames.
use Rattle.std.specs.Prelude.{ℕ, ◌≤◌, List}
use Rattle.snd_disk.specs.State.{Rises}
use Rattle.snd_layout.specs.Params.{Parameters}
use Rattle.snd_layout.specs.Shape.{Shape}
use Rattle.snd_layout.specs.declared.error.OpenError.{OpenError}
use Rattle.snd_layout.specs.declared.error.OpenError.TheVariants.{DiskFault}
use Rattle.snd_layout.specs.declared.kind.Kind.{Kind}
use Rattle.snd_container.specs.Kinds.{container_of}

-- what it holds, and what it says of itself
abbrev pub new_file : Kind → Parameters → List ℕ
new_file kind p = (container_of kind).head p

abbrev pub new_shape : Kind → Parameters → Shape
new_shape kind p = (container_of kind).made p

-- The only reason that a file is not made is a fault of the disk.
abbrev pub IsMakeCause : ℕ → ℕ → OpenError → Type 0
IsMakeCause old new (DiskFault step) = (old ≤ new) × Rises old new
IsMakeCause old new _ = ⊥
