-- Why a file is not opened whose walk stops.
use Rattle.snd_chunks.specs.declared.error.WalkError.{WalkError}
use Rattle.snd_chunks.specs.declared.error.WalkError.TheVariants.{Fault, Memory as walk_memory}
use Rattle.snd_layout.specs.declared.error.OpenError.{OpenError}
use Rattle.snd_layout.specs.declared.error.OpenError.TheVariants.{DiskFault, Memory as open_memory}

-- a fault stays the fault of its step, and want of memory stays that
abbrev pub open_error : WalkError → OpenError
open_error (Fault step) = DiskFault step
open_error walk_memory = open_memory
