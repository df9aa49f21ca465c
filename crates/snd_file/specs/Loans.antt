-- The disk that a handle gives back as it is closed, in every case.
use Rattle.std.specs.Prelude.{Option, None, Some, Result, Ok, Err}
use Rattle.std.specs.Borrow.{GName, MutBor}
use Rattle.snd_disk.specs.declared.disk.Step.{Step}
use Rattle.snd_edits.specs.declared.error.DiskFault.{DiskFault}

abbrev pub disk_back : {D E : Type 0} → Result (MutBor D) (E × MutBor D) → D
disk_back (Ok disk) = disk.now
disk_back (Err error) = error.1.now

abbrev pub loan_back : {D E : Type 0} → Result (MutBor D) (E × MutBor D) → GName
loan_back (Ok disk) = disk.ghost_name
loan_back (Err error) = error.1.ghost_name

-- the step that failed, where one did
abbrev pub fault_of : {R : Type 0} → Result R (DiskFault × R) → Option Step
fault_of (Ok disk) = None
fault_of (Err error) = Some error.0.0
