-- How a call that lays a reservation, and one that promotes, leaves what an open file knows, and what became of it. Each cause is exact.
use Rattle.std.specs.Prelude.{◌≡◌, ◌⊎◌, ℕ, true, false, None, Some, Result, Ok, Err, is_some}
use Rattle.snd_disk.specs.declared.disk.Step.{Step}
use Rattle.snd_edits.specs.Known.{Known}
use Rattle.snd_edits.specs.Outcomes.{Done, Faulted, Outcome, Refused}
use Rattle.snd_edits.specs.PieceCalls.{IsUntouched}
use Rattle.snd_edits.specs.WriteCalls.{known_sealed}
use Rattle.snd_reservations.specs.declared.error.PromoteError.{PromoteError}
use Rattle.snd_reservations.specs.declared.error.PromoteError.TheVariants as promote
use Rattle.snd_reservations.specs.declared.error.ReserveError.{ReserveError}
use Rattle.snd_reservations.specs.declared.error.ReserveError.TheVariants as reserve
use Rattle.snd_reservations.specs.States.{MayTurn, has_place, known_promoted, known_reserved}

-- ---- a reservation

-- no disk call has failed, no frame was written, updates are not automatic, and the head has a place for it
abbrev pub MayReserve : Known → Type 0
MayReserve k = IsUntouched k × (has_place k.shape ≡ true)

abbrev pub ReserveLeaves : {T : Type 0} → Known → Known → Result T ReserveError → Type 0
ReserveLeaves old new (Ok done) = MayReserve old × (new ≡ known_reserved old)
ReserveLeaves old new (Err (reserve.Broken step)) = (old.broken ≡ Some step) × (new ≡ old)
ReserveLeaves old new (Err reserve.FramesWritten) = (old.broken ≡ None) × (old.written ≡ true) × (new ≡ old)
ReserveLeaves old new (Err reserve.AutoOn) = (old.broken ≡ None) × (old.written ≡ false) × (old.automatic ≡ true) × (new ≡ old)
ReserveLeaves old new (Err reserve.NoRoom) = IsUntouched old × (has_place old.shape ≡ false) × (new ≡ old)
ReserveLeaves old new (Err (reserve.DiskFault step)) = MayReserve old × (new ≡ record old { broken = Some step })

abbrev pub reserve_outcome : {T : Type 0} → Result T ReserveError → Outcome
reserve_outcome (Ok value) = Done
reserve_outcome (Err (reserve.DiskFault step)) = Faulted
reserve_outcome (Err refusal) = Refused

-- ---- a promotion

-- no disk call has failed, and the file may be promoted
abbrev pub MayPromote : Known → Type 0
MayPromote k = (k.broken ≡ None) × MayTurn k.shape

-- where the disk fails, the layout is that of the file before, or of the sealed file
abbrev pub IsPromoteFault : Known → Known → Step → Type 0
IsPromoteFault old new step = (new ≡ record old { broken = Some step }) ⊎ (new ≡ record (known_sealed old) { broken = Some step })

-- the answer is how many frames there are
abbrev pub PromoteLeaves : Known → Known → Result ℕ PromoteError → Type 0
PromoteLeaves old new (Ok count) = MayPromote old × (count ≡ old.shape.frames) × (new ≡ known_promoted old)
PromoteLeaves old new (Err (promote.Broken step)) = (old.broken ≡ Some step) × (new ≡ old)
PromoteLeaves old new (Err promote.NoRoom) = (old.broken ≡ None) × (old.shape.reserve ≡ None) × (new ≡ old)
PromoteLeaves old new (Err promote.TrailingData) = (old.broken ≡ None) × (is_some old.shape.reserve ≡ true) × (old.shape.trailing ≡ true) × (new ≡ old)
PromoteLeaves old new (Err (promote.DiskFault step)) = MayPromote old × IsPromoteFault old new step

abbrev pub promote_outcome : {T : Type 0} → Result T PromoteError → Outcome
promote_outcome (Ok value) = Done
promote_outcome (Err (promote.DiskFault step)) = Faulted
promote_outcome (Err refusal) = Refused
