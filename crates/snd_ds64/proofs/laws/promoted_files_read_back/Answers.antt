use Rattle.snd_ds64.proofs.Kept.{promoted_keeps}
use Rattle.snd_ds64.proofs.Opens.{opens_promoted, promoted_reads_back}
use Rattle.snd_ds64.proofs.Reservations.{reservation_stands}
use Rattle.snd_ds64.proofs.laws.promoted_files_read_back.Goals as goal

pub returns-clause-reservation : goal.returns-clause-reservation
returns-clause-reservation c = reservation_stands

pub returns-clause-opens : goal.returns-clause-opens
returns-clause-opens c = opens_promoted

pub returns-clause-reads : goal.returns-clause-reads
returns-clause-reads c = promoted_reads_back

pub returns-clause-keeps : goal.returns-clause-keeps
returns-clause-keeps c = promoted_keeps
