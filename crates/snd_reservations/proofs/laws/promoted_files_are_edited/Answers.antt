use Rattle.snd_reservations.proofs.Edited.{promoted_is_bytes, promoted_is_edited, promoted_keeps_chunks, promoted_reads_back, promoted_sound}
use Rattle.snd_reservations.proofs.laws.promoted_files_are_edited.Goals as goal

pub returns-clause-state : goal.returns-clause-state
returns-clause-state c = promoted_is_edited

pub returns-clause-bytes : goal.returns-clause-bytes
returns-clause-bytes c = promoted_is_bytes

pub returns-clause-opens : goal.returns-clause-opens
returns-clause-opens c = promoted_reads_back

pub returns-clause-sound : goal.returns-clause-sound
returns-clause-sound c = promoted_sound

pub returns-clause-chunks : goal.returns-clause-chunks
returns-clause-chunks c = promoted_keeps_chunks
