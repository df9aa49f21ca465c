use Rattle.snd_reservations.proofs.Edited.{promoted_rests}
use Rattle.snd_reservations.proofs.Turning.{promoted_is_safe}
use Rattle.snd_reservations.proofs.laws.promoting_is_safe.Goals as goal

pub returns-clause-safe : goal.returns-clause-safe
returns-clause-safe c = promoted_is_safe

pub returns-clause-rests : goal.returns-clause-rests
returns-clause-rests c = promoted_rests
