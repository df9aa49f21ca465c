use Rattle.snd_edits.proofs.AreBytes.{leads_to_bytes, reached_is_bytes}
use Rattle.snd_edits.proofs.laws.files_are_bytes.Goals as goal

pub returns-clause-step : goal.returns-clause-step
returns-clause-step c = leads_to_bytes

pub returns-clause-steps : goal.returns-clause-steps
returns-clause-steps c = reached_is_bytes
