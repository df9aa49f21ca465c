use Rattle.snd_edits.proofs.EditedSteps.{leads_to_edited}
use Rattle.snd_edits.proofs.laws.calls_leave_edited_files.Goals as goal

pub returns-clause-step : goal.returns-clause-step
returns-clause-step c = leads_to_edited
