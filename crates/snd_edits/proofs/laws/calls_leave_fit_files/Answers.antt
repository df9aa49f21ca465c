use Rattle.snd_edits.proofs.SafeRests.{automatic_rest, cut_rest, leads_to_rest, sealed_rest, trimmed_rest, written_rest}
use Rattle.snd_edits.proofs.laws.calls_leave_fit_files.Goals as goal

pub returns-clause-sealed : goal.returns-clause-sealed
returns-clause-sealed c = sealed_rest

pub returns-clause-automatic : goal.returns-clause-automatic
returns-clause-automatic c = automatic_rest

pub returns-clause-cut : goal.returns-clause-cut
returns-clause-cut c = cut_rest

pub returns-clause-trimmed : goal.returns-clause-trimmed
returns-clause-trimmed c = trimmed_rest

pub returns-clause-written : goal.returns-clause-written
returns-clause-written c = written_rest

pub returns-clause-step : goal.returns-clause-step
returns-clause-step c = leads_to_rest
