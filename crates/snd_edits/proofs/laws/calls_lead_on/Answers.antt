use Rattle.snd_edits.proofs.CarriedOut.{cut_leads, read_leads, seek_leads, seek_write_leads, trim_leads, write_leads}
use Rattle.snd_edits.proofs.laws.calls_lead_on.Goals as goal

pub returns-clause-write : goal.returns-clause-write
returns-clause-write c = write_leads

pub returns-clause-cut : goal.returns-clause-cut
returns-clause-cut c = cut_leads

pub returns-clause-trim : goal.returns-clause-trim
returns-clause-trim c = trim_leads

pub returns-clause-read : goal.returns-clause-read
returns-clause-read c = read_leads

pub returns-clause-seek : goal.returns-clause-seek
returns-clause-seek c = seek_leads

pub returns-clause-seek_write : goal.returns-clause-seek_write
returns-clause-seek_write c = seek_write_leads
