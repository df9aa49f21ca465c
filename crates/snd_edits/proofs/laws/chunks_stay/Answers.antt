use Rattle.snd_edits.proofs.KeptChunks.{edited_has_chunks, leads_keep_chunks}
use Rattle.snd_edits.proofs.laws.chunks_stay.Goals as goal

pub returns-clause-file : goal.returns-clause-file
returns-clause-file c = edited_has_chunks

pub returns-clause-step : goal.returns-clause-step
returns-clause-step c = leads_keep_chunks
