use Rattle.snd_edits.proofs.EditedFiles.{automatic_reads_back, sealed_reads_back}
use Rattle.snd_edits.proofs.laws.sealed_files_read_back.Goals as goal

pub returns-clause-layout : goal.returns-clause-layout
returns-clause-layout c = sealed_reads_back

pub returns-clause-automatic : goal.returns-clause-automatic
returns-clause-automatic c = automatic_reads_back
