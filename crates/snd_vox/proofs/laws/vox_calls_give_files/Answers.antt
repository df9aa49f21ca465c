use Rattle.snd_vox.proofs.Calls.{vox_reads_give_sound, vox_puts_give_file}
use Rattle.snd_vox.proofs.laws.vox_calls_give_files.Goals as goal

pub returns-clause-reads : goal.returns-clause-reads
returns-clause-reads c = vox_reads_give_sound

pub returns-clause-puts : goal.returns-clause-puts
returns-clause-puts c = vox_puts_give_file
