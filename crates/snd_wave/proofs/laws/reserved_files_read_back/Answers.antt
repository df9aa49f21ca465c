use Rattle.snd_wave.proofs.MadeParts.{reserved_holds_all}
use Rattle.snd_wave.proofs.laws.reserved_files_read_back.Goals as goal

pub returns-clause-holds : goal.returns-clause-holds
returns-clause-holds c = reserved_holds_all
