use Rattle.snd_svx.proofs.Made.{made_holds_all}
use Rattle.snd_svx.proofs.laws.made_files_read_back.Goals as goal

pub returns-clause-holds : goal.returns-clause-holds
returns-clause-holds c = made_holds_all
