use Rattle.snd_w64.proofs.AllLaws.{keeps_laws}
use Rattle.snd_w64.proofs.laws.keeps_laws.Goals as goal

pub returns : goal.returns
returns c = keeps_laws
