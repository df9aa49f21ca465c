use Rattle.snd_rf64.proofs.Contained.{keeps_laws}
use Rattle.snd_rf64.proofs.laws.keeps_laws.Goals as goal

pub returns : goal.returns
returns c = keeps_laws
