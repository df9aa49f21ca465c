use Rattle.snd_sphere.proofs.AllLaws.{keeps_laws}
use Rattle.snd_sphere.proofs.laws.keeps_laws.Goals as goal

pub returns : goal.returns
returns c = keeps_laws
