use Rattle.snd_wave.proofs.Contained.{keeps_laws}
use Rattle.snd_wave.proofs.laws.keeps_laws.Goals as goal

pub returns : goal.returns
returns c = keeps_laws
