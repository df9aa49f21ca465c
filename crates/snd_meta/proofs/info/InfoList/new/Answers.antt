use Rattle.std.proofs.Common.{refl}
use Rattle.snd_meta.specs.Info.{listed}
use Rattle.snd_meta.proofs.info.InfoList.new.Goals as goal

pub returns : goal.returns
unfolding listed
returns c = refl
