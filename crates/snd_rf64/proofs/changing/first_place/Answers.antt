use Rattle.snd_rf64.proofs.Putting.{first_is}
use Rattle.snd_rf64.proofs.changing.first_place.Goals as goal

pub returns-clause-place : goal.returns-clause-place
returns-clause-place c = first_is c.args.params.now c.plain_start.result c.requires c.plain_start.ensures.value
