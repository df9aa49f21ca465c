use Rattle.snd_rf64.specs.Values.{side_value}
use Rattle.snd_rf64.proofs.values.side_bytes.Goals as goal

pub returns : goal.returns
unfolding side_value
returns c = c.number_bytes.ensures
