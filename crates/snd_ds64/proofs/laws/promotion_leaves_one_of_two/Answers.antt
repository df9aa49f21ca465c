use Rattle.snd_ds64.proofs.Ways.{promotes_from_to, promoting_is_whole}
use Rattle.snd_ds64.proofs.laws.promotion_leaves_one_of_two.Goals as goal

pub returns-clause-whole : goal.returns-clause-whole
returns-clause-whole c = promoting_is_whole

pub returns-clause-ends : goal.returns-clause-ends
returns-clause-ends c = promotes_from_to
