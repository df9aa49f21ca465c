use Rattle.snd_rf64.proofs.Putting.{closing_put}
use Rattle.snd_rf64.proofs.changing.closing_of.Goals as goal

pub returns-clause-bytes : goal.returns-clause-bytes
returns-clause-bytes c = closing_put c.new-bytes.result.items c.put_all.new.into.items c.put_number.new.into.items c.new-bytes.ensures c.put_all.ensures.items c.put_number.ensures.items
