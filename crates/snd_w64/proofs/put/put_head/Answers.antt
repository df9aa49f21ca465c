use Rattle.std.proofs.Common.{refl}
use Rattle.snd_w64.proofs.PutHeads.{head_put}
use Rattle.snd_w64.proofs.put.put_head.Goals as goal

pub returns-clause-items : goal.returns-clause-items
returns-clause-items g c = head_put c.args.into.now.items c.args.letters.now _ c.put_all.new.into.items c.put_all-2.new.into.items c.put_long.new.into.items c.args.len refl c.put_all.ensures.items c.put_all-2.ensures.items c.put_long.ensures.items
