use Rattle.snd_rf64.proofs.NewFiles.{top_put}
use Rattle.snd_rf64.proofs.head.top.Goals as goal

pub returns-clause-items : goal.returns-clause-items
returns-clause-items c =
    top_put c.args.size c.new-bytes.result.items c.put_all.new.into.items c.put_number.new.into.items c.put_all-2.new.into.items c.put_all-3.new.into.items c.put_number-2.new.into.items c.put_long.new.into.items c.put_long-2.new.into.items
    c.put_long-3.new.into.items c.put_number-3.new.into.items c.new-bytes.ensures c.put_all.ensures.items c.put_number.ensures.items c.put_all-2.ensures.items c.put_all-3.ensures.items c.put_number-2.ensures.items c.put_long.ensures.items
    c.put_long-2.ensures.items c.put_long-3.ensures.items c.put_number-3.ensures.items
