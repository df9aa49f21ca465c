use Rattle.snd_w64.proofs.PutHeads.{chunk_put}
use Rattle.snd_w64.proofs.put.put_chunk.Goals as goal

pub returns-clause-items : goal.returns-clause-items
returns-clause-items g c = chunk_put c.args.into.now.items c.args.letters.now c.args.body.now c.put_head.new.into.items c.put_all.new.into.items c.put_zeros.new.into.items c.raised.result c.raised.ensures c.put_head.ensures.items c.put_all.ensures.items c.put_zeros.ensures.items
