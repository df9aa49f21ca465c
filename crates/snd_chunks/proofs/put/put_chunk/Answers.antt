use Rattle.snd_chunks.proofs.PutChunks.{chunk_put}
use Rattle.snd_chunks.proofs.put.put_chunk.Goals as goal

pub returns-clause-items : goal.returns-clause-items
returns-clause-items g c =
    chunk_put c.args.into.now.items c.args.id.now c.args.body.now c.put_all.new.into.items c.put_number.new.into.items c.put_all-2.new.into.items c.put_pad.new.into.items
    c.put_all.ensures.items c.put_number.ensures.items c.put_all-2.ensures.items c.put_pad.ensures.items
