use Rattle.std.proofs.Common.{refl}
use Rattle.snd_w64.proofs.PutHeads.{fact_put, no_fact_put}
use Rattle.snd_w64.proofs.head.put_fact.Goals as goal

pub returns-then-has_fact-clause-items : goal.returns-then-has_fact-clause-items
returns-then-has_fact-clause-items c = fact_put c.args.params.now.codec c.has_fact.result c.args.into.now.items c.put_chunk.new.into.items _ _ c.has_fact.ensures c.if-has_fact.true refl refl c.put_chunk.ensures.items

pub returns-else-has_fact-clause-items : goal.returns-else-has_fact-clause-items
returns-else-has_fact-clause-items c = no_fact_put c.args.params.now.codec c.has_fact.result c.args.into.now.items c.has_fact.ensures c.if-has_fact.false
