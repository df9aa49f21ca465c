use Rattle.snd_wave.proofs.Putting.{fact_missing, fact_there}
use Rattle.snd_wave.proofs.closing.fact_size.Goals as goal

pub returns-then-has_fact-clause-size : goal.returns-then-has_fact-clause-size
returns-then-has_fact-clause-size c = fact_there c.args.params.now.codec c.has_fact.result c.has_fact.ensures c.if-has_fact.true

pub returns-else-has_fact-clause-size : goal.returns-else-has_fact-clause-size
returns-else-has_fact-clause-size c = fact_missing c.args.params.now.codec c.has_fact.result c.has_fact.ensures c.if-has_fact.false
