use Rattle.std.proofs.Common.{arith}
use Rattle.snd_wave.proofs.Putting.{first_least, first_with}
use Rattle.snd_wave.proofs.closing.first_place.Goals as goal

pub returns-clause-place : goal.returns-clause-place
returns-clause-place c = first_with c.args.reserve c.args.params.now c.plain_start.result c.fact_size.result c.lead_size.result c.plain_start.ensures.value c.fact_size.ensures.size c.lead_size.ensures.size

pub returns-clause-least : goal.returns-clause-least
returns-clause-least c = omega (arith, returns-clause-place c, first_least c.args.reserve c.args.params.now)
