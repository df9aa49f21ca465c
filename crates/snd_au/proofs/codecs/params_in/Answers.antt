use Rattle.std.proofs.Common.{rules}
use Rattle.snd_au.proofs.Encodings.{all_fit}
use Rattle.snd_au.proofs.codecs.params_in.Goals as goal

pub returns-clause-fits : goal.returns-clause-fits
returns-clause-fits c = all_fit c.args.order c.args.numbers c.new.result (search rules)
