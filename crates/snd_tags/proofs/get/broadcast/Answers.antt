use Rattle.std.proofs.Common.{arith}
use Rattle.std.proofs.lemmas.Grind.{common_steps}
use Rattle.snd_meta.specs.Broadcast.{bext_of}
use Rattle.snd_tags.proofs.get.broadcast.Goals as goal

pub returns-in_err-read-clause-answers : goal.returns-in_err-read-clause-answers
unfolding bext_of
returns-in_err-read-clause-answers g c = grind (arith, common_steps)
