use Rattle.snd_svx.proofs.Starts.{begins_svx}
use Rattle.snd_svx.proofs.start.start_with.Goals as goal

pub returns-clause-begins : goal.returns-clause-begins
returns-clause-begins c = begins_svx c.args.chunks c.filled_start.result c.filled_start.ensures.value
