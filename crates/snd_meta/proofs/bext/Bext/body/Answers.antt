use Rattle.std.proofs.Common.{subst}
use Rattle.snd_meta.specs.Broadcast.{IsBroadcast}
use Rattle.snd_meta.proofs.Broadcasting.{bext_again}
use Rattle.snd_meta.proofs.bext.Bext.body.Goals as goal

pub returns-clause-again : goal.returns-clause-again
returns-clause-again c = bext_again c.args.self.now (subst IsBroadcast c.self.view_is c.self.invariant)
