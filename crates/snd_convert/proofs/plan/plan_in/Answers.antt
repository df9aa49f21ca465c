use Rattle.std.proofs.Common.{◌∙◌}
use Rattle.snd_output.proofs.Public.{same_channels}
use Rattle.snd_convert.proofs.plan.plan_in.Goals as goal

pub returns-clause-channels : goal.returns-clause-channels
returns-clause-channels c = same_channels c.from.result c.args.rate c.args.codec c.in_ok-params.params c.in_ok-params.ensures ∙ c.from.ensures
