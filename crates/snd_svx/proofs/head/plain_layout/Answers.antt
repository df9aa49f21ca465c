use Rattle.std.proofs.Common.{◌∙◌}
use Rattle.snd_svx.proofs.PlainHeads.{plain_shape}
use Rattle.snd_svx.proofs.head.plain_layout.Goals as goal

pub returns : goal.returns
returns c = c.made.ensures ∙ plain_shape c.args.params c.are_good.ensures c.requires
