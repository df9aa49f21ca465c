use Rattle.std.proofs.Common.{◌∙◌}
use Rattle.snd_rf64.proofs.NewFiles.{plain_shape}
use Rattle.snd_rf64.proofs.head.plain_layout.Goals as goal

pub returns : goal.returns
returns c = c.made.ensures ∙ plain_shape c.args.params c.plain_start-start.result c.requires c.plain_start-start.ensures.value
