use Rattle.snd_svx.proofs.Layouts.{layout_value}
use Rattle.snd_svx.proofs.layout.layout_of.Goals as goal

pub returns : goal.returns
returns c = record { value = layout_value c.params_of.result c.min.result c.args.header c.args.parts c.args.ends c.args.pieces c.params_of.ensures c.min.ensures }
