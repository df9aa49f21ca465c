use Rattle.snd_svx.proofs.Sizes.{side_is}
use Rattle.snd_svx.proofs.values.side_bytes.Goals as goal

pub returns : goal.returns
returns c = side_is c.args.layout.now c.args.frames c.number_bytes.result.items c.number_bytes.ensures
