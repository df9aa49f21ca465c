use Rattle.snd_svx.proofs.Sizes.{inner_is}
use Rattle.snd_svx.proofs.values.inner_bytes.Goals as goal

pub returns : goal.returns
returns c = inner_is c.args.layout.now c.args.frames c.bytes_in.result c.number_bytes.result.items c.number_bytes.ensures c.bytes_in.ensures
