use Rattle.snd_w64.proofs.Sizes.{closed_is}
use Rattle.snd_w64.proofs.values.closing_bytes.Goals as goal

pub returns : goal.returns
returns c = closed_is c.args.layout.now c.args.frames c.end_of-end.result c.raised.result c.new-zeros.result.items c.put_zeros.new.into.items c.end_of-end.ensures.value c.raised.ensures c.new-zeros.ensures c.put_zeros.ensures.items
