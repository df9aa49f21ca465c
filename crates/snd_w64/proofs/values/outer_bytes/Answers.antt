use Rattle.snd_w64.proofs.Sizes.{outer_is}
use Rattle.snd_w64.proofs.values.outer_bytes.Goals as goal

pub returns : goal.returns
returns c = outer_is c.args.layout.now c.args.frames c.end_of-end.result c.raised.result c.number_bytes.result.items c.end_of-end.ensures.value c.end_of-end.ensures.few c.raised.ensures c.number_bytes.ensures
