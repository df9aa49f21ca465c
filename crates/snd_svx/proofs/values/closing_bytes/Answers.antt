use Rattle.snd_svx.proofs.Sizes.{closed_even, closed_odd}
use Rattle.snd_svx.proofs.values.closing_bytes.Goals as goal

pub returns-then-bytes_in-eq1 : goal.returns-then-bytes_in-eq1
returns-then-bytes_in-eq1 c = closed_odd c.args.layout.now c.args.frames c.bytes_in.result c.new-pad.result.items c.push.new.self.items c.bytes_in.ensures c.if-bytes_in-eq1.true c.new-pad.ensures c.push.ensures.items

pub returns-else-bytes_in-eq1 : goal.returns-else-bytes_in-eq1
returns-else-bytes_in-eq1 c = closed_even c.args.layout.now c.args.frames c.bytes_in.result c.new-pad.result.items c.bytes_in.ensures c.if-bytes_in-eq1.false c.new-pad.ensures
