use Rattle.snd_svx.proofs.Bodies.{header_read}
use Rattle.snd_svx.proofs.reads.read_header.Goals as goal

pub returns-clause-told : goal.returns-clause-told
returns-clause-told g c = λ b told. header_read b c.fill.new.into c.args.chunk c.u16_at.result c.u16_at.ensures (c.in_ok-fill.ensures.told b told)
